-- Counts of calls and faults, which stand still at the end of their 64 bits.
use Rattle.std.specs.Prelude.{ℕ, ◌+◌, ◌^◌, nat_lt, if◌then◌else◌}
use Rattle.shelf.specs.declared.shelves.Out.{Out}
use Rattle.shelf.specs.declared.shelves.Out.TheVariants.{Video, Sound, Image, Sums, State, Spc, Say}
use Rattle.shelf.specs.declared.counts.Counts.{Counts}

-- a count after one more
abbrev pub next : ℕ → ℕ
next count = if nat_lt (count + 1) (2 ^ 64) then count + 1 else count

-- the count of an output
abbrev pub count_of : Counts → Out → ℕ
count_of counts Video = counts.video
count_of counts Sound = counts.sound
count_of counts Image = counts.image
count_of counts Sums = counts.sums
count_of counts State = counts.state
count_of counts Spc = counts.spc
count_of counts Say = counts.say

-- the counts after one more of an output
abbrev pub counted : Counts → Out → Counts
counted counts Video = record counts { video = next counts.video }
counted counts Sound = record counts { sound = next counts.sound }
counted counts Image = record counts { image = next counts.image }
counted counts Sums = record counts { sums = next counts.sums }
counted counts State = record counts { state = next counts.state }
counted counts Spc = record counts { spc = next counts.spc }
counted counts Say = record counts { say = next counts.say }

-- nothing counted
abbrev pub none_counted : Counts
none_counted = record { video = 0; sound = 0; image = 0; sums = 0; state = 0; spc = 0; say = 0 }
