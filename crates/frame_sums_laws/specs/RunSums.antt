-- The sums of a run, as a file of sums has them.
use Rattle.std.specs.Prelude.{ℕ, List, map}
use Rattle.std.specs.List.{range_with_len}
use Rattle.snes_defs.specs.declared.region.Region.{Region}
use Rattle.frame_sums.specs.declared.file.SumPair.{SumPair}
use Rattle.frame_sums.specs.SumsFile.{SumsIn}
use Rattle.frame_sums.specs.Compare.{run_pair, run_all}

-- the sums of so many frames, from frame 0 on: those of frame 0, of frame 1 and so on
abbrev pub run_pairs : Region → (video audio : List ℕ) → ℕ → List SumPair
run_pairs region video audio frames = map (run_pair region video audio) (range_with_len 0 frames)

-- the sums of a run of so many frames that emits this video and this audio: of each frame in order, and of all
abbrev pub run_sums : Region → ℕ → (video audio : List ℕ) → SumsIn
run_sums region frames video audio = record { frames = run_pairs region video audio frames; all = run_all video audio }
