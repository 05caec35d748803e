-- What a player emits for a stem, sample by sample.
use Rattle.std.specs.Prelude.{ℕ, ◌-◌, List}
use Rattle.audio_side.specs.Stem.{stem_emitted}
use Rattle.spc_player.specs.Play.{Playing, after_steps, to_sample}

-- THE NEXT SAMPLE OF A STEM: the four bytes that it emits in the step that makes the next sample
abbrev pub stem_sample : ℕ → Playing → List ℕ
stem_sample stem w = stem_emitted stem (after_steps w (to_sample w - 1)).sound
