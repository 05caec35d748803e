-- A voice whose block is its last one: with the end, and without the loop.
use Rattle.std.specs.Prelude.{◌≡◌, ℕ, ◌<◌, List, IsTrue}
use Rattle.sdsp_voice.specs.Registers.{voice}
use Rattle.sdsp_voice.specs.Sample.{is_in_last_block}
use Rattle.sdsp_voice.specs.declared.voice.Phase.TheVariants.{Release}
use Rattle.sdsp_voice.specs.declared.voice.Voice.{Voice}
use Rattle.sdsp_voice.specs.declared.voices.Voices.{Voices}

-- silent, and in release: no envelope makes it heard before it is started again
pub record IsCut (w : Voice) : Type 0 where
  pub silent : w.envelope ≡ 0
  pub released : w.phase ≡ Release

-- each voice at such a block is so
abbrev pub HasCutEnds : List ℕ → Voices → Type 0
HasCutEnds ram d = (v : ℕ) → v < 8 → IsTrue (is_in_last_block ram (voice d v)) → IsCut (voice d v)
