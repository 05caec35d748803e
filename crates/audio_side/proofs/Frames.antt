use Rattle.std.proofs.Common.{◌≡◌, ℕ, ◌+◌, List, [], ◌∷◌, ◌++◌, refl, add-one, if◌then◌else◌}
use Rattle.snes_defs.specs.Script.{is_reset}
use Rattle.audio_side.specs.Clock.{reset_frames}

-- no frame, and one more than n
pub no_frame : (resets : List ℕ) → reset_frames resets 0 ≡ []
unfolding reset_frames
no_frame resets = refl

pub one_more_frame : (resets : List ℕ) (n : ℕ) → reset_frames resets (n + 1) ≡ reset_frames resets n ++ (if is_reset resets n then n ∷ [] else [])
unfolding reset_frames
one_more_frame resets n = rw add-one refl
