-- What lies behind the pointer that C holds: at 0 nothing, else a state of what was told. Assumes nothing: this is a
-- definition.
use Rattle.std.specs.Prelude.{ℕ, zero, suc}
use base.Fml.{Fml, ftrue, fex}
use denote.RawPtr.{Ptr}
use Rattle.kept_frames.specs.Boxes.{heap_owns}
use Rattle.frame_player.specs.Told.{Told}
use Rattle.frame_player.specs.Frames.{IsFramesOf}
use Rattle.frame_player.specs.declared.console.Frames.{Frames}
use Rattle.frame_player.specs.contracts.console.Frames.{the_row}

abbrev pub kept : ℕ → Ptr → Told → Fml
kept zero at told = ftrue
kept (suc n) at told = fex Frames (λ f. fex (IsFramesOf told f) (λ _. heap_owns the_row at f))
