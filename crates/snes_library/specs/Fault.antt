-- The numbers by which a fault of a held console is told. `embed/snes.h` has them under their names.
use Rattle.std.specs.Prelude.{◌≡◌, ℕ}
use Rattle.memory_player.specs.declared.inputs.End.TheVariants as end
use Rattle.frame_player.specs.declared.ends.BeginEnd.{BeginEnd}
use Rattle.frame_player.specs.declared.ends.BeginEnd.TheVariants as begin
use Rattle.frame_player.specs.declared.ends.FrameEnd.{FrameEnd}
use Rattle.frame_player.specs.declared.ends.FrameEnd.TheVariants as frame
use Rattle.snes_library.specs.declared.answer.SnesAnswer.{SnesAnswer}
use Rattle.snes_library.specs.declared.fault.Fault.{Fault}
use Rattle.snes_library.specs.declared.fault.Fault.TheVariants.{Empty, Full, Region, Slot, End}
use Rattle.snes_library.specs.Answer.{status_of, cause_of, place_of}

abbrev pub status_of_fault : Fault → ℕ
status_of_fault Empty = 6
status_of_fault Full = 7
status_of_fault Region = 3
status_of_fault Slot = 3
status_of_fault (End e) = status_of e

abbrev pub cause_of_fault : Fault → ℕ
cause_of_fault Empty = 13
cause_of_fault Full = 16
cause_of_fault Region = 14
cause_of_fault Slot = 15
cause_of_fault (End e) = cause_of e

abbrev pub place_of_fault : Fault → ℕ
place_of_fault Empty = 0
place_of_fault Full = 0
place_of_fault Region = 0
place_of_fault Slot = 0
place_of_fault (End e) = place_of e

-- why no console was made, and why no frame was played
abbrev pub fault_of_begin : BeginEnd → Fault
fault_of_begin begin.Frames = End end.Frames
fault_of_begin begin.Slots = Slot
fault_of_begin (begin.Refused cause) = End (end.Refused cause)
fault_of_begin begin.NoMemory = End end.NoMemory

abbrev pub fault_of_frame : FrameEnd → Fault
fault_of_frame frame.Frames = End end.Frames
fault_of_frame (frame.TooShort side) = End (end.TooShort side)

-- a fault is told by these numbers
pub record IsFaultTold (fault : Fault) (status : ℕ) (answer : SnesAnswer) : Type 0 where
  pub status_is : status ≡ status_of_fault fault
  pub cause_is : answer.cause ≡ cause_of_fault fault
  pub place_is : answer.place ≡ place_of_fault fault
  pub no_video : answer.video ≡ 0
  pub no_sound : answer.sound ≡ 0
