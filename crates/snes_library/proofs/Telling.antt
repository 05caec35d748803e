-- No end is told as the status of a job that was done.
use Rattle.std.proofs.Common.{◌≢◌, ℕ, List, sym, ◌∙◌, arith}
use Rattle.memory_player.specs.declared.inputs.End.{End}
use Rattle.memory_player.specs.declared.inputs.End.TheVariants.{Frames, Refused, NoMemory, TooShort}
use Rattle.snes_library.specs.declared.answer.SnesAnswer.{SnesAnswer}
use Rattle.frame_player.specs.declared.ends.FrameEnd.{FrameEnd}
use Rattle.frame_player.specs.declared.ends.FrameEnd.TheVariants as frame
use Rattle.frame_player.specs.Frames.{EndsFrame}
use Rattle.kept_frames.specs.declared.console.SnesConsole.{SnesConsole}
use Rattle.snes_library.specs.Answer.{status_of, IsToldAs}
use Rattle.snes_library.specs.Fault.{fault_of_frame}
use Rattle.snes_library.specs.Holding.{EndsPlayed}

not_done : (end : End) → status_of end ≢ 0
not_done Frames e = omega arith
not_done (Refused cause) e = omega arith
not_done NoMemory e = omega arith
not_done (TooShort side) e = omega arith

pub never_done : (end : End) (status : ℕ) (answer : SnesAnswer) → IsToldAs end status answer → status ≢ 0
never_done end status answer told e = not_done end (sym told.status_is ∙ e)

-- why no frame was played, told as a fault of the console that is held
pub frame_ends : (old : SnesConsole) (pad1 pad2 : ℕ) (video_old sound_old video_new sound_new : List ℕ) (end : FrameEnd)
    → EndsFrame old.kept.told pad1 pad2 video_old sound_old video_new sound_new end
    → EndsPlayed old pad1 pad2 video_old sound_old video_new sound_new (fault_of_frame end)
frame_ends old pad1 pad2 video_old sound_old video_new sound_new frame.Frames h = h
frame_ends old pad1 pad2 video_old sound_old video_new sound_new (frame.TooShort side) h = h
