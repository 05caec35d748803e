-- The state on the heap may go to another thread, since its parts may, and any thread may free its block.
-- Assumes nothing.
use Prim.Native.Nat.{ℕ, zero, suc}
use mir.Raw.{raw}
use base.Fraction.{full_share}
use base.Shift.{Keyless}
use denote.RawPtr.{Ptr, block_ptr, null_ptr, lies_at}
use denote.Memory.{lone}
use denote.Param.Send.{IsSend, part_keyless, owning_send, sendable}
use Rattle.std.proofs.Crossing.{frees}
use Rattle.frame_player.specs.Told.{Told}
use Rattle.frame_player.proofs.console.Frames.TheSendSync.{the_send as state_send}
use Rattle.kept_frames.specs.Kept.{kept}
use Rattle.kept_frames.specs.contracts.kept.KeptFrames.{the_row, the_type}
use Rattle.kept_frames.proofs.Boxed.{State}

lies_keyless : (p : Ptr) (s : State.Denot) → Keyless (lies_at State full_share p s)
lies_keyless (block_ptr b o) s = part_keyless State state_send full_share s b o
lies_keyless null_ptr s = tt

kept_keyless : (n : ℕ) (p : Ptr) (told : Told) → Keyless (kept n p told)
kept_keyless zero p told = tt
kept_keyless (suc n) p told = λ s _ g. (lies_keyless p s, frees.frees g (raw (lone State.mir)) p)

pub send : IsSend the_row
send = owning_send the_type (search sendable, tt) (λ d. kept_keyless d.full d.at d.told) (λ k d w. tt)
