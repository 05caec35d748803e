-- One try of a machine's next step over a pass. This project's own profile.
use Rattle.std.specs.Prelude.{◌≡◌, ℕ, ◌+◌, ◌≤◌, List, ◌++◌}
use Rattle.snes_defs.specs.declared.ports.Side.{Side}
use Rattle.snes_defs.specs.declared.ports.Act.{Act}
use Rattle.snes_defs.specs.declared.ports.Act.TheVariants as act
use Rattle.port_entries.specs.Window.{IsSettled}
use Rattle.side_law.specs.Moves.{Moves}
use Rattle.commute_laws.specs.History.{History}
use Rattle.commute_laws.specs.Heard.{OnLook, heard_step}
use Rattle.port_wire.specs.declared.late.PassLate.{PassLate}
use Rattle.port_wire.specs.declared.late.CallName.{CallName}
use Rattle.port_wire.specs.declared.late.CallName.TheVariants.{Read, Clear, Write, Advance}
use Rattle.port_wire.specs.Seen.{Half}
use Rattle.port_wire.specs.Tally.{after_refusal}

-- the call that an act is made by: an advance where it is quiet
abbrev pub call_of : Act → CallName
call_of act.Quiet = Advance
call_of (act.Read port) = Read
call_of (act.Write port byte) = Write
call_of (act.Clear mask) = Clear

-- the step was made, against what the pass has heard by now
pub record Tried {State : Type 0} (side : Side) (moves : Moves State) (window : ℕ)
    (stands : State → Type 0) (new : Half) (waited waits : List ℕ) (before : History State) : Type 0 where
  pub now_stands : stands (heard_step side moves new.heard before).now
  pub entries : (heard_step side moves new.heard before).entries ≡ new.mine
  -- the bytes that it emitted wait
  pub emitted : List ℕ
  pub emitted_is : before.emitted ++ emitted ≡ (heard_step side moves new.heard before).emitted
  pub waits_is : waited ++ emitted ≡ waits
  -- a look was settled, and no step was further ahead than the window
  pub settled : OnLook (moves.act before.now) (IsSettled side (moves.stamp before.now) new.upto)
  pub within : moves.stamp before.now ≤ new.known + window

-- the step was held back: nothing was logged, and the refusal was counted
pub record IsHeldBack (name : CallName) (at : ℕ) (late : PassLate) (old new : Half) : Type 0 where
  pub mine : new.mine ≡ old.mine
  pub tally : new.tally ≡ after_refusal old.tally name at late

-- a half of a whole beside the other one: all that the other logged is heard, up to its clock
abbrev pub as_heard : Half → Half → Half
as_heard own other = record own { heard = other.mine; upto = other.at; known = other.at }
