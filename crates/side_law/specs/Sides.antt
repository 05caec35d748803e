-- One side's machine with the bytes at its ports, while the other side stands still.
use Rattle.std.specs.Prelude.{ℕ, List}
use Rattle.side_law.specs.Moves.{Moves}
use Rattle.side_law.specs.Serial.{got_of, incoming_after, outgoing_after}

-- one side's machine, and the bytes at its ports
pub record SideState (State : Type 0) : Type 0 where
  pub own : State
  pub incoming : List ℕ
  pub outgoing : List ℕ

module _ {State : Type 0} (moves : Moves State) where
  -- one step of the side, and the bytes that it emits
  abbrev pub side_step : SideState State → SideState State
  side_step p = record {
    own = moves.next p.own (got_of (moves.act p.own) p.incoming);
    incoming = incoming_after (moves.act p.own) p.incoming;
    outgoing = outgoing_after (moves.act p.own) p.outgoing;
  }

  abbrev pub side_bytes : SideState State → List ℕ
  side_bytes p = moves.bytes p.own (got_of (moves.act p.own) p.incoming)
