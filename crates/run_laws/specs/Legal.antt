-- Two machines that run by themselves, as the log of the ports lets them: lists of moves in any
-- order in which no side is refused. This project's own profile.
use Rattle.std.specs.Prelude.{ℕ, suc, ◌+◌, ◌≤◌, List, [], ◌∷◌}
use Rattle.snes_defs.specs.declared.region.Region.{Region}
use Rattle.snes_defs.specs.declared.ports.Side.{Side}
use Rattle.snes_defs.specs.declared.ports.Side.TheVariants.{Console, Sound}
use Rattle.snes_defs.specs.declared.ports.Act.{Act}
use Rattle.snes_defs.specs.declared.ports.Act.TheVariants.{Quiet, Read, Write, Clear}
use Rattle.clock_ratio.specs.Stamp.{least_of, window_of}
use Rattle.port_entries.specs.Entry.{Entry}
use Rattle.port_entries.specs.Window.{IsSettled, IsWithinWindow}
use Rattle.side_law.specs.Moves.{Moves}
use Rattle.commute_laws.specs.History.{History, history_of}
use Rattle.commute_laws.specs.Heard.{heard_step}

-- one side: its machine with its history, and the clock that it has published
pub record Half (State : Type 0) : Type 0 where
  pub history : History State
  pub clock : ℕ

-- both sides
pub record Halves (C S : Type 0) : Type 0 where
  pub console : Half C
  pub sound : Half S

-- nothing was done, and both clocks are 0
abbrev pub halves_of : {C S : Type 0} → C → S → Halves C S
halves_of c s = record {
  console = record { history = history_of c; clock = 0 };
  sound = record { history = history_of s; clock = 0 };
}

-- a side publishes a clock, or makes its next step. A step that writes publishes a clock with it
pub data Move : Type 0 where
  Publish : (side : Side) (clock : ℕ) → Move
  Step : (side : Side) (clock : ℕ) → Move

-- whether a side may make its next step at a stamp, by the other's clock. Where this fails, the
-- side is refused
abbrev pub MayStep : Region → Side → ℕ → ℕ → Act → Type 0
MayStep region side at other Quiet = IsWithinWindow (window_of region) at other
MayStep region side at other (Read port) = IsSettled side at other
MayStep region side at other (Write port byte) = IsWithinWindow (window_of region) at other
MayStep region side at other (Clear mask) = IsSettled side at other

-- the clock that stands after a step
abbrev pub clock_after : Act → ℕ → ℕ → ℕ
clock_after (Write port byte) own published = published
clock_after Quiet own published = own
clock_after (Read port) own published = own
clock_after (Clear mask) own published = own

-- a write at this stamp publishes a clock from the least rise later up to the new stamp
abbrev pub MayPublish : Region → Act → ℕ → ℕ → ℕ → Type 0
MayPublish region (Write port byte) at published new = (at + least_of region ≤ published) × (published ≤ new)
MayPublish region Quiet at published new = Unit {0}
MayPublish region (Read port) at published new = Unit {0}
MayPublish region (Clear mask) at published new = Unit {0}

module _ {State : Type 0} (side : Side) (moves : Moves State) (others : List Entry) where
  -- a side after a step, over the other side's entries
  abbrev pub stepped : Half State → ℕ → Half State
  stepped half published = record {
    history = heard_step side moves others half.history;
    clock = clock_after (moves.act half.history.now) half.clock published;
  }

  -- whether it may make that step, by the other side's clock
  abbrev pub IsStep : Region → ℕ → Half State → ℕ → Type 0
  IsStep region other half published =
      MayStep region side (moves.stamp half.history.now) other (moves.act half.history.now)
      × MayPublish region (moves.act half.history.now) (moves.stamp half.history.now) published
      (moves.stamp (heard_step side moves others half.history).now)

-- whether a side may publish a clock: not below its own, and not above its stamp
abbrev pub IsPublication : {State : Type 0} → Moves State → Half State → ℕ → Type 0
IsPublication moves half clock = (half.clock ≤ clock) × (clock ≤ moves.stamp half.history.now)

module _ {C S : Type 0} (console_moves : Moves C) (sound_moves : Moves S) where
  -- what a move leaves
  abbrev pub after_move : Move → Halves C S → Halves C S
  after_move (Publish Console clock) h = record {
    console = record { history = h.console.history; clock = clock };
    sound = h.sound;
  }
  after_move (Publish Sound clock) h = record {
    console = h.console;
    sound = record { history = h.sound.history; clock = clock };
  }
  after_move (Step Console clock) h = record {
    console = stepped Console console_moves h.sound.history.entries h.console clock;
    sound = h.sound;
  }
  after_move (Step Sound clock) h = record {
    console = h.console;
    sound = stepped Sound sound_moves h.console.history.entries h.sound clock;
  }

  -- what a list of moves leaves
  abbrev pub after_moves : List Move → Halves C S → Halves C S
  after_moves [] h = h
  after_moves (m ∷ ms) h = after_moves ms (after_move m h)

module _ {C S : Type 0} (region : Region) (console_moves : Moves C) (sound_moves : Moves S) where
  -- whether two machines of a region may make a move
  abbrev pub MayMake : Move → Halves C S → Type 0
  MayMake (Publish Console clock) h = IsPublication console_moves h.console clock
  MayMake (Publish Sound clock) h = IsPublication sound_moves h.sound clock
  MayMake (Step Console clock) h =
      IsStep Console console_moves h.sound.history.entries region h.sound.clock h.console clock
  MayMake (Step Sound clock) h =
      IsStep Sound sound_moves h.console.history.entries region h.console.clock h.sound clock

  -- a legal list: each of its moves may be made
  abbrev pub IsLegal : List Move → Halves C S → Type 0
  IsLegal [] h = Unit {0}
  IsLegal (m ∷ ms) h = MayMake m h × IsLegal ms (after_move console_moves sound_moves m h)

-- how many steps of a side are in a list of moves
abbrev pub steps_of : Side → List Move → ℕ
steps_of side [] = 0
steps_of Console (Step Console clock ∷ ms) = suc (steps_of Console ms)
steps_of Console (Step Sound clock ∷ ms) = steps_of Console ms
steps_of Console (Publish by clock ∷ ms) = steps_of Console ms
steps_of Sound (Step Sound clock ∷ ms) = suc (steps_of Sound ms)
steps_of Sound (Step Console clock ∷ ms) = steps_of Sound ms
steps_of Sound (Publish by clock ∷ ms) = steps_of Sound ms
