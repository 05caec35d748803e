-- A machine with its history: a machine that records what it has done is again a machine, so the
-- serial run of two such machines is the serial run with its history.
use Rattle.std.specs.Prelude.{ℕ, suc, List, [], ◌∷◌, ◌++◌}
use Rattle.snes_defs.specs.declared.ports.Act.{Act}
use Rattle.snes_defs.specs.declared.ports.Act.TheVariants.{Quiet, Read, Write, Clear}
use Rattle.port_entries.specs.Entry.{Entry, WriteAt, ClearAt}
use Rattle.side_law.specs.Moves.{Moves}

-- a state, and how it was come to: how many steps were made, the entries of the writes and clears
-- among them, and the bytes emitted, in order
pub record History (State : Type 0) : Type 0 where
  pub now : State
  pub steps : ℕ
  pub entries : List Entry
  pub emitted : List ℕ

-- nothing was done yet
abbrev pub history_of : {State : Type 0} → State → History State
history_of m = record { now = m; steps = 0; entries = []; emitted = [] }

-- the entry of a step at this stamp, if it has one
abbrev pub entry_of : ℕ → Act → List Entry
entry_of at (Write port byte) = WriteAt at port byte ∷ []
entry_of at (Clear mask) = ClearAt at mask ∷ []
entry_of at Quiet = []
entry_of at (Read port) = []

-- the history after one more step, which takes the byte `got`
abbrev pub history_after : {State : Type 0} → Moves State → History State → ℕ → History State
history_after moves h got = record {
  now = moves.next h.now got;
  steps = suc h.steps;
  entries = h.entries ++ entry_of (moves.stamp h.now) (moves.act h.now);
  emitted = h.emitted ++ moves.bytes h.now got;
}

-- the machine that records its history
abbrev pub recorded : {State : Type 0} → Moves State → Moves (History State)
recorded moves = record {
  stamp = λ h. moves.stamp h.now;
  act = λ h. moves.act h.now;
  next = history_after moves;
  bytes = λ h got. moves.bytes h.now got;
}
