-- A machine that advances over the ports behind it: many steps in one call, in order, each with what its call at the
-- ports was answered.
use Rattle.std.specs.Prelude.{◌≡◌, ℕ, zero, suc, ◌+◌, ◌<◌, ◌≤◌, ◌⊎◌, List, ◌++◌, length}
use Rattle.snes_defs.specs.declared.ports.Act.{Act}
use Rattle.snes_defs.specs.declared.ports.Act.TheVariants.{Quiet, Read, Write, Clear}
use Rattle.side_law.specs.declared.ports.Stop.{Stop}
use Rattle.side_law.specs.declared.ports.Stop.TheVariants.{Until, Emitted, Refused}
use Rattle.side_law.specs.Moves.{Moves}

-- what the calls of ports mean, over the states that they can be in
pub record Calls (Ports : Type 0) : Type 1 where
  -- a call at a stamp, by its act, leads from a state to another. A read gets this byte, any other call 0
  pub answers : ℕ → Act → ℕ → Ports → Ports → Type 0
  -- a call at a stamp, by its act, is refused. What that may change
  pub refuses : ℕ → Act → Ports → Ports → Type 0
  -- with so many bytes that wait a step may emit only if it begins before this stamp
  pub room : Ports → ℕ → ℕ
  -- a step that began at a stamp has emitted, and so many bytes wait
  pub told : ℕ → ℕ → Ports → Ports → Type 0

-- when calls may come: before a stamp, and those of two steps at least so far apart
pub record Times : Type 0 where
  pub before : ℕ
  pub rise : ℕ

-- the ports have come to a state in which they can stand
pub record HasMoved {Ports : Type 0} (stands leads : Ports → Type 0) : Type 0 where
  pub to : Ports
  pub now_stands : stands to
  pub led : leads to

-- from each state in which the ports stood a call led to one in which they stand
abbrev pub Leads : {Ports : Type 0} → (Ports → Type 0) → (Ports → Type 0) → (Ports → Ports → Type 0) → Type 0
Leads stood stands leads = (p : _) → stood p → HasMoved stands (leads p)

-- a machine, the ports behind it, and the bytes that wait in it
pub record Over (State Ports : Type 0) : Type 0 where
  pub own : State
  pub ports : Ports
  pub waits : List ℕ

module _ {Ports : Type 0} (calls : Calls Ports) where
  -- a step's call is answered. A quiet step makes none
  abbrev pub IsAnswered : ℕ → Act → ℕ → Ports → Ports → Type 0
  IsAnswered at Quiet got p q = (got ≡ 0) × (p ≡ q)
  IsAnswered at (Read port) got p q = calls.answers at (Read port) got p q
  IsAnswered at (Write port byte) got p q = (got ≡ 0) × calls.answers at (Write port byte) got p q
  IsAnswered at (Clear mask) got p q = (got ≡ 0) × calls.answers at (Clear mask) got p q

  -- a step's call is refused
  abbrev pub IsRefused : ℕ → Act → Ports → Ports → Type 0
  IsRefused at Quiet p q = ⊥
  IsRefused at (Read port) p q = calls.refuses at (Read port) p q
  IsRefused at (Write port byte) p q = calls.refuses at (Write port byte) p q
  IsRefused at (Clear mask) p q = calls.refuses at (Clear mask) p q

module _ {State Ports : Type 0} (moves : Moves State) (calls : Calls Ports) (until : ℕ) where
  -- ONE STEP, begun before `until`
  pub record Goes (x y : Over State Ports) : Type 0 where
    pub early : moves.stamp x.own < until
    -- the byte that its call got, and the ports after it
    pub got : ℕ
    pub byte : got < 256
    pub called : Ports
    pub answered : IsAnswered calls (moves.stamp x.own) (moves.act x.own) got x.ports called
    pub own : moves.next x.own got ≡ y.own
    pub waits : x.waits ++ moves.bytes x.own got ≡ y.waits
    -- a step that emits has room, and the ports are told of it
    pub silent : length x.waits ≡ length y.waits → called ≡ y.ports
    pub room : length x.waits < length y.waits → moves.stamp x.own < calls.room x.ports (length x.waits)
    pub told : length x.waits < length y.waits → calls.told (moves.stamp x.own) (length y.waits) called y.ports

  -- so many steps, one after another
  abbrev pub GoneBy : ℕ → Over State Ports → Over State Ports → Type 0
  GoneBy zero x y = x ≡ y
  GoneBy (suc n) x y = (last : Over State Ports) × GoneBy n x last × Goes last y

  pub record Gone (x y : Over State Ports) : Type 0 where
    pub steps : ℕ
    pub made : GoneBy steps x y

  -- a step that emits has no room: the ports give none, or the buffer has none for the most bytes of a step
  abbrev pub IsFull : ℕ → ℕ → Over State Ports → Type 0
  IsFull most cap x = (calls.room x.ports (length x.waits) ≤ moves.stamp x.own) ⊎ (cap < length x.waits + most)

  -- steps led from x to y, and there
  -- the next step is not before `until`, or may not emit
  pub record HasCome (most cap : ℕ) (x y : Over State Ports) : Type 0 where
    pub gone : Gone x y
    pub ends : (until ≤ moves.stamp y.own) ⊎ IsFull most cap y

  -- the last of them, begun at `at`, emitted
  pub record HasEmitted (at : ℕ) (x y : Over State Ports) : Type 0 where
    pub last : Over State Ports
    pub gone : Gone x last
    pub goes : Goes last y
    pub at_is : moves.stamp last.own ≡ at
    pub some : length last.waits < length y.waits

  -- the call of the next step, which is before `until`, was refused
  pub record WasRefused (x y : Over State Ports) : Type 0 where
    pub called : Ports
    pub gone : Gone x (record y { ports = called })
    pub early : moves.stamp y.own < until
    pub refused : IsRefused calls (moves.stamp y.own) (moves.act y.own) called y.ports

  -- WHY IT STOPPED
  abbrev pub HasStopped : ℕ → ℕ → Stop → Over State Ports → Over State Ports → Type 0
  HasStopped most cap Until x y = HasCome most cap x y
  HasStopped most cap (Emitted at) x y = HasEmitted at x y
  HasStopped most cap Refused x y = WasRefused x y

-- from states in which a machine and its ports stood, steps led to states in which they stand
pub record IsOnWay {State Ports : Type 0} (moves : Moves State) (calls : Calls Ports) (until : ℕ)
    (stands : State → Type 0) (stand : Ports → Type 0) (waited waits : List ℕ)
    (m : State) (p : Ports) : Type 0 where
  pub to : State
  pub now_stands : stands to
  pub ports : Ports
  pub ports_stand : stand ports
  pub gone : Gone moves calls until (record { own = m; ports = p; waits = waited })
      (record { own = to; ports = ports; waits = waits })

-- and it stopped there
pub record HasGone {State Ports : Type 0} (moves : Moves State) (calls : Calls Ports) (until most cap : ℕ)
    (stands : State → Type 0) (stand : Ports → Type 0) (waited waits : List ℕ) (stop : Stop)
    (m : State) (p : Ports) : Type 0 where
  pub to : State
  pub now_stands : stands to
  pub ports : Ports
  pub ports_stand : stand ports
  pub stopped : HasStopped moves calls until most cap stop (record { own = m; ports = p; waits = waited })
      (record { own = to; ports = ports; waits = waits })
