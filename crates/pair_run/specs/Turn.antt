-- What a turn has done to a pair of machines on the serial run. This project's own profile.
use Rattle.std.specs.Prelude.{◌≡◌, ℕ, ◌+◌, ◌*◌, ◌<◌, ◌≤◌, ◌↔◌, List, ◌++◌, length}
use Rattle.snes_defs.specs.declared.region.Region.{Region}
use Rattle.snes_defs.specs.declared.ports.Side.{Side}
use Rattle.snes_defs.specs.declared.ports.Side.TheVariants.{Console, Sound}
use Rattle.port_entries.specs.Entry.{Entry}
use Rattle.side_law.specs.Moves.{Moves}
use Rattle.commute_laws.specs.History.{History}
use Rattle.commute_laws.specs.Heard.{heard_step}
use Rattle.commute_laws.specs.Leg.{IsLeg}
use Rattle.commute_laws.specs.OnRun.{IsOnRun, StaysBelow}
use Rattle.port_wire.specs.Reach.{IsInReach}
use Rattle.port_wire.specs.Seen.{Half, Both, parted}
use Rattle.pair_run.specs.declared.ends.LegEnd.{LegEnd}
use Rattle.pair_run.specs.declared.ends.LegEnd.TheVariants as ends
use Rattle.pair_run.specs.declared.stepped.Stepped.{Stepped}
use Rattle.pair_run.specs.declared.stepped.Stepped.TheVariants.{Made, Ended}
use Rattle.pair_run.specs.Leg.{IfHeldBack, IsSpent, IsBeside}
use Rattle.pair_run.specs.Tried.{call_of}

-- a side's clock is published, and it knows one of the other side that is no earlier than a stamp
pub record HasPublished (region : Region) (at other : ℕ) (old new : Half) : Type 0 where
  pub mine : new.mine ≡ old.mine
  pub tally : new.tally ≡ old.tally
  pub clock : new.at ≡ at
  pub reach : IsInReach region at new
  pub knows : other ≤ new.known

-- a machine's value before the caller's step: both clocks are published
pub record IsBeforeStep (region of : Region) (most cap at other : ℕ) (half : Half) (waits : List ℕ) : Type 0 where
  pub same_region : of ≡ region
  pub room : length waits + most ≤ cap
  pub clock : half.at ≡ at
  pub reach : IsInReach region at half
  pub knows : other ≤ half.known

-- and after it
pub record IsAfterStep (region of : Region) (cap was at : ℕ) (old new : Half) (waits : List ℕ) : Type 0 where
  pub beside : IsBeside region of at new
  pub tally : new.tally ≡ old.tally
  pub forward : was ≤ at
  pub room : length waits ≤ cap

-- a machine's value after a turn, by the end of its leg
pub record IsAfterTurn (region of : Region) (most cap end at : ℕ) (leg_end : LegEnd) (half : Half) (waits : List ℕ) :
    Type 0 where
  pub beside : IsBeside region of at half
  pub room : length waits ≤ cap
  pub done : leg_end ≡ ends.Done → end ≤ at
  pub drain : leg_end ≡ ends.Drain → ¬ (length waits + 2 * most ≤ cap)

-- how many tries a leg of a turn has
abbrev pub tries_of_turn : ℕ
tries_of_turn = 4096

-- a machine's value stands where a history came to from `before`: its state is the history's, the entries
-- are logged, and what was emitted since `before` waits
pub record StandsBy {State : Type 0} (stands : State → Type 0) (half : Half) (waited waits : List ℕ)
    (before after : History State) : Type 0 where
  pub now_stands : stands after.now
  pub entries : after.entries ≡ half.mine
  pub emitted : List ℕ
  pub emitted_is : before.emitted ++ emitted ≡ after.emitted
  pub waits_is : waited ++ emitted ≡ waits

-- a leg from `before` to `after`, against a list that was heard, with the cause of its end: the machine has come to
-- the end stamp, it has not and has no room for the bytes of two more steps, or the calls of its next step were refused
pub record LegEnded {State : Type 0} (side : Side) (moves : Moves State) (end most cap : ℕ) (waited : List ℕ)
    (leg_end : LegEnd) (old new : Half) (before after : History State) : Type 0 where
  pub heard : List Entry
  pub upto : ℕ
  pub leg : IsLeg side moves heard upto end before after
  pub emitted : List ℕ
  pub emitted_is : before.emitted ++ emitted ≡ after.emitted
  pub done : (leg_end ≡ ends.Done) ↔ (end ≤ moves.stamp after.now)
  pub drain : (leg_end ≡ ends.Drain) ↔ ((moves.stamp after.now < end)
      × (¬ (length (waited ++ emitted) + 2 * most ≤ cap)))
  pub spent : IfHeldBack leg_end (λ late. IsSpent (call_of (moves.act after.now)) (moves.stamp after.now) late
      tries_of_turn (parted old) new)

module _ {C S : Type 0} (console_moves : Moves C) (sound_moves : Moves S) where
  -- one step of the earlier side, against all that the other side has logged, or none where both have come
  -- to the end
  abbrev pub IsStepped : ℕ → Stepped → History C → History S → History C → History S → Type 0
  IsStepped end (Made Console) c s after_c after_s =
      (console_moves.stamp c.now ≤ sound_moves.stamp s.now) × (console_moves.stamp c.now < end)
      × (after_c ≡ heard_step Console console_moves s.entries c) × (after_s ≡ s)
  IsStepped end (Made Sound) c s after_c after_s =
      (sound_moves.stamp s.now < console_moves.stamp c.now) × (sound_moves.stamp s.now < end)
      × (after_c ≡ c) × (after_s ≡ heard_step Sound sound_moves c.entries s)
  IsStepped end Ended c s after_c after_s =
      (end ≤ console_moves.stamp c.now) × (end ≤ sound_moves.stamp s.now) × (after_c ≡ c) × (after_s ≡ s)

  -- two legs, each against a list that its side has heard
  pub record AreLegs (end : ℕ) (c leg_c : History C) (s leg_s : History S) : Type 0 where
    pub heard_by_console : List Entry
    pub console_upto : ℕ
    pub console : IsLeg Console console_moves heard_by_console console_upto end c leg_c
    pub heard_by_sound : List Entry
    pub sound_upto : ℕ
    pub sound : IsLeg Sound sound_moves heard_by_sound sound_upto end s leg_s

  -- the caller's step
  pub record HasStepped (end : ℕ) (console_stands : C → Type 0) (sound_stands : S → Type 0) (new : Both)
      (console_waited console_waits sound_waited sound_waits : List ℕ) (stepped : Stepped)
      (c : History C) (s : History S) : Type 0 where
    pub after_c : History C
    pub after_s : History S
    pub stepped_is : IsStepped end stepped c s after_c after_s
    pub console : StandsBy console_stands new.console console_waited console_waits c after_c
    pub sound : StandsBy sound_stands new.sound sound_waited sound_waits s after_s

  -- wherever the pair stands: the two legs, each with the cause of its end, and then the caller's step
  pub record HasGone (end console_most console_cap sound_most sound_cap : ℕ)
      (console_stands : C → Type 0) (sound_stands : S → Type 0)
      (old new : Both) (console_waited console_waits sound_waited sound_waits : List ℕ)
      (console_end sound_end : LegEnd) (stepped : Stepped) (c : History C) (s : History S) : Type 0 where
    pub leg_c : History C
    pub leg_s : History S
    pub console_leg : LegEnded Console console_moves end console_most console_cap console_waited console_end old.console
        new.console c leg_c
    pub sound_leg : LegEnded Sound sound_moves end sound_most sound_cap sound_waited sound_end old.sound new.sound s
        leg_s
    pub after_c : History C
    pub after_s : History S
    pub stepped_is : IsStepped end stepped leg_c leg_s after_c after_s
    pub console : StandsBy console_stands new.console console_waited console_waits c after_c
    pub sound : StandsBy sound_stands new.sound sound_waited sound_waits s after_s

  -- from a pair on the serial run the two legs came to a pair on it, and the caller's step to another
  pub record HasTurned (console_start : C) (sound_start : S) (end : ℕ) (console_stands : C → Type 0)
      (sound_stands : S → Type 0)
      (old new : Both) (console_waited console_waits sound_waited sound_waits : List ℕ)
      (console_end sound_end : LegEnd) (stepped : Stepped) (c : History C) (s : History S) : Type 0 where
    pub leg_c : History C
    pub leg_s : History S
    pub after_c : History C
    pub after_s : History S
    pub on : IsOnRun console_moves sound_moves console_start sound_start after_c after_s
    pub below : StaysBelow console_moves sound_moves console_start sound_start end c s
        → StaysBelow console_moves sound_moves console_start sound_start end after_c after_s
    pub further : c.steps + s.steps < after_c.steps + after_s.steps
    pub legs_are : AreLegs end c leg_c s leg_s
    pub stepped_is : IsStepped end stepped leg_c leg_s after_c after_s
    pub console : StandsBy console_stands new.console console_waited console_waits c after_c
    pub sound : StandsBy sound_stands new.sound sound_waited sound_waits s after_s
    -- a side whose leg was held back had as many refusals in a row, by the call of the step where the leg ended
    pub console_spent : IfHeldBack console_end (λ late. IsSpent (call_of (console_moves.act leg_c.now))
        (console_moves.stamp leg_c.now) late tries_of_turn (parted old.console) new.console)
    pub sound_spent : IfHeldBack sound_end (λ late. IsSpent (call_of (sound_moves.act leg_s.now))
        (sound_moves.stamp leg_s.now) late tries_of_turn (parted old.sound) new.sound)
