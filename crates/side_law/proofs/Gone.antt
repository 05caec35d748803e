-- Steps of a machine over ports: none, one more, one after another, and that their stamps rise.
use Rattle.std.proofs.Common.{◌≡◌, ℕ, zero, suc, ◌+◌, ◌<◌, ◌≤◌, ◌⊎◌, List, ◌++◌, length, refl, ap, sym, ◌∙◌, subst, arith, length-append}
use Rattle.snes_defs.specs.declared.region.Region.{Region}
use Rattle.snes_defs.specs.declared.ports.Act.{Act}
use Rattle.snes_defs.specs.declared.ports.Act.TheVariants.{Quiet, Read, Write, Clear}
use Rattle.clock_ratio.specs.Stamp.{least_of, most_of}
use Rattle.clock_ratio.proofs.Numbers.{numbers}
use Rattle.side_law.specs.Moves.{Moves, IsLawful, taken}
use Rattle.side_law.specs.declared.ports.Stop.{Stop}
use Rattle.side_law.specs.declared.ports.Stop.TheVariants.{Until, Emitted, Refused}
use Rattle.side_law.specs.Gone.{Calls, Over, HasMoved, IsAnswered, IsRefused, Goes, GoneBy, Gone, IsFull, HasStopped, IsOnWay, HasGone}

-- a step takes what its call got
pub taken_answered : {Ports : Type 0} (calls : Calls Ports) (at : ℕ) (act : Act) (got : ℕ) (p q : Ports) → IsAnswered calls at act got p q → taken act got ≡ got
taken_answered calls at Quiet got p q h = sym h.0
taken_answered calls at (Read port) got p q h = refl
taken_answered calls at (Write port byte) got p q h = sym h.0
taken_answered calls at (Clear mask) got p q h = sym h.0

-- the ports refuse what is refused
pub refused_by : {Ports : Type 0} (calls : Calls Ports) (at : ℕ) (act : Act) (p q : Ports) → IsRefused calls at act p q → calls.refuses at act p q
refused_by calls at Quiet p q h = absurd h
refused_by calls at (Read port) p q h = h
refused_by calls at (Write port byte) p q h = h
refused_by calls at (Clear mask) p q h = h

module _ {State Ports : Type 0} (moves : Moves State) (calls : Calls Ports) (until : ℕ) where
  -- no step
  pub gone_none : (x : Over State Ports) → Gone moves calls until x x
  gone_none x = record { steps = 0; made = refl }

  -- one step more
  pub gone_on : (x y z : Over State Ports) → Gone moves calls until x y → Goes moves calls until y z → Gone moves calls until x z
  gone_on x y z gone goes = record { steps = suc gone.steps; made = (y, gone.made, goes) }

  -- steps after steps
  gone_by : (n k : ℕ) (x y z : Over State Ports) → GoneBy moves calls until n x y → GoneBy moves calls until k y z → (m : ℕ) × GoneBy moves calls until m x z
  gone_by n zero x y z gone same = (n, subst (λ w. GoneBy moves calls until n x w) same gone)
  gone_by n (suc k) x y z gone (last, before, goes) =
      let all = gone_by n k x y last gone before in
      (suc all.0, (last, all.1, goes))

  pub gone_then : (x y z : Over State Ports) → Gone moves calls until x y → Gone moves calls until y z → Gone moves calls until x z
  gone_then x y z first then =
      let all = gone_by first.steps then.steps x y z first.made then.made in
      record { steps = all.0; made = all.1 }

-- of a lawful machine
module _ {State Ports : Type 0} (region : Region) (valid : State → Type 0) (most : ℕ) (moves : Moves State) (lawful : IsLawful region valid most moves) (calls : Calls Ports) (until : ℕ) where
  -- what steps keep
  pub record HasRisen (x y : Over State Ports) : Type 0 where
    pub is_valid : valid y.own
    -- the stamp has not fallen, and is higher if they emitted
    pub forward : moves.stamp x.own ≤ moves.stamp y.own
    pub longer : length x.waits ≤ length y.waits
    pub rose : length x.waits < length y.waits → moves.stamp x.own < moves.stamp y.own
    -- and no further than the longest step from `until`
    pub below : (bound : ℕ) → moves.stamp x.own ≤ bound → until + most_of region ≤ bound → moves.stamp y.own ≤ bound

  -- one step
  pub record HasStepped (x y : Over State Ports) : Type 0 where
    pub is_valid : valid y.own
    pub up : moves.stamp x.own + least_of region ≤ moves.stamp y.own
    pub at_most : moves.stamp y.own ≤ moves.stamp x.own + most_of region
    pub longer : length x.waits ≤ length y.waits
    pub emits_at_most : length y.waits ≤ length x.waits + most

  pub goes_up : (x y : Over State Ports) → valid x.own → Goes moves calls until x y → HasStepped x y
  goes_up x y is_valid goes =
      let few = lawful.emits_at_most x.own goes.got is_valid goes.byte in
      let joined = ap length goes.waits in
      let sum = length-append x.waits (moves.bytes x.own goes.got) in
      record {
        is_valid = subst valid goes.own (lawful.stays_valid x.own goes.got is_valid goes.byte);
        up = subst (λ m. moves.stamp x.own + least_of region ≤ moves.stamp m) goes.own (lawful.rises x.own goes.got is_valid goes.byte);
        at_most = subst (λ m. moves.stamp m ≤ moves.stamp x.own + most_of region) goes.own (lawful.rises_at_most x.own goes.got is_valid goes.byte);
        longer = omega (arith, joined, sum);
        emits_at_most = omega (arith, joined, sum, few);
      }

  rises_by : (n : ℕ) (x y : Over State Ports) → valid x.own → GoneBy moves calls until n x y → HasRisen x y
  rises_by zero x y is_valid same =
      subst (HasRisen x) same (record { is_valid = is_valid; forward = omega arith; longer = omega arith; rose = λ some. absurd (omega (arith, some)); below = λ bound here there. here })
  rises_by (suc n) x y is_valid (last, before, goes) =
      let h = rises_by n x last is_valid before in
      let k = goes_up last y h.is_valid goes in
      let some = (numbers region).rises in
      record {
        is_valid = k.is_valid;
        forward = omega (arith, h.forward, k.up);
        longer = omega (arith, h.longer, k.longer);
        rose = λ grew. omega (arith, h.forward, k.up, some);
        below = λ bound here there. omega (arith, goes.early, k.at_most, there);
      }

  pub gone_up : (x y : Over State Ports) → valid x.own → Gone moves calls until x y → HasRisen x y
  gone_up x y is_valid gone = rises_by gone.steps x y is_valid gone.made

-- one step, by the calls that made it: at its stamp, by its act
module _ {State Ports : Type 0} (moves : Moves State) (calls : Calls Ports) (until at : ℕ) (act : Act) (x : Over State Ports) (got : ℕ) (q : Ports) (more : List ℕ)
    (at_is : moves.stamp x.own ≡ at) (act_is : moves.act x.own ≡ act) (early : at < until) (byte : got < 256) (answered : IsAnswered calls at act got x.ports q)
    (joined : more ≡ x.waits ++ moves.bytes x.own (taken (moves.act x.own) got)) where
  answered_here : IsAnswered calls (moves.stamp x.own) (moves.act x.own) got x.ports q
  answered_here = subst (λ (a : Act). IsAnswered calls (moves.stamp x.own) a got x.ports q) (sym act_is) (subst (λ s. IsAnswered calls s act got x.ports q) (sym at_is) answered)

  takes_here : taken (moves.act x.own) got ≡ got
  takes_here = taken_answered calls (moves.stamp x.own) (moves.act x.own) got x.ports q answered_here

  -- that emits nothing
  pub goes_silently : length more ≤ length x.waits
      → Goes moves calls until x (record { own = moves.next x.own (taken (moves.act x.own) got); ports = q; waits = more })
  goes_silently few = record {
    early = omega (arith, at_is, early);
    got = got;
    byte = byte;
    called = q;
    answered = answered_here;
    own = ap (moves.next x.own) (sym takes_here);
    waits = ap (λ g. x.waits ++ moves.bytes x.own g) (sym takes_here) ∙ sym joined;
    silent = λ same. refl;
    room = λ some. absurd (omega (arith, some, few));
    told = λ some. absurd (omega (arith, some, few));
  }

  -- that emits, and of which the ports are told
  pub goes_emitting : (r : Ports) (waiting : ℕ) → length more ≡ waiting → length x.waits < waiting → at < calls.room x.ports (length x.waits) → calls.told at waiting q r
      → Goes moves calls until x (record { own = moves.next x.own (taken (moves.act x.own) got); ports = r; waits = more })
  goes_emitting r waiting is some room told = record {
    early = omega (arith, at_is, early);
    got = got;
    byte = byte;
    called = q;
    answered = answered_here;
    own = ap (moves.next x.own) (sym takes_here);
    waits = ap (λ g. x.waits ++ moves.bytes x.own g) (sym takes_here) ∙ sym joined;
    silent = λ same. absurd (omega (arith, same, is, some));
    room = λ grows. subst (λ s. s < calls.room x.ports (length x.waits)) (sym at_is) room;
    told = λ grows. subst (λ s. calls.told s (length more) q r) (sym at_is) (subst (λ n. calls.told at n q r) (sym is) told);
  }

-- steps from states in which a machine and its ports stood
module _ {State Ports : Type 0} (moves : Moves State) (calls : Calls Ports) (until : ℕ) (stands : State → Type 0) (stand : Ports → Type 0) (waited waits : List ℕ) (m : State) (p : Ports) where
  -- none
  pub way_none : stands m → stand p → IsOnWay moves calls until stands stand waited waited m p
  way_none now have = record { to = m; now_stands = now; ports = p; ports_stand = have; gone = gone_none moves calls until _ }

  -- where they led
  abbrev pub way_to : IsOnWay moves calls until stands stand waited waits m p → Over State Ports
  way_to h = record { own = h.to; ports = h.ports; waits = waits }

  -- and one more
  pub way_on : (next : State → Type 0) (have : Ports → Type 0) (more : List ℕ) (h : IsOnWay moves calls until stands stand waited waits m p) (to : State) (q : Ports)
      → Goes moves calls until (way_to h) (record { own = to; ports = q; waits = more }) → next to → have q
      → IsOnWay moves calls until next have waited more m p
  way_on next have more h to q goes now here = record { to = to; now_stands = now; ports = q; ports_stand = here; gone = gone_on moves calls until _ (way_to h) _ h.gone goes }

  -- why they stop
  module _ (most cap : ℕ) where
    pub stops_until : (h : IsOnWay moves calls until stands stand waited waits m p) → (until ≤ moves.stamp h.to) ⊎ IsFull moves calls until most cap (way_to h)
        → HasGone moves calls until most cap stands stand waited waits Until m p
    stops_until h ends = record { to = h.to; now_stands = h.now_stands; ports = h.ports; ports_stand = h.ports_stand; stopped = record { gone = h.gone; ends = ends } }

    pub stops_refused : (at : ℕ) (act : Act) (have : Ports → Type 0) (h : IsOnWay moves calls until stands stand waited waits m p) → moves.stamp h.to ≡ at → moves.act h.to ≡ act → at < until
        → HasMoved have (IsRefused calls at act h.ports)
        → HasGone moves calls until most cap stands have waited waits Refused m p
    stops_refused at act have h at_is act_is early moved = record {
      to = h.to;
      now_stands = h.now_stands;
      ports = moved.to;
      ports_stand = moved.now_stands;
      stopped = record {
        called = h.ports;
        gone = h.gone;
        early = omega (arith, at_is, early);
        refused = subst (λ (a : Act). IsRefused calls (moves.stamp h.to) a h.ports moved.to) (sym act_is) (subst (λ s. IsRefused calls s act h.ports moved.to) (sym at_is) moved.led);
      };
    }

    pub stops_emitted : (next : State → Type 0) (have : Ports → Type 0) (more : List ℕ) (at : ℕ) (h : IsOnWay moves calls until stands stand waited waits m p) (to : State) (q : Ports)
        → Goes moves calls until (way_to h) (record { own = to; ports = q; waits = more }) → next to → have q → moves.stamp h.to ≡ at → length waits < length more
        → HasGone moves calls until most cap next have waited more (Emitted at) m p
    stops_emitted next have more at h to q goes now here at_is some = record {
      to = to;
      now_stands = now;
      ports = q;
      ports_stand = here;
      stopped = record { last = way_to h; gone = h.gone; goes = goes; at_is = at_is; some = some };
    }

-- what was done before a stop
stopped_after : {State Ports : Type 0} (moves : Moves State) (calls : Calls Ports) (until most cap : ℕ) (stop : Stop) (x y z : Over State Ports)
    → Gone moves calls until x y → HasStopped moves calls until most cap stop y z → HasStopped moves calls until most cap stop x z
stopped_after moves calls until most cap Until x y z before h = record { gone = gone_then moves calls until x y z before h.gone; ends = h.ends }
stopped_after moves calls until most cap (Emitted at) x y z before h =
    record { last = h.last; gone = gone_then moves calls until x y h.last before h.gone; goes = h.goes; at_is = h.at_is; some = h.some }
stopped_after moves calls until most cap Refused x y z before h =
    record { called = h.called; gone = gone_then moves calls until x y (record z { ports = h.called }) before h.gone; early = h.early; refused = h.refused }

-- steps after steps, and why they stop
module _ {State Ports : Type 0} (moves : Moves State) (calls : Calls Ports) (until : ℕ) (stands next : State → Type 0) (stand have : Ports → Type 0) (waited waits more : List ℕ)
    (m : State) (p : Ports) (h : IsOnWay moves calls until stands stand waited waits m p) where
  pub way_after : IsOnWay moves calls until next have waits more h.to h.ports → IsOnWay moves calls until next have waited more m p
  way_after after = record { to = after.to; now_stands = after.now_stands; ports = after.ports; ports_stand = after.ports_stand; gone = gone_then moves calls until _ _ _ h.gone after.gone }

  pub stops_after : (most cap : ℕ) (stop : Stop) → HasGone moves calls until most cap next have waits more stop h.to h.ports → HasGone moves calls until most cap next have waited more stop m p
  stops_after most cap stop after = record {
    to = after.to;
    now_stands = after.now_stands;
    ports = after.ports;
    ports_stand = after.ports_stand;
    stopped = stopped_after moves calls until most cap stop _ _ _ h.gone after.stopped;
  }
