-- Accesses over the ports before the beam's next place: those of memory, one of the B bus, and some after others.
use Rattle.std.proofs.Common.{◌≡◌, ◌∙◌, ◌+◌, ◌-◌, ◌*◌, ◌%◌, ◌<◌, ◌≤◌, ◌==◌, ℕ, List, Bool, true, false, nat_lt, refl, sym, ap, subst, arith, if◌then◌else◌}
use Rattle.snes_defs.specs.declared.region.Region.{Region}
use Rattle.snes_defs.specs.declared.region.Region.TheVariants.{Ntsc, Pal}
use Rattle.snes_defs.specs.declared.ports.Act.{Act}
use Rattle.snes_defs.specs.declared.ports.Act.TheVariants.{Read as PortRead, Write as PortWrite}
use Rattle.snes_defs.specs.declared.ports.Side.TheVariants.{Console}
use Rattle.clock_ratio.specs.Stamp.{rate_of, least_of}
use Rattle.side_law.specs.declared.ports.Stop.TheVariants.{Refused}
use Rattle.side_law.specs.Moves.{taken}
use Rattle.side_law.specs.Gone.{Calls, Leads, IsAnswered, IsRefused, IsOnWay, HasGone}
use Rattle.side_law.proofs.Gone.{goes_silently, way_none, way_to, way_on, way_after, stops_refused}
use Rattle.cpu_tables.specs.declared.access.Access.{Access}
use Rattle.cart_map.specs.declared.places.Place.TheVariants.{BBus}
use Rattle.cpu65816.specs.declared.processor.Cpu.{Cpu}
use Rattle.cpu65816.specs.Stands.{access_of}
use Rattle.dma_hdma.specs.Channels.{due_of as transfer_of}
use Rattle.beam.specs.Places.{clocks_left}
use Rattle.console_bus.specs.BusState.{BusState}
use Rattle.console_bus.specs.Places.{is_port, register_read}
use Rattle.console_steps.specs.ConsoleState.{ConsoleState, read_at, write_at, access_act, act_of, due_of, console_after, console_moves}
use Rattle.console_steps.specs.AtOnce.{IsMadeAtOnce}
use Rattle.console_steps.specs.Plain.{IsWired, IsCalm}
use Rattle.console_machine.specs.Follows.{Follows}
use Rattle.console_machine.specs.Ports.{IsPortMade}
use Rattle.console_machine.specs.PortAccesses.{HasMade, HasPassed, IsBefore, stamp_before, RunsBefore, HeldBefore}
use Rattle.console_machine.specs.Side.{ConsoleValue, StandsAt}
use Rattle.console_machine.specs.SideLaws.{step_keeps}
use Rattle.console_machine.specs.Taken.{console_step_taken, bytes_taken}
use Rattle.console_machine.proofs.AtOnce.{act_due}
use Rattle.console_machine.proofs.Ports.{is_port_step, nothing_joins}
use Rattle.console_machine.proofs.PortRuns.{quiet_way}
use Rattle.console_machine.proofs.Runs.{run_is_silent}

-- ---- reads of registers

record SameDues (r q : BusState) : Type 0 where
  pub channels : q.channels ≡ r.channels
  pub refresh : q.refresh ≡ r.refresh
  pub reset : q.reset ≡ r.reset

if_dues : (b : Bool) (x y r : BusState) → SameDues r x → SameDues r y → SameDues r (if b then x else y)
if_dues true x y r h k = h
if_dues false x y r h k = k

read_dues : (r : BusState) (n : ℕ) → SameDues r (register_read r n)
unfolding register_read
read_dues r n =
    if_dues (nat_lt n 0x40) _ _ r (record { channels = refl; refresh = refl; reset = refl })
    (if_dues (n == 0x80) _ _ r (record { channels = refl; refresh = refl; reset = refl })
    (record { channels = refl; refresh = refl; reset = refl }))

-- nothing is due after one that was not before
pub calm_read : (bus bus' : BusState) (n : ℕ) → bus' ≡ register_read bus n → IsCalm bus → IsCalm bus'
calm_read bus bus' n is calm =
    let same = read_dues bus n in
    let P : BusState → Type 0 = λ r. IsCalm r in
    subst P (sym is) (record {
      reset = same.reset ∙ calm.reset;
      refresh = same.refresh ∙ calm.refresh;
      transfer = ap transfer_of same.channels ∙ calm.transfer;
    })

-- an access made at once is one that got 0
pub at_once_made : (cpu cpu' : Cpu) (bus bus' : BusState) (access : Access) → IsMadeAtOnce cpu cpu' bus bus' access 6 → IsPortMade cpu cpu' bus bus' access 0
at_once_made cpu cpu' bus bus' access m = record { lasts = sym m.lasts; nothing = m.nothing; rest = m.rest; processor = m.processor }

-- and without a call
pub made_quietly : {Ports : Type 0} (calls : Calls Ports) (at : ℕ) (access : Access) (cpu cpu' : Cpu) (bus bus' : BusState) (stand : Ports → Type 0) (p : Ports)
    → IsMadeAtOnce cpu cpu' bus bus' access 6 → stand p → HasMade calls at access cpu cpu' bus bus' stand p
made_quietly calls at access cpu cpu' bus bus' stand p m now = record {
  got = 0;
  small = omega arith;
  ports = p;
  ports_stand = now;
  answered = subst (λ (a : Act). IsAnswered calls at a 0 p p) (sym m.quiet) (refl, refl);
  made = at_once_made cpu cpu' bus bus' access m;
}

-- what a port's access is at the ports
pub port_is_read : (n : ℕ) → is_port n ≡ true → PortRead (n % 4) ≡ read_at (BBus n)
port_is_read n h = rw h refl

pub port_is_write : (n v : ℕ) → is_port n ≡ true → v < 256 → PortWrite (n % 4) v ≡ write_at (BBus n) v
port_is_write n v h small = rw h (ap (PortWrite (n % 4)) (omega (arith, small)))

-- ---- stamps

rate_distributes : (r : Region) (a b : ℕ) → rate_of r Console * (a + b) ≡ rate_of r Console * a + rate_of r Console * b
rate_distributes Ntsc a b = omega arith
rate_distributes Pal a b = omega arith

pub rate_least : (r : Region) (a b : ℕ) → a ≤ b → rate_of r Console * a ≤ rate_of r Console * b
rate_least Ntsc a b h = omega (arith, h)
rate_least Pal a b h = omega (arith, h)

rate_some : (r : Region) (n : ℕ) → 6 < n → least_of r < rate_of r Console * n
rate_some Ntsc n h = omega (arith, h)
rate_some Pal n h = omega (arith, h)

rate_less : (r : Region) (a b : ℕ) → b ≡ a - 6 → 6 < a → rate_of r Console * b + least_of r ≡ rate_of r Console * a
rate_less Ntsc a b is h = omega (arith, is, h)
rate_less Pal a b is h = omega (arith, is, h)

-- fewer clocks are left: the stamp is not earlier
pub stamp_later : (r : Region) (goal : ℕ) (bus bus' : BusState) → clocks_left bus'.beam ≤ clocks_left bus.beam → stamp_before r goal bus ≤ stamp_before r goal bus'
stamp_later r goal bus bus' fewer =
    let less = rate_least r (clocks_left bus'.beam) (clocks_left bus.beam) fewer in
    omega (arith, less)

-- six fewer
pub stamp_next : (r : Region) (goal : ℕ) (bus bus' : BusState) → 6 < clocks_left bus.beam → HasPassed bus bus' → rate_of r Console * clocks_left bus.beam ≤ goal
    → stamp_before r goal bus' ≡ stamp_before r goal bus + least_of r
stamp_next r goal bus bus' few passed within =
    let less = rate_less r (clocks_left bus.beam) (clocks_left bus'.beam) passed.left few in
    omega (arith, less, within)

-- the next step begins before the place
pub stamp_early : (r : Region) (goal : ℕ) (bus : BusState) → 6 < clocks_left bus.beam → rate_of r Console * clocks_left bus.beam ≤ goal → stamp_before r goal bus < goal
stamp_early r goal bus few within =
    let some = rate_some r (clocks_left bus.beam) few in
    omega (arith, some, within)

-- ---- a state before the place

module _ (region : Region) (goal : ℕ) where
  pub before_stamp : (cpu : Cpu) (bus : BusState) (w : ConsoleState) → IsBefore region goal cpu bus w → console_moves.stamp w ≡ stamp_before region goal bus
  before_stamp cpu bus w h =
      let is : console_moves.stamp w ≡ rate_of region Console * w.clock = ap (λ (r : Region). rate_of r Console * w.clock) h.console.region in
      let both = rate_distributes region w.clock (clocks_left bus.beam) in
      let place = h.place in
      omega (arith, is, both, place)

  pub before_within : (cpu : Cpu) (bus : BusState) (w : ConsoleState) → IsBefore region goal cpu bus w → rate_of region Console * clocks_left bus.beam ≤ goal
  before_within cpu bus w h =
      let both = rate_distributes region w.clock (clocks_left bus.beam) in
      let place = h.place in
      omega (arith, both, place)

  -- as a value
  abbrev value_before : Cpu → BusState → List ℕ → ℕ → ConsoleValue
  value_before cpu bus waits stamp = record { cpu = cpu; rest = bus; region = region; stamp = stamp; waiting = waits }

  pub stands_before : (cpu : Cpu) (bus : BusState) (waits : List ℕ) (stamp : ℕ) (w : ConsoleState) → IsBefore region goal cpu bus w → stamp ≡ stamp_before region goal bus
      → StandsAt (value_before cpu bus waits stamp) w
  stands_before cpu bus waits stamp w h is =
      let both = rate_distributes region w.clock (clocks_left bus.beam) in
      let place = h.place in
      record { at = h.at; stamp = omega (arith, both, place, is); console = h.console }

  pub before_stands : (cpu : Cpu) (bus : BusState) (waits : List ℕ) (stamp : ℕ) (w : ConsoleState) → StandsAt (value_before cpu bus waits stamp) w
      → IsCalm bus → IsWired cpu bus → goal ≡ stamp + rate_of region Console * clocks_left bus.beam → IsBefore region goal cpu bus w
  before_stands cpu bus waits stamp w h calm wired is =
      let both = rate_distributes region w.clock (clocks_left bus.beam) in
      let now = h.stamp in
      record { at = h.at; console = h.console; calm = calm; wired = wired; place = omega (arith, both, now, is) }

  -- after accesses of memory
  pub follows_before : (cpu cpu' : Cpu) (bus bus' : BusState) (w : ConsoleState) → Follows cpu cpu' bus bus' → IsBefore region goal cpu bus w
      → (to : ConsoleState) × IsBefore region goal cpu' bus' to
  follows_before cpu cpu' bus bus' w f h =
      let came = f.come w h.at h.console.line h.calm h.wired in
      let left = f.left in
      let clock = came.run.after.clock in
      let sum : came.run.to.clock + clocks_left bus'.beam ≡ w.clock + clocks_left bus.beam = omega (arith, left, clock) in (
        came.run.to,
        record {
          at = came.run.at;
          console = record { region = came.run.after.region ∙ h.console.region; line = came.run.after.line };
          calm = f.calm h.calm;
          wired = came.wired;
          place = ap (λ n. rate_of region Console * n) sum ∙ h.place;
        },
      )

  -- after an access of the B bus
  pub access_before : (cpu cpu' : Cpu) (bus bus' : BusState) (w : ConsoleState) (got : ℕ) → IsBefore region goal cpu bus w → 6 < clocks_left bus.beam
      → HasPassed bus bus' → IsPortMade cpu cpu' bus bus' (access_of cpu) got → IsBefore region goal cpu' bus' (console_after w (due_of w) got)
  access_before cpu cpu' bus bus' w got h few passed m =
      let step = is_port_step cpu cpu' bus bus' w got h.at m h.calm in
      let kept = step_keeps w (due_of w) got h.console.line in
      let clock = kept.clock in
      let lasts = step.lasts in
      let left = passed.left in
      let sum : (console_after w (due_of w) got).clock + clocks_left bus'.beam ≡ w.clock + clocks_left bus.beam = omega (arith, left, clock, lasts, few) in
      let now = m.processor w.processor h.at.processor in
      let W : BusState → Type 0 = λ r. IsWired cpu' r in
      record {
        at = step.at;
        console = record { region = kept.region ∙ h.console.region; line = kept.line };
        calm = passed.calm h.calm;
        wired = subst W (sym m.rest) (record { nmi = now.nmi_level; irq = now.irq_level });
        place = ap (λ n. rate_of region Console * n) sum ∙ h.place;
      }

  -- ---- over the ports

  module _ {Ports : Type 0} (calls : Calls Ports) (until : ℕ) (soon : goal ≤ until) (waits : List ℕ) (w : ConsoleState) (p : Ports) where
    -- accesses of memory
    pub way_following : (cpu cpu' : Cpu) (bus bus' : BusState) (stand : Ports → Type 0) → Follows cpu cpu' bus bus' → IsBefore region goal cpu bus w → stand p
        → IsOnWay console_moves calls until (IsBefore region goal cpu' bus') stand waits waits w p
    way_following cpu cpu' bus bus' stand f h now =
        let came = f.come w h.at h.console.line h.calm h.wired in
        let n = clocks_left bus.beam - clocks_left bus'.beam in
        let stamp = stamp_before region goal bus in
        let old = value_before cpu bus waits stamp in
        let new = value_before cpu' bus' waits (stamp + rate_of region Console * n) in
        let left = f.left in
        let within = before_within cpu bus w h in
        let sum = ap (λ k. rate_of region Console * k) (let e : n + clocks_left bus'.beam ≡ clocks_left bus.beam = omega (arith, left) in e) in
        let both = rate_distributes region n (clocks_left bus'.beam) in
        let is : stamp + rate_of region Console * n ≡ stamp_before region goal bus' = omega (arith, within, sum, both) in
        let run = run_is_silent old new w n until (stands_before cpu bus waits stamp w h refl) came.run refl refl (omega (arith, is, soon)) in
        let way = quiet_way calls until new stand waits waits w p run refl now in
        record {
          to = way.to;
          now_stands = before_stands cpu' bus' waits new.stamp way.to way.now_stands (f.calm h.calm) came.wired (omega (arith, within, sum, both));
          ports = way.ports;
          ports_stand = way.ports_stand;
          gone = way.gone;
        }

    -- an access of the B bus, after others
    pub way_accessing : (cpu cpu' : Cpu) (bus bus' : BusState) (at : ℕ) (stood stand : Ports → Type 0)
        → (h : IsOnWay console_moves calls until (IsBefore region goal cpu bus) stood waits waits w p) → 6 < clocks_left bus.beam
        → at ≡ stamp_before region goal bus → HasPassed bus bus' → HasMade calls at (access_of cpu) cpu cpu' bus bus' stand h.ports
        → IsOnWay console_moves calls until (IsBefore region goal cpu' bus') stand waits waits w p
    way_accessing cpu cpu' bus bus' at stood stand h few at_is passed m =
        let now = h.now_stands in
        let x = way_to console_moves calls until (IsBefore region goal cpu bus) stood waits waits w p h in
        let step = is_port_step cpu cpu' bus bus' h.to m.got now.at m.made now.calm in
        let act = access_act bus (access_of cpu) in
        let act_is : act_of h.to.rest (due_of h.to) ≡ act = act_due cpu bus h.to act now.at refl now.calm.reset now.calm.refresh now.calm.transfer in
        let early = stamp_early region goal bus few (before_within cpu bus h.to now) in
        let none_joins = bytes_taken h.to (due_of h.to) m.got ∙ step.none in
        let to = console_after h.to (due_of h.to) (taken (act_of h.to.rest (due_of h.to)) m.got) in
        let P : ConsoleState → Type 0 = λ y. IsBefore region goal cpu' bus' y in
        let goes = goes_silently console_moves calls until at act x m.got m.ports waits (before_stamp cpu bus h.to now ∙ sym at_is) act_is (omega (arith, early, at_is, soon)) m.small m.answered
        (nothing_joins waits _ none_joins) (omega arith) in
        way_on console_moves calls until (IsBefore region goal cpu bus) stood waits waits w p (IsBefore region goal cpu' bus') stand waits h to m.ports goes
        (subst P (sym (console_step_taken h.to (due_of h.to) m.got)) (access_before cpu cpu' bus bus' h.to m.got now few passed m.made)) m.ports_stand

    -- an access of which the call was refused, after others
    pub way_held : (cpu : Cpu) (bus : BusState) (at : ℕ) (stood stand : Ports → Type 0)
        → (h : IsOnWay console_moves calls until (IsBefore region goal cpu bus) stood waits waits w p) → 6 < clocks_left bus.beam
        → at ≡ stamp_before region goal bus → Leads stood stand (IsRefused calls at (access_act bus (access_of cpu)))
        → HasGone console_moves calls until 1024 65536 (IsBefore region goal cpu bus) stand waits waits Refused w p
    way_held cpu bus at stood stand h few at_is refused =
        let now = h.now_stands in
        let act = access_act bus (access_of cpu) in
        let early = stamp_early region goal bus few (before_within cpu bus h.to now) in
        stops_refused console_moves calls until (IsBefore region goal cpu bus) stood waits waits w p 1024 65536 at act stand h
        (before_stamp cpu bus h.to now ∙ sym at_is) (act_due cpu bus h.to act now.at refl now.calm.reset now.calm.refresh now.calm.transfer)
        (omega (arith, early, at_is, soon)) (refused h.ports h.ports_stand)

-- ---- a run: nothing, accesses of memory after it, one of the B bus, and one that was refused

module _ {Ports : Type 0} (calls : Calls Ports) (region : Region) (goal : ℕ) where
  pub run_none : (cpu : Cpu) (bus : BusState) (stand : Ports → Type 0) → RunsBefore calls region goal cpu cpu bus bus stand stand
  run_none cpu bus stand = λ until waits w p soon h now. way_none console_moves calls until (IsBefore region goal cpu bus) stand waits waits w p h now

  module _ (a b : Cpu) (x y : BusState) (stood stand : Ports → Type 0) (run : RunsBefore calls region goal a b x y stood stand) where
    pub run_following : (c : Cpu) (z : BusState) → Follows b c y z → RunsBefore calls region goal a c x z stood stand
    run_following c z f = λ until waits w p soon h now.
        let was = run until waits w p soon h now in
        way_after console_moves calls until (IsBefore region goal b y) (IsBefore region goal c z) stand stand waits waits waits w p was
        (way_following region goal calls until soon waits was.to was.ports b c y z stand f was.now_stands was.ports_stand)

    pub run_accessing : (c : Cpu) (z : BusState) (at : ℕ) (have : Ports → Type 0) → 6 < clocks_left y.beam → at ≡ stamp_before region goal y → HasPassed y z
        → ((p : Ports) → stand p → HasMade calls at (access_of b) b c y z have p) → RunsBefore calls region goal a c x z stood have
    run_accessing c z at have few at_is passed made = λ until waits w p soon h now.
        let was = run until waits w p soon h now in
        way_accessing region goal calls until soon waits w p b c y z at stand have was few at_is passed (made was.ports was.ports_stand)

    pub run_refused : (at : ℕ) (have : Ports → Type 0) → 6 < clocks_left y.beam → at ≡ stamp_before region goal y
        → Leads stand have (IsRefused calls at (access_act y (access_of b))) → HeldBefore calls region goal a b x y stood have
    run_refused at have few at_is refused = λ until waits w p soon h now.
        let was = run until waits w p soon h now in
        way_held region goal calls until soon waits w p b y at stand have was few at_is refused

-- ---- where it is told as a value

module _ {Ports : Type 0} (calls : Calls Ports) (until : ℕ) (stands next : ConsoleState → Type 0) (stand : Ports → Type 0) (waited waits : List ℕ) (w : ConsoleState) (p : Ports)
    (leads : (to : ConsoleState) → stands to → next to) where
  pub way_told : IsOnWay console_moves calls until stands stand waited waits w p → IsOnWay console_moves calls until next stand waited waits w p
  way_told h = record { to = h.to; now_stands = leads h.to h.now_stands; ports = h.ports; ports_stand = h.ports_stand; gone = h.gone }

  pub held_told : HasGone console_moves calls until 1024 65536 stands stand waited waits Refused w p → HasGone console_moves calls until 1024 65536 next stand waited waits Refused w p
  held_told h = record { to = h.to; now_stands = leads h.to h.now_stands; ports = h.ports; ports_stand = h.ports_stand; stopped = h.stopped }
