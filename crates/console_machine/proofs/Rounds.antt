-- Steps that only look do the same wherever the beam stands, as long as it passes nothing: so a round of them, which leads back to the
-- processor and the byte on the data bus that it began with, can be gone again and again, after a refresh or the end of a line, too.
use Rattle.std.proofs.Common.{◌≡◌, ℕ, zero, suc, ◌+◌, Bool, [], refl, sym, ap, subst, ◌∙◌, arith, add-zero, ◌⊎◌, inl, inr}
use Rattle.cpu_tables.specs.declared.access.Access.{Access}
use Rattle.cpu_tables.specs.declared.access.Access.TheVariants.{Fetch, Read, Write, Inner}
use Rattle.cpu65816.specs.declared.processor.Cpu.{Cpu}
use Rattle.cpu65816.specs.Instruction.{CpuState, next_of, moved_on}
use Rattle.cpu65816.specs.Stands.{Stands, access_of}
use Rattle.beam.specs.Events.{BeamValue, beam_after, passed}
use Rattle.console_bus.specs.BusState.{BusState}
use Rattle.cart_map.specs.declared.places.Place.{Place}
use Rattle.console_bus.specs.Places.{place_at, place_byte, chip_byte, chip_read, on_bus}
use Rattle.console_steps.specs.ConsoleState.{ConsoleState, after_access, after_read, byte_of, with_interrupt_levels, due_of, console_after, overscan_of}
use Rattle.console_steps.specs.Stands.{IsAt}
use Rattle.console_steps.specs.AtOnce.{gone_on, passed_in, IsMadeAtOnce}
use Rattle.console_steps.specs.Plain.{IsWired, IsCalm, IsOfMemory, IsOfStill, IsLook}
use Rattle.console_steps.proofs.AtOnce.{reads}
use Rattle.console_steps.proofs.Clocks.{drifted}
use Rattle.console_steps.proofs.Wires.{wired_then}
use Rattle.console_machine.specs.Runs.{HasRun, clocks_next, IsLookStep, LookSteps, LooksTo, rounds_of}
use Rattle.console_machine.specs.Rounds.{IsElsewhere, GoesOn, IsRound, IsRoundFrom}
use Rattle.console_machine.proofs.AtOnce.{is_step}
use Rattle.console_machine.proofs.Runs.{no_run, run_on, run_then}
use Rattle.console_machine.proofs.Looks.{beam_joined, passed_parts, no_clocks, gone_joined, at_beam, read_is, look_facts, look_effect, look_made, with_bus, looks_end, looks_joined, looks_run}

-- ---- steps that only look, from another place of the beam

-- ..a read of a register that shows nothing new
still_byte_at : (r : BusState) (b : BeamValue) (addr : ℕ) → IsOfStill r addr → byte_of (record r { beam = b }) (Read addr) 0 ≡ byte_of r (Read addr) 0
still_byte_at r b addr h =
    let P : Place → Type 0 = λ p. place_byte (record r { beam = b }) p 0 ≡ place_byte r p 0 in
    subst P (sym h.place) (h.still.byte b)

still_after_at : (r : BusState) (b : BeamValue) (addr : ℕ) → IsOfStill r addr → after_access (record r { beam = b }) (Read addr) 0 ≡ record (after_access r (Read addr) 0) { beam = b }
still_after_at r b addr h =
    let n = h.register in
    let q : BusState = record r { beam = b } in
    let P : Place → Type 0 = λ p. after_read q p (place_byte q p 0) ≡ record (after_read r p (place_byte r p 0)) { beam = b } in
    let here : chip_read r n ≡ r = h.still.same r.beam in
    subst P (sym h.place)
    (ap {A = BusState} {B = BusState} (λ x. on_bus x (chip_byte q n)) (h.still.same b)
    ∙ ap {A = ℕ} {B = BusState} (λ v. on_bus q v) (h.still.byte b)
    ∙ ap {A = BusState} {B = BusState} (λ x. record (on_bus x (chip_byte r n)) { beam = b }) (sym here))

still_at : (r : BusState) (b : BeamValue) (addr : ℕ) → IsOfStill r addr → IsOfStill (record r { beam = b }) addr
still_at r b addr h = record {
  register = h.register;
  place = h.place;
  still = record { same = λ c. h.still.same c; byte = λ c. h.still.byte c ∙ sym (h.still.byte b) };
}

read_byte_at : (r : BusState) (b : BeamValue) (addr : ℕ) → IsOfMemory r addr ⊎ IsOfStill r addr → byte_of (record r { beam = b }) (Read addr) 0 ≡ byte_of r (Read addr) 0
read_byte_at r b addr (inl h) = (reads (record r { beam = b }) (place_at r.board addr) h.0 h.1).byte ∙ sym (reads r (place_at r.board addr) h.0 h.1).byte
read_byte_at r b addr (inr h) = still_byte_at r b addr h

read_after_at : (r : BusState) (b : BeamValue) (addr : ℕ) → IsOfMemory r addr ⊎ IsOfStill r addr
    → after_access (record r { beam = b }) (Read addr) 0 ≡ record (after_access r (Read addr) 0) { beam = b }
read_after_at r b addr (inl h) = read_is (record r { beam = b }) (place_at r.board addr) h.0 h.1 ∙ ap {A = BusState} {B = BusState} (λ x. record x { beam = b }) (sym (read_is r (place_at r.board addr) h.0 h.1))
read_after_at r b addr (inr h) = still_after_at r b addr h

read_look_at : (r : BusState) (b : BeamValue) (addr : ℕ) → IsOfMemory r addr ⊎ IsOfStill r addr → IsOfMemory r addr ⊎ IsOfStill (record r { beam = b }) addr
read_look_at r b addr (inl h) = inl h
read_look_at r b addr (inr h) = inr (still_at r b addr h)

look_byte_at : (r : BusState) (b : BeamValue) (a : Access) → IsLook r a → byte_of (record r { beam = b }) a 0 ≡ byte_of r a 0
look_byte_at r b (Fetch addr) h = (reads (record r { beam = b }) (place_at r.board addr) h.0 h.1).byte ∙ sym (reads r (place_at r.board addr) h.0 h.1).byte
look_byte_at r b (Read addr) h = read_byte_at r b addr h
look_byte_at r b (Write addr v) h = absurd h
look_byte_at r b Inner h = refl

look_after_at : (r : BusState) (b : BeamValue) (a : Access) → IsLook r a → after_access (record r { beam = b }) a 0 ≡ record (after_access r a 0) { beam = b }
look_after_at r b (Fetch addr) h = read_is (record r { beam = b }) (place_at r.board addr) h.0 h.1 ∙ ap {A = BusState} {B = BusState} (λ x. record x { beam = b }) (sym (read_is r (place_at r.board addr) h.0 h.1))
look_after_at r b (Read addr) h = read_after_at r b addr h
look_after_at r b (Write addr v) h = absurd h
look_after_at r b Inner h = refl

pub look_at : (r : BusState) (b : BeamValue) (a : Access) → IsLook r a → IsLook (record r { beam = b }) a
look_at r b (Fetch addr) h = h
look_at r b (Read addr) h = read_look_at r b addr h
look_at r b (Write addr v) h = absurd h
look_at r b Inner h = tt

pub effect_at : (w : ConsoleState) (b : BeamValue) (clock : ℕ) → IsLook w.rest (next_of w.processor) → look_effect (at_beam w b clock) ≡ at_beam (look_effect w) b clock
effect_at w b clock look =
    let a = next_of w.processor in
    let E : ℕ → BusState → ConsoleState = λ byte r. record { processor = with_interrupt_levels (moved_on w.processor byte) r; rest = r; clock = clock } in
    ap (λ (byte : ℕ). E byte (after_access (record w.rest { beam = b }) a 0)) (look_byte_at w.rest b a look) ∙ ap (λ (r : BusState). E (byte_of w.rest a 0) r) (look_after_at w.rest b a look)

pub look_step_at : (w : ConsoleState) (b : BeamValue) (clock : ℕ) → IsLookStep w → passed (overscan_of w) b (clocks_next w) ≡ [] → IsLookStep (at_beam w b clock)
look_step_at w b clock s none = record {
  calm = record { reset = s.calm.reset; refresh = s.calm.refresh; transfer = s.calm.transfer };
  look = look_at w.rest b (next_of w.processor) s.look;
  nothing = none;
}

pub step_at : (w : ConsoleState) (b : BeamValue) (clock : ℕ) → IsLookStep w → passed (overscan_of w) b (clocks_next w) ≡ []
    → console_after (at_beam w b clock) (due_of (at_beam w b clock)) 0 ≡ at_beam (console_after w (due_of w) 0) (beam_after (overscan_of w) b (clocks_next w)) (clock + clocks_next w)
step_at w b clock s none =
    let c = clocks_next w in
    let f = look_facts w.rest (next_of w.processor) s.look in
    let o : overscan_of (look_effect w) ≡ overscan_of w = ap (λ (r : BusState). r.picture.registers.settings.overscan) f.after in
    (look_made (at_beam w b clock) (look_step_at w b clock s none)).next
    ∙ ap (λ (y : ConsoleState). drifted y c) (effect_at w b clock s.look)
    ∙ ap (λ (x : Bool). at_beam (look_effect w) (beam_after x b c) (clock + c)) o
    ∙ ap (λ (y : ConsoleState). at_beam y (beam_after (overscan_of w) b c) (clock + c)) (sym (look_made w s).next)

pub steps_at : (n : ℕ) (w to : ConsoleState) (k : ℕ) (b : BeamValue) (clock : ℕ) → LookSteps n w to k → passed (overscan_of w) b k ≡ []
    → LookSteps n (at_beam w b clock) (at_beam to (beam_after (overscan_of w) b k) (clock + k)) k
steps_at zero w to k b clock h none =
    let o = overscan_of w in
    let B : ℕ → ConsoleState = λ n. at_beam w (beam_after o b n) (clock + n) in
    let here : at_beam w b clock ≡ B 0 = ap (λ (x : BeamValue). at_beam w x clock) (sym (no_clocks o b).0) ∙ ap (λ (n : ℕ). at_beam w (beam_after o b 0) n) (sym (add-zero clock)) in
    (here ∙ ap B (sym h.1) ∙ ap (λ (x : ConsoleState). at_beam x (beam_after o b k) (clock + k)) h.0, h.1)
steps_at (suc n) w to k b clock h none =
    let o = overscan_of w in
    let j = h.before in
    let c = clocks_next h.mid in
    let parts = passed_parts o b j c (ap (passed o b) (sym h.sum) ∙ none) in
    let end = looks_end n w h.mid j h.run in
    let over : overscan_of h.mid ≡ o = ap (λ (r : BusState). r.picture.registers.settings.overscan) end.rest in
    let there : passed (overscan_of h.mid) (beam_after o b j) c ≡ [] = ap (λ (x : Bool). passed x (beam_after o b j) c) over ∙ parts.1 in
    let sum : clock + j + c ≡ clock + k = (let all = h.sum in omega (arith, all)) in
    record {
      mid = at_beam h.mid (beam_after o b j) (clock + j);
      before = j;
      run = steps_at n w h.mid j b clock h.run parts.0;
      step = look_step_at h.mid (beam_after o b j) (clock + j) h.step there;
      next = step_at h.mid (beam_after o b j) (clock + j) h.step there
          ∙ ap (λ (x : ConsoleState). at_beam x (beam_after (overscan_of h.mid) (beam_after o b j) c) (clock + j + c)) h.next
          ∙ ap (λ (x : Bool). at_beam to (beam_after x (beam_after o b j) c) (clock + j + c)) over
          ∙ ap (λ (x : BeamValue). at_beam to x (clock + j + c)) (beam_joined o b j c ∙ ap (beam_after o b) (sym h.sum))
          ∙ ap (λ (n : ℕ). at_beam to (beam_after o b k) n) sum;
      sum = h.sum;
    }

-- ---- a round

-- looks that led to a processor that does what the first does, and to the byte that they began with, are a round of that processor
pub is_round : (first back : Cpu) (bus bus' : BusState) (k : ℕ) → ((w : ConsoleState) → IsAt first bus w → LooksTo back bus' w k)
    → ((s : CpuState) → Stands back s → Stands first s) → bus'.last ≡ bus.last → IsRound back bus k
is_round first back bus bus' k looks like last = λ b none w at.
    let o = bus.picture.registers.settings.overscan in
    let u : ConsoleState = record { processor = w.processor; rest = bus; clock = w.clock } in
    let r = looks u (record { processor = like w.processor at.processor; rest = refl }) in
    let e = looks_end r.steps u r.to k r.run in
    let to_last : r.to.rest.last ≡ bus.last = ap (λ (x : BusState). x.last) (sym r.at.rest) ∙ last in
    let ends : r.to.rest ≡ gone_on bus k = e.rest ∙ ap (λ (n : ℕ). with_bus bus n (beam_after o bus.beam k)) to_last in
    let moved = steps_at r.steps u r.to k b w.clock r.run none in
    let same : at_beam u b w.clock ≡ w = ap (λ (x : BusState). record { processor = w.processor; rest = x; clock = w.clock }) at.rest in
    let P : ConsoleState → Type 0 = λ x. LookSteps r.steps x (at_beam r.to (beam_after o b k) (w.clock + k)) k in
    record {
      steps = r.steps;
      to = at_beam r.to (beam_after o b k) (w.clock + k);
      run = subst P same moved;
      at = record { processor = r.at.processor; rest = sym (ap {A = BusState} {B = BusState} (λ x. record x { beam = beam_after o b k }) ends) };
    }

-- rounds one after another
rounds_at : (cpu : Cpu) (bus : BusState) (k : ℕ) → IsRound cpu bus k → (n : ℕ) (b : BeamValue) → passed bus.picture.registers.settings.overscan b (rounds_of n k) ≡ []
    → (w : ConsoleState) → IsAt cpu (record bus { beam = b }) w → LooksTo cpu (gone_on (record bus { beam = b }) (rounds_of n k)) w (rounds_of n k)
rounds_at cpu bus k round zero b none w at =
    let here : record bus { beam = b } ≡ gone_on (record bus { beam = b }) 0 = ap {A = BeamValue} {B = BusState} (λ x. record bus { beam = x }) (sym (no_clocks bus.picture.registers.settings.overscan b).0) in
    record { steps = 0; to = w; run = (refl, refl); at = record { processor = at.processor; rest = sym here ∙ at.rest } }
rounds_at cpu bus k round (suc n) b none w at =
    let o = bus.picture.registers.settings.overscan in
    let m = rounds_of n k in
    let parts = passed_parts o b m k none in
    let first = rounds_at cpu bus k round n b parts.0 w at in
    let then = round (beam_after o b m) parts.1 first.to first.at in
    let all = looks_joined first.steps then.steps w first.to then.to m k first.run then.run in
    record {
      steps = all.0;
      to = then.to;
      run = all.1;
      at = record { processor = then.at.processor; rest = sym (gone_joined (record bus { beam = b }) m k) ∙ then.at.rest };
    }

-- ---- what goes on

pub goes_none : (cpu : Cpu) (bus : BusState) → GoesOn cpu cpu bus bus 0
goes_none cpu bus = λ w at line calm wired. record { run = no_run cpu bus w at line; wired = wired; calm = calm; same = refl }

pub elsewhere_then : (a b c : BusState) → IsElsewhere a b → IsElsewhere b c → IsElsewhere a c
elsewhere_then a b c f g = g ∙ ap {A = BusState} {B = BusState} (λ x. record x { last = c.last; beam = c.beam }) f

-- what is known of the bus may be what the second part rests on
pub goes_then_known : (a b c : Cpu) (x y z : BusState) (j k n : ℕ) → GoesOn a b x y j → (IsElsewhere x y → GoesOn b c y z k) → n ≡ j + k → GoesOn a c x z n
goes_then_known a b c x y z j k n f g sum = λ w at line calm wired.
    let p = f w at line calm wired in
    let q = g p.same p.run.to p.run.at p.run.after.line p.calm p.wired in
    record {
      run = run_then b c y z w j k n p.run q.run sum;
      wired = q.wired;
      calm = q.calm;
      same = elsewhere_then x y z p.same q.same;
    }

pub goes_then : (a b c : Cpu) (x y z : BusState) (j k n : ℕ) → GoesOn a b x y j → GoesOn b c y z k → n ≡ j + k → GoesOn a c x z n
goes_then a b c x y z j k n f g sum = goes_then_known a b c x y z j k n f (λ same. g) sum

-- an access that only looks
pub goes_look : (cpu cpu' : Cpu) (bus bus' : BusState) (clocks : ℕ) → (IsWired cpu bus → IsMadeAtOnce cpu cpu' bus bus' (access_of cpu) clocks)
    → IsLook bus (access_of cpu) → (IsCalm bus → IsCalm bus') → GoesOn cpu cpu' bus bus' clocks
goes_look cpu cpu' bus bus' clocks made look calm = λ w at line is_calm wired.
    let m = made wired in
    let h = no_run cpu bus w at line in
    let sum : clocks ≡ 0 + clocks = omega arith in
    let f = look_facts bus (access_of cpu) look in
    let there : bus' ≡ gone_on (on_bus bus (after_access bus (access_of cpu) 0).last) clocks = m.rest ∙ ap (λ (r : BusState). gone_on r clocks) f.after in
    let P : BusState → Type 0 = λ r. IsElsewhere bus r in
    record {
      run = run_on cpu cpu' bus bus' w 0 clocks clocks h (is_step cpu cpu' bus bus' h.to clocks h.at m is_calm.reset is_calm.refresh is_calm.transfer) sum;
      wired = wired_then cpu cpu' bus bus' (access_of cpu) clocks w.processor m at.processor;
      calm = calm is_calm;
      same = subst P (sym there) refl;
    }

-- a round of what stayed but for the beam and the byte last on it is one still
pub round_elsewhere : (cpu : Cpu) (bus bus' : BusState) (byte k : ℕ) → IsElsewhere bus bus' → IsRoundFrom cpu bus byte k → IsRoundFrom cpu bus' byte k
round_elsewhere cpu bus bus' byte k same round =
    let P : BusState → Type 0 = λ r. IsRoundFrom cpu r byte k in
    subst P (sym same) round

-- rounds from a processor that does what that of the round does
pub goes_rounds : (cpu back : Cpu) (bus bus' : BusState) (byte k n more : ℕ) → IsRoundFrom back bus byte k → ((s : CpuState) → Stands cpu s → Stands back s)
    → bus.last ≡ byte → more ≡ rounds_of n k → bus' ≡ gone_on bus more → passed_in bus more ≡ [] → GoesOn cpu back bus bus' more
goes_rounds cpu back bus bus' byte k n more round like last times on none = λ w at line calm wired.
    let here : IsAt back bus w = record { processor = like w.processor at.processor; rest = at.rest } in
    let R : ℕ → Type 0 = λ x. IsRoundFrom back bus x k in
    let is : IsRound back bus k = subst R (sym last) round in
    let N : ℕ → Type 0 = λ x. passed_in bus x ≡ [] in
    let looks = rounds_at back bus k is n bus.beam (subst N times none) w here in
    let E : BusState → Type 0 = λ r. HasRun back r w more in
    let L : ℕ → Type 0 = λ x. LooksTo back (gone_on bus x) w x in
    let run : HasRun back bus' w more = subst E (sym on) (looks_run back (gone_on bus more) w more line (subst L (sym times) looks)) in
    let back_at = like w.processor at.processor in
    let S : BusState → Type 0 = λ r. IsElsewhere bus r in
    let W : BusState → Type 0 = λ r. IsWired back r in
    let C : BusState → Type 0 = λ r. IsCalm r in
    record {
      run = run;
      wired = subst W (sym on) (record {
        nmi = back_at.nmi_level ∙ sym at.processor.nmi_level ∙ wired.nmi;
        irq = back_at.irq_level ∙ sym at.processor.irq_level ∙ wired.irq;
      });
      calm = subst C (sym on) (record { reset = calm.reset; refresh = calm.refresh; transfer = calm.transfer });
      same = subst S (sym on) refl;
    }

pub goes_then_rounds : (a b back : Cpu) (x y z : BusState) (byte k n j more all : ℕ) → GoesOn a b x y j → IsRoundFrom back x byte k → ((s : CpuState) → Stands b s → Stands back s)
    → y.last ≡ byte → more ≡ rounds_of n k → z ≡ gone_on y more → passed_in y more ≡ [] → all ≡ j + more → GoesOn a back x z all
goes_then_rounds a b back x y z byte k n j more all f round like last times on none sum =
    goes_then_known a b back x y z j more all f (λ same. goes_rounds b back y z byte k n more (round_elsewhere back x y byte k same round) like last times on none) sum
