-- Steps that only look: what one of them does, what many leave as it is, and what they are as a run; and the clocks of rounds.
use Rattle.std.proofs.Common.{◌≡◌, ℕ, zero, suc, ◌+◌, ◌-◌, ◌*◌, ◌/◌, ◌<◌, Bool, List, [], ◌∷◌, ◌++◌, refl, sym, ap, subst, ◌∙◌, arith, add-zero, append_assoc, slice_index, Some, ◌⊎◌, inl, inr}
use Rattle.snes_defs.specs.declared.ports.Act.TheVariants.{Quiet}
use Rattle.cart_map.specs.declared.places.Place.{Place}
use Rattle.cpu_tables.specs.declared.access.Access.{Access}
use Rattle.cpu_tables.specs.declared.access.Access.TheVariants.{Fetch, Read, Write, Inner}
use Rattle.cpu65816.specs.declared.processor.Cpu.{Cpu}
use Rattle.cpu65816.specs.Instruction.{next_of}
use Rattle.cpu65816.specs.Stands.{access_of}
use Rattle.std.proofs.Math.Nat.{suc-mul, div-mul-le_self}
use Rattle.beam.specs.declared.events.Event.{Event}
use Rattle.beam.specs.Events.{BeamValue, events_of, happens_next, beam_next, beam_after, passed}
use Rattle.console_bus.specs.BusState.{BusState}
use Rattle.console_bus.specs.Places.{place_at, place_byte, place_read, chip_byte, chip_read, on_bus}
use Rattle.console_bus.specs.Memory.{index_of}
use Rattle.console_steps.specs.ConsoleState.{ConsoleState, Due, Accesses, access_act, access_clocks, act_of, due_of, due_clocks, after_access, after_read, read_at, effect, console_after, bytes_after, overscan_of}
use Rattle.console_steps.specs.Stands.{IsAt}
use Rattle.console_steps.specs.AtOnce.{gone_on, passed_in, IsMadeAtOnce}
use Rattle.console_steps.specs.Plain.{IsCalm, IsOfMemory, IsOfStill, IsLook}
use Rattle.console_steps.proofs.AtOnce.{reads}
use Rattle.console_steps.proofs.Clocks.{drifted, quiet_clocks}
use Rattle.console_machine.specs.SideLaws.{IsAfter, step_keeps}
use Rattle.console_machine.proofs.AtOnce.{is_step, same_access}
use Rattle.console_machine.proofs.Runs.{silent_more}
use Rattle.console_machine.specs.Runs.{SilentWorlds, HasRun, clocks_next, IsLookStep, LookSteps, LooksTo, rounds_of, IsRounds}

-- ---- the beam goes on by some clocks, and by more

first_empty : (xs ys : List Event) → xs ++ ys ≡ [] → xs ≡ []
first_empty [] ys e = refl
first_empty (x ∷ xs) ys e = absurd (cc)

second_empty : (xs ys : List Event) → xs ++ ys ≡ [] → ys ≡ []
second_empty [] ys e = e
second_empty (x ∷ xs) ys e = absurd (cc)

pub beam_joined : (o : Bool) (b : BeamValue) (j k : ℕ) → beam_after o (beam_after o b j) k ≡ beam_after o b (j + k)
unfolding beam_after
beam_joined o b zero k =
    let z : zero + k ≡ k = omega arith in
    rw z refl
beam_joined o b (suc j) k =
    let s : suc j + k ≡ suc (j + k) = omega arith in
    rw s (beam_joined o (beam_next o b) j k)

passed_joined : (o : Bool) (b : BeamValue) (j k : ℕ) → passed o b (j + k) ≡ passed o b j ++ passed o (beam_after o b j) k
unfolding passed beam_after
passed_joined o b zero k =
    let z : zero + k ≡ k = omega arith in
    rw z refl
passed_joined o b (suc j) k =
    let s : suc j + k ≡ suc (j + k) = omega arith in
    rw s (ap (λ (x : List Event). events_of (happens_next o b) ++ x) (passed_joined o (beam_next o b) j k)
    ∙ sym (append_assoc (events_of (happens_next o b)) (passed o (beam_next o b) j) (passed o (beam_after o (beam_next o b) j) k)))

pub passed_parts : (o : Bool) (b : BeamValue) (j k : ℕ) → passed o b (j + k) ≡ [] → (passed o b j ≡ []) × (passed o (beam_after o b j) k ≡ [])
passed_parts o b j k h =
    let e = sym (passed_joined o b j k) ∙ h in
    (first_empty (passed o b j) (passed o (beam_after o b j) k) e, second_empty (passed o b j) (passed o (beam_after o b j) k) e)

passed_both : (o : Bool) (b : BeamValue) (j k : ℕ) → passed o b j ≡ [] → passed o (beam_after o b j) k ≡ [] → passed o b (j + k) ≡ []
passed_both o b j k first then =
    passed_joined o b j k ∙ ap (λ (x : List Event). x ++ passed o (beam_after o b j) k) first ∙ then

pub no_clocks : (o : Bool) (b : BeamValue) → (beam_after o b 0 ≡ b) × (passed o b 0 ≡ [])
unfolding beam_after passed
no_clocks o b = (refl, refl)

pub gone_joined : (r : BusState) (j k : ℕ) → gone_on (gone_on r j) k ≡ gone_on r (j + k)
gone_joined r j k = ap (λ (b : BeamValue). record r { beam = b }) (beam_joined r.picture.registers.settings.overscan r.beam j k)

abbrev pub at_beam : ConsoleState → BeamValue → ℕ → ConsoleState
at_beam w b clock = record w { rest = record w.rest { beam = b }; clock = clock }

-- ---- an access that only looks

pub read_is : (r : BusState) (p : Place) (at : ℕ) → index_of r.board p ≡ Some at → on_bus (place_read r p) (place_byte r p 0) ≡ on_bus r (slice_index r.memory at)
read_is r p at h =
    let q = reads r p at h in
    rw (q.after, q.byte) refl

pub record LookFacts (r : BusState) (a : Access) : Type 0 where
  pub quiet : access_act r a ≡ Quiet
  pub after : after_access r a 0 ≡ on_bus r (after_access r a 0).last

read_facts : (r : BusState) (addr at : ℕ) → index_of r.board (place_at r.board addr) ≡ Some at → LookFacts r (Read addr)
read_facts r addr at h =
    let p = place_at r.board addr in
    let is = read_is r p at h in
    record {
      quiet = (reads r p at h).act;
      after = is ∙ ap (λ (x : BusState). on_bus r x.last) (sym is);
    }

still_facts : (r : BusState) (addr : ℕ) → IsOfStill r addr → LookFacts r (Read addr)
still_facts r addr h =
    let n = h.register in
    let A : Place → Type 0 = λ p. read_at p ≡ Quiet in
    let F : Place → Type 0 = λ p. after_read r p (place_byte r p 0) ≡ on_bus r (after_read r p (place_byte r p 0)).last in
    let same : chip_read r n ≡ r = h.still.same r.beam in
    record {
      quiet = subst A (sym h.place) refl;
      after = subst F (sym h.place) (ap {A = BusState} {B = BusState} (λ x. on_bus x (chip_byte r n)) same);
    }

look_read_facts : (r : BusState) (addr : ℕ) → IsOfMemory r addr ⊎ IsOfStill r addr → LookFacts r (Read addr)
look_read_facts r addr (inl h) = read_facts r addr h.0 h.1
look_read_facts r addr (inr h) = still_facts r addr h

pub look_facts : (r : BusState) (a : Access) → IsLook r a → LookFacts r a
look_facts r (Fetch addr) h =
    let f = read_facts r addr h.0 h.1 in
    record { quiet = f.quiet; after = f.after }
look_facts r (Read addr) h = look_read_facts r addr h
look_facts r (Write addr v) h = absurd h
look_facts r Inner h = record { quiet = refl; after = refl }

-- ---- a step that only looks

abbrev pub look_effect : ConsoleState → ConsoleState
look_effect w = effect w (Accesses (next_of w.processor)) 0

pub look_due : (w : ConsoleState) → IsCalm w.rest → due_of w ≡ Accesses (next_of w.processor)
look_due w calm = rw (calm.reset, calm.refresh, calm.transfer) refl

pub record LookMade (w : ConsoleState) : Type 0 where
  pub quiet : act_of w.rest (due_of w) ≡ Quiet
  pub next : console_after w (due_of w) 0 ≡ drifted (look_effect w) (clocks_next w)
  pub none : bytes_after w (due_of w) 0 ≡ []

pub look_made : (w : ConsoleState) → IsLookStep w → LookMade w
look_made w s =
    let a = next_of w.processor in
    let f = look_facts w.rest a s.look in
    let due = look_due w s.calm in
    let P : BusState → Type 0 = λ r. passed_in r (clocks_next w) ≡ [] in
    let none : passed_in (after_access w.rest a 0) (clocks_next w) ≡ [] = subst P (sym f.after) s.nothing in
    let q = quiet_clocks (look_effect w) (clocks_next w) none in
    let A : Due → Type 0 = λ d. act_of w.rest d ≡ Quiet in
    let N : Due → Type 0 = λ d. console_after w d 0 ≡ drifted (look_effect w) (clocks_next w) in
    let B : Due → Type 0 = λ d. bytes_after w d 0 ≡ [] in
    record { quiet = subst A (sym due) f.quiet; next = subst N (sym due) q.0; none = subst B (sym due) q.1 }

-- ---- many of them

abbrev pub with_bus : BusState → ℕ → BeamValue → BusState
with_bus r last beam = record r { last = last; beam = beam }

-- they leave all but the processor, the byte on the data bus, the beam and the clock, and pass nothing
pub record LooksEnd (w to : ConsoleState) (k : ℕ) : Type 0 where
  pub rest : to.rest ≡ with_bus w.rest to.rest.last (beam_after (overscan_of w) w.rest.beam k)
  pub nothing : passed (overscan_of w) w.rest.beam k ≡ []
  pub clock : to.clock ≡ w.clock + k

pub looks_end : (n : ℕ) (w to : ConsoleState) (k : ℕ) → LookSteps n w to k → LooksEnd w to k
looks_end zero w to k h =
    let o = overscan_of w in
    let b = w.rest.beam in
    let none = no_clocks o b in
    let here : LooksEnd w w 0 = record { rest = ap (λ (x : BeamValue). with_bus w.rest w.rest.last x) (sym none.0); nothing = none.1; clock = sym (add-zero w.clock) } in
    let P : ConsoleState → Type 0 = λ x. LooksEnd w x k in
    let Q : ℕ → Type 0 = λ n. LooksEnd w w n in
    subst P h.0 (subst Q (sym h.1) here)
looks_end (suc n) w to k h =
    let o = overscan_of w in
    let b = w.rest.beam in
    let j = h.before in
    let c = clocks_next h.mid in
    let was = looks_end n w h.mid j h.run in
    let made = look_made h.mid h.step in
    let f = look_facts h.mid.rest (next_of h.mid.processor) h.step.look in
    let last = (look_effect h.mid).rest.last in
    let there : to.rest ≡ with_bus w.rest last (beam_after o b k) =
    ap (λ (x : ConsoleState). x.rest) (sym h.next ∙ made.next)
    ∙ ap (λ (r : BusState). gone_on r c) f.after
    ∙ ap (λ (r : BusState). with_bus r last (beam_after r.picture.registers.settings.overscan r.beam c)) was.rest
    ∙ ap (λ (x : BeamValue). with_bus w.rest last x) (beam_joined o b j c ∙ ap (beam_after o b) (sym h.sum)) in
    let P : BusState → Type 0 = λ r. passed r.picture.registers.settings.overscan r.beam c ≡ [] in
    let then : passed o (beam_after o b j) c ≡ [] = subst P was.rest h.step.nothing in
    let sum = h.sum in
    let at_mid = was.clock in
    let at_to : to.clock ≡ h.mid.clock + c = ap (λ (x : ConsoleState). x.clock) (sym h.next ∙ made.next) in
    record {
      rest = there ∙ ap (λ (r : BusState). with_bus w.rest r.last (beam_after o b k)) (sym there);
      nothing = ap (passed o b) h.sum ∙ passed_both o b j c was.nothing then;
      clock = omega (arith, sum, at_mid, at_to);
    }

pub looks_joined : (n m : ℕ) (w mid to : ConsoleState) (j k : ℕ) → LookSteps n w mid j → LookSteps m mid to k → (q : ℕ) × LookSteps q w to (j + k)
looks_joined n zero w mid to j k h then =
    let P : ConsoleState → Type 0 = λ x. LookSteps n w x j in
    let Q : ℕ → Type 0 = λ i. LookSteps n w to i in
    let none = then.1 in
    let sum : j ≡ j + k = omega (arith, none) in
    (n, subst Q sum (subst P then.0 h))
looks_joined n (suc m) w mid to j k h then =
    let rest = looks_joined n m w mid then.mid j then.before h then.run in
    let sum = then.sum in
    (suc rest.0, record { mid = then.mid; before = j + then.before; run = rest.1; step = then.step; next = then.next; sum = omega (arith, sum) })

-- ---- told as a run

pub looks_silent : (n : ℕ) (w to : ConsoleState) (k : ℕ) → w.rest.beam.h < 1364 → LookSteps n w to k → (q : ℕ) × (SilentWorlds q w to × IsAfter w to k)
looks_silent zero w to k line h =
    let here : IsAfter w w 0 = record { region = refl; line = line; clock = sym (add-zero w.clock) } in
    let P : ConsoleState → Type 0 = λ x. IsAfter w x k in
    let Q : ℕ → Type 0 = λ i. IsAfter w w i in
    (0, (h.0, subst P h.0 (subst Q (sym h.1) here)))
looks_silent (suc n) w to k line h =
    let rest = looks_silent n w h.mid h.before line h.run in
    let was : IsAfter w h.mid h.before = rest.1.1 in
    let made = look_made h.mid h.step in
    let s = step_keeps h.mid (due_of h.mid) 0 was.line in
    let lasts : due_clocks (due_of h.mid) h.mid.rest.io.fast ≡ clocks_next h.mid = ap (λ (d : Due). due_clocks d h.mid.rest.io.fast) (look_due h.mid h.step.calm) in
    let before = was.clock in
    let step = s.clock in
    let sum = h.sum in
    let P : ConsoleState → Type 0 = λ x. SilentWorlds (suc rest.0) w x in
    let Q : ConsoleState → Type 0 = λ x. IsAfter w x k in
    let after : IsAfter w (console_after h.mid (due_of h.mid) 0) k = record { region = s.region ∙ was.region; line = s.line; clock = omega (arith, before, step, lasts, sum) } in
    (suc rest.0, (subst P h.next (silent_more rest.0 w h.mid rest.1.0 made.quiet made.none), subst Q h.next after))

pub looks_run : (cpu : Cpu) (bus : BusState) (w : ConsoleState) (k : ℕ) → w.rest.beam.h < 1364 → LooksTo cpu bus w k → HasRun cpu bus w k
looks_run cpu bus w k line h =
    let run = looks_silent h.steps w h.to k line h.run in
    record { steps = run.0; to = h.to; run = run.1.0; at = h.at; after = run.1.1 }

-- no step, and one more
pub no_looks : (cpu : Cpu) (bus : BusState) (w : ConsoleState) (k : ℕ) → IsAt cpu bus w → k ≡ 0 → LooksTo cpu bus w k
no_looks cpu bus w k at none = record { steps = 0; to = w; run = (refl, none); at = at }

pub look_on : (cpu cpu' : Cpu) (bus bus' : BusState) (w : ConsoleState) (k c n : ℕ) → (h : LooksTo cpu bus w k) → IsCalm bus → IsLook bus (access_of cpu)
    → IsMadeAtOnce cpu cpu' bus bus' (access_of cpu) c → n ≡ k + c → LooksTo cpu' bus' w n
look_on cpu cpu' bus bus' w k c n h calm look made sum =
    let made' = is_step cpu cpu' bus bus' h.to c h.at made calm.reset calm.refresh calm.transfer in
    let rest = h.at.rest in
    let C : BusState → Type 0 = λ r. IsCalm r in
    let calm' : IsCalm h.to.rest = subst C rest calm in
    let access : access_of cpu ≡ next_of h.to.processor = same_access cpu h.to.processor h.at.processor in
    let L : Access → Type 0 = λ a. IsLook h.to.rest a in
    let M : BusState → Type 0 = λ r. IsLook r (access_of cpu) in
    let look' : IsLook h.to.rest (next_of h.to.processor) = subst L access (subst M rest look) in
    let f = look_facts bus (access_of cpu) look in
    let P : BusState → Type 0 = λ r. passed_in r c ≡ [] in
    let nothing : passed_in bus c ≡ [] = subst P f.after made.nothing in
    let lasts : c ≡ clocks_next h.to = made.lasts ∙ ap (λ (a : Access). access_clocks a bus.io.fast) access ∙ ap (λ (r : BusState). access_clocks (next_of h.to.processor) r.io.fast) rest in
    let Q : BusState → Type 0 = λ r. passed_in r (clocks_next h.to) ≡ [] in
    let N : ℕ → Type 0 = λ i. passed_in bus i ≡ [] in
    record {
      steps = suc h.steps;
      to = console_after h.to (due_of h.to) 0;
      run = record {
        mid = h.to;
        before = k;
        run = h.run;
        step = record { calm = calm'; look = look'; nothing = subst Q rest (subst N lasts nothing) };
        next = refl;
        sum = sum ∙ ap (λ (i : ℕ). k + i) lasts;
      };
      at = made'.at;
    }

-- the clocks of rounds are a product
rounds_times : (n k : ℕ) → n * k ≡ rounds_of n k
rounds_times zero k = omega arith
rounds_times (suc n) k = suc-mul n k ∙ ap (λ (x : ℕ). x + k) (rounds_times n k)

pub no_rounds : (k : ℕ) → IsRounds k 0
no_rounds k = record { number = 0; times = refl }

pub some_rounds : (n k : ℕ) → IsRounds k (n * k)
some_rounds n k = record { number = n; times = rounds_times n k }

pub rounds_within : (left k : ℕ) → 0 < left → (left - 1) / k * k < left
rounds_within left k some = omega (arith, div-mul-le_self (left - 1) k, some)

pub ruleset whole_rounds = (no_rounds, some_rounds, rounds_within)
