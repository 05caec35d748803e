-- A round that is known may last past a place of the beam where nothing comes but a refresh or the next line: one of its steps lasts
-- to the place or past it, a refresh comes behind that step, and the others are what they are elsewhere.
use Rattle.std.proofs.Common.{◌≡◌, ℕ, zero, suc, ◌+◌, ◌-◌, ◌<◌, ◌≤◌, ◌⊎◌, inl, inr, Bool, true, false, not, ◌&&◌, ◌||◌, List, [], ◌∷◌, ◌++◌, refl, sym, ap, subst, ◌∙◌, arith, add-zero}
use Rattle.std.proofs.lemmas.Bool.{cases_lt}
use Rattle.snes_defs.specs.declared.ports.Act.TheVariants.{Quiet}
use Rattle.cpu65816.specs.declared.processor.Cpu.{Cpu}
use Rattle.cpu65816.specs.Instruction.{CpuState, next_of, moved_on}
use Rattle.beam.specs.declared.events.Event.{Event}
use Rattle.beam.specs.Events.{BeamValue, events_of, happens_next, beam_next, beam_after, passed}
use Rattle.beam.specs.Places.{clocks_left}
use Rattle.beam.proofs.Quiet.{quiet_passed}
use Rattle.console_bus.specs.BusState.{BusState}
use Rattle.console_bus.specs.Happenings.{happened}
use Rattle.console_steps.specs.ConsoleState.{ConsoleState, Due, Refreshes, act_of, byte_of, with_interrupt_levels, due_of, effect, after_event, after_events, bytes_of_events, after_clocks, bytes_in, console_after, bytes_after, overscan_of, region_of}
use Rattle.console_steps.specs.PlainPlaces.{IsPlainlyThere, overscan_in}
use Rattle.console_steps.specs.AtOnce.{gone_on}
use Rattle.console_steps.specs.Plain.{IsWired, IsCalm}
use Rattle.console_steps.proofs.Clocks.{arrived, arrival, clocks_to_place, quiet_clocks}
use Rattle.console_machine.specs.SideLaws.{step_keeps}
use Rattle.console_machine.specs.Runs.{SilentWorlds, clocks_next, IsLookStep, LookSteps}
use Rattle.console_machine.specs.Rounds.{GoesOn, IsElsewhere, IsRound, IsRoundFrom, refresh_clocks}
use Rattle.console_machine.proofs.Runs.{silent_more, silent_append}
use Rattle.console_machine.proofs.Looks.{beam_joined, passed_parts, at_beam, look_facts, look_due, look_effect, look_made, looks_end, looks_silent}
use Rattle.console_machine.proofs.Rounds.{look_at, effect_at, look_step_at, step_at, steps_at}

abbrev event_list : Event → List Event
event_list e = e ∷ []

-- ---- at the place

-- a console state between the steps of a round, of which nothing but the processor, the byte last on the bus and the beam is its own
record IsMidway (old : BusState) (e : ConsoleState) : Type 0 where
  pub channels : e.rest.channels ≡ old.channels
  pub overscan : overscan_of e ≡ overscan_in old
  pub reset : e.rest.reset ≡ false
  pub refresh : e.rest.refresh ≡ false
  pub levels : with_interrupt_levels e.processor e.rest ≡ e.processor

kept_same : (kept n : Bool) → (kept || (n && not n)) ≡ kept
kept_same true n = refl
kept_same false true = refl
kept_same false false = refl

-- levels that are given twice
given_twice : (s : CpuState) (r : BusState) → with_interrupt_levels (with_interrupt_levels s r) r ≡ with_interrupt_levels s r
given_twice s r = ap {A = Bool} {B = CpuState} (λ x. record (with_interrupt_levels s r) { kept = x }) (kept_same (with_interrupt_levels s r).kept (with_interrupt_levels s r).nmi_level)

midway : (old : BusState) (n : ℕ) (w m : ConsoleState) (j : ℕ) → w.rest.channels ≡ old.channels → overscan_of w ≡ overscan_in old → LookSteps n w m j → IsLookStep m
    → IsMidway old (look_effect m)
midway old n w m j channels overscan run s =
    let f = look_facts m.rest (next_of m.processor) s.look in
    let end = looks_end n w m j run in
    record {
      channels = ap (λ (r : BusState). r.channels) f.after ∙ ap (λ (r : BusState). r.channels) end.rest ∙ channels;
      overscan = ap (λ (r : BusState). overscan_in r) f.after ∙ ap (λ (r : BusState). overscan_in r) end.rest ∙ overscan;
      reset = ap (λ (r : BusState). r.reset) f.after ∙ s.calm.reset;
      refresh = ap (λ (r : BusState). r.refresh) f.after ∙ s.calm.refresh;
      levels = given_twice (moved_on m.processor (byte_of m.rest (next_of m.processor) 0)) (look_effect m).rest;
    }

-- it with another beam and clock, where a refresh is due or not
abbrev with_refresh : ConsoleState → BeamValue → Bool → ℕ → ConsoleState
with_refresh e b due clock = record { processor = e.processor; rest = record e.rest { beam = b; refresh = due }; clock = clock }

record Comes (x : ConsoleState) (left : ℕ) (y : ConsoleState) : Type 0 where
  pub to : after_events (arrived x left) (arrival x left) ≡ y
  pub none : bytes_of_events (arrived x left) (arrival x left) ≡ []

comes_there : (old new : BusState) (due : Bool) (e : ConsoleState) (j clock left : ℕ) → IsPlainlyThere old new due → IsMidway old e → j + left ≡ clocks_left old.beam → 0 < left
    → Comes (at_beam e (beam_after (overscan_in old) old.beam j) clock) left (with_refresh e new.beam due (clock + left))
comes_there old new due e j clock left there m sum some =
    let o = overscan_in old in
    let l = clocks_left old.beam in
    let b = beam_after o old.beam j in
    let x = at_beam e b clock in
    let before : j + (left - 1) ≡ l - 1 = omega (arith, sum, some) in
    let last : beam_after (overscan_of e) b (left - 1) ≡ beam_after o old.beam (l - 1) =
    ap (λ (q : Bool). beam_after q b (left - 1)) m.overscan ∙ beam_joined o old.beam j (left - 1) ∙ ap (beam_after o old.beam) before in
    let on : beam_next (overscan_of e) (beam_after (overscan_of e) b (left - 1)) ≡ new.beam =
    ap (λ (q : BeamValue). beam_next (overscan_of e) q) last ∙ ap (λ (q : Bool). beam_next q (beam_after o old.beam (l - 1))) m.overscan ∙ sym (ap (λ (r : BusState). r.beam) there.on) in
    let clocks : clock + (left - 1) + 1 ≡ clock + left = omega (arith, some) in
    let at : arrived x left ≡ at_beam e new.beam (clock + left) =
    ap (λ (q : BeamValue). at_beam e q (clock + (left - 1) + 1)) on ∙ ap (λ (t : ℕ). at_beam e new.beam t) clocks in
    let events : arrival x left ≡ event_list there.event =
    ap (λ (q : BeamValue). events_of (happens_next (overscan_of e) q)) last ∙ ap (λ (q : Bool). events_of (happens_next q (beam_after o old.beam (l - 1)))) m.overscan ∙ there.alone in
    let y = at_beam e new.beam (clock + left) in
    let is : happened y.rest there.event ≡ record e.rest { beam = new.beam; refresh = due } = there.is y.rest refl m.channels m.refresh in
    let after : after_event y there.event ≡ with_refresh e new.beam due (clock + left) =
    ap {A = BusState} {B = ConsoleState} (λ r. record { processor = with_interrupt_levels e.processor r; rest = r; clock = clock + left }) is
    ∙ ap {A = CpuState} {B = ConsoleState} (λ p. record { processor = p; rest = record e.rest { beam = new.beam; refresh = due }; clock = clock + left }) m.levels in
    let nothing : bytes_of_events (arrived x left) (event_list there.event) ≡ [] = rw (there.none (arrived x left).rest) refl in
    record {
      to = ap (λ (es : List Event). after_events (arrived x left) es) events ∙ ap (λ (q : ConsoleState). after_event q there.event) at ∙ after;
      none = ap (λ (es : List Event). bytes_of_events (arrived x left) es) events ∙ nothing;
    }

record Passes (x : ConsoleState) (clocks : ℕ) (y : ConsoleState) : Type 0 where
  pub to : after_clocks x clocks ≡ y
  pub none : bytes_in x clocks ≡ []

-- clocks that lead to the place and past it
passes_there : (old new : BusState) (due : Bool) (e : ConsoleState) (j clock c more : ℕ) → IsPlainlyThere old new due → IsMidway old e → j < clocks_left old.beam
    → clocks_left old.beam + more ≡ j + c → passed (overscan_in old) new.beam more ≡ []
    → Passes (at_beam e (beam_after (overscan_in old) old.beam j) clock) c (with_refresh e (beam_after (overscan_in old) new.beam more) due (clock + c))
passes_there old new due e j clock c more there m less sum quiet =
    let o = overscan_in old in
    let l = clocks_left old.beam in
    let left = l - j in
    let b = beam_after o old.beam j in
    let x = at_beam e b clock in
    let some : 0 < left = omega (arith, less) in
    let before : j + (left - 1) ≡ l - 1 = omega (arith, less) in
    let none : passed (overscan_of e) b (left - 1) ≡ [] =
    ap (λ (q : Bool). passed q b (left - 1)) m.overscan ∙ (passed_parts o old.beam j (left - 1) (ap (passed o old.beam) before ∙ there.before)).1 in
    let parts = clocks_to_place x left c some (omega (arith, less, sum)) none in
    let come = comes_there old new due e j clock left there m (omega (arith, less)) some in
    let y = with_refresh e new.beam due (clock + left) in
    let rest : c - left ≡ more = omega (arith, less, sum) in
    let later : passed (overscan_of e) new.beam (c - left) ≡ [] = ap (λ (q : Bool). passed q new.beam (c - left)) m.overscan ∙ ap (passed o new.beam) rest ∙ quiet in
    let q = quiet_clocks y (c - left) later in
    let clocks : clock + left + (c - left) ≡ clock + c = omega (arith, less, sum) in
    let beam : beam_after (overscan_of e) new.beam (c - left) ≡ beam_after o new.beam more = ap (λ (q : Bool). beam_after q new.beam (c - left)) m.overscan ∙ ap (beam_after o new.beam) rest in
    record {
      to = parts.0 ∙ ap (λ (z : ConsoleState). after_clocks z (c - left)) come.to ∙ q.0
          ∙ ap (λ (z : BeamValue). with_refresh e z due (clock + left + (c - left))) beam ∙ ap (λ (t : ℕ). with_refresh e (beam_after o new.beam more) due t) clocks;
      none = parts.1 ∙ ap (λ (l : List ℕ). l ++ bytes_in (after_events (arrived x left) (arrival x left)) (c - left)) come.none
          ∙ ap (λ (z : ConsoleState). bytes_in z (c - left)) come.to ∙ q.1;
    }

-- ---- the step that lasts past it, and the refresh

record IsStep (x y : ConsoleState) : Type 0 where
  pub quiet : act_of x.rest (due_of x) ≡ Quiet
  pub none : bytes_after x (due_of x) 0 ≡ []
  pub next : console_after x (due_of x) 0 ≡ y

look_past : (old new : BusState) (due : Bool) (m : ConsoleState) (j clock more : ℕ) → IsPlainlyThere old new due → IsLookStep m → IsMidway old (look_effect m) → j < clocks_left old.beam
    → clocks_left old.beam + more ≡ j + clocks_next m → passed (overscan_in old) new.beam more ≡ []
    → IsStep (at_beam m (beam_after (overscan_in old) old.beam j) clock) (with_refresh (look_effect m) (beam_after (overscan_in old) new.beam more) due (clock + clocks_next m))
look_past old new due m j clock more there s mid less sum quiet =
    let b = beam_after (overscan_in old) old.beam j in
    let x = at_beam m b clock in
    let calm : IsCalm x.rest = record { reset = s.calm.reset; refresh = s.calm.refresh; transfer = s.calm.transfer } in
    let is = look_due x calm in
    let effects = effect_at m b clock s.look in
    let p = passes_there old new due (look_effect m) j clock (clocks_next m) more there mid less sum quiet in
    let f = look_facts x.rest (next_of m.processor) (look_at m.rest b (next_of m.processor) s.look) in
    record {
      quiet = ap (λ (d : Due). act_of x.rest d) is ∙ f.quiet;
      none = ap (λ (d : Due). bytes_after x d 0) is ∙ ap (λ (y : ConsoleState). bytes_in y (clocks_next m)) effects ∙ p.none;
      next = ap (λ (d : Due). console_after x d 0) is ∙ ap (λ (y : ConsoleState). after_clocks y (clocks_next m)) effects ∙ p.to;
    }

refresh_after : (old : BusState) (e : ConsoleState) (b : BeamValue) (clock : ℕ) → IsMidway old e → passed (overscan_in old) b 40 ≡ []
    → IsStep (with_refresh e b true clock) (at_beam e (beam_after (overscan_in old) b 40) (clock + 40))
refresh_after old e b clock m quiet =
    let x = with_refresh e b true clock in
    let is : due_of x ≡ Refreshes = rw m.reset refl in
    let effects : effect x Refreshes 0 ≡ at_beam e b clock =
    ap {A = CpuState} {B = ConsoleState} (λ p. record { processor = p; rest = record e.rest { beam = b; refresh = false }; clock = clock }) m.levels
    ∙ ap {A = Bool} {B = ConsoleState} (λ d. record { processor = e.processor; rest = record e.rest { beam = b; refresh = d }; clock = clock }) (sym m.refresh) in
    let q = quiet_clocks (at_beam e b clock) 40 (ap (λ (o : Bool). passed o b 40) m.overscan ∙ quiet) in
    record {
      quiet = ap (λ (d : Due). act_of x.rest d) is;
      none = ap (λ (d : Due). bytes_after x d 0) is ∙ ap (λ (y : ConsoleState). bytes_in y 40) effects ∙ q.1;
      next = ap (λ (d : Due). console_after x d 0) is ∙ ap (λ (y : ConsoleState). after_clocks y 40) effects ∙ q.0
          ∙ ap (λ (o : Bool). at_beam e (beam_after o b 40) (clock + 40)) m.overscan;
    }

abbrev Silently : ConsoleState → ConsoleState → Type 0
Silently w to = (q : ℕ) × SilentWorlds q w to

crossed : (old new : BusState) (due : Bool) (m : ConsoleState) (j clock more : ℕ) → IsPlainlyThere old new due → IsLookStep m → IsMidway old (look_effect m) → j < clocks_left old.beam
    → clocks_left old.beam + more ≡ j + clocks_next m → passed (overscan_in old) new.beam (more + refresh_clocks due) ≡ []
    → Silently (at_beam m (beam_after (overscan_in old) old.beam j) clock)
    (at_beam (look_effect m) (beam_after (overscan_in old) new.beam (more + refresh_clocks due)) (clock + clocks_next m + refresh_clocks due))
crossed old new false m j clock more there s mid less sum quiet =
    let o = overscan_in old in
    let e = look_effect m in
    let step = look_past old new false m j clock more there s mid less sum (ap (passed o new.beam) (sym (add-zero more)) ∙ quiet) in
    let to : with_refresh e (beam_after o new.beam more) false (clock + clocks_next m) ≡ at_beam e (beam_after o new.beam (more + 0)) (clock + clocks_next m + 0) =
    ap {A = Bool} {B = ConsoleState} (λ d. with_refresh e (beam_after o new.beam more) d (clock + clocks_next m)) (sym mid.refresh)
    ∙ ap (λ (n : ℕ). at_beam e (beam_after o new.beam n) (clock + clocks_next m)) (sym (add-zero more))
    ∙ ap (λ (t : ℕ). at_beam e (beam_after o new.beam (more + 0)) t) (sym (add-zero (clock + clocks_next m))) in
    (1, (step.quiet, step.none, step.next ∙ to))
crossed old new true m j clock more there s mid less sum quiet =
    let o = overscan_in old in
    let e = look_effect m in
    let parts = passed_parts o new.beam more 40 quiet in
    let step = look_past old new true m j clock more there s mid less sum parts.0 in
    let refresh = refresh_after old e (beam_after o new.beam more) (clock + clocks_next m) mid parts.1 in
    let to = at_beam e (beam_after o new.beam (more + 40)) (clock + clocks_next m + 40) in
    let joined : at_beam e (beam_after o (beam_after o new.beam more) 40) (clock + clocks_next m + 40) ≡ to = ap (λ (z : BeamValue). at_beam e z (clock + clocks_next m + 40)) (beam_joined o new.beam more 40) in
    let P : ConsoleState → Type 0 = λ x. SilentWorlds 1 x to in
    (2, (step.quiet, step.none, subst P (sym step.next) (refresh.quiet, refresh.none, refresh.next ∙ joined)))

-- ---- steps that only look, past it

abbrev Past : BusState → BusState → Bool → ConsoleState → ConsoleState → ℕ → ℕ → Type 0
Past old new due w to k clock =
    Silently (at_beam w old.beam clock) (at_beam to (beam_after (overscan_in old) new.beam (k - clocks_left old.beam + refresh_clocks due)) (clock + k + refresh_clocks due))

past_last : (old new : BusState) (due : Bool) (n : ℕ) (w mid to : ConsoleState) (j k clock : ℕ) → IsPlainlyThere old new due → w.rest.channels ≡ old.channels → overscan_of w ≡ overscan_in old → old.beam.h < 1364
    → LookSteps n w mid j → IsLookStep mid → console_after mid (due_of mid) 0 ≡ to → k ≡ j + clocks_next mid → clocks_left old.beam ≤ k
    → passed (overscan_in old) new.beam (k - clocks_left old.beam + refresh_clocks due) ≡ []
    → (clocks_left old.beam ≤ j → passed (overscan_in old) new.beam (j - clocks_left old.beam + refresh_clocks due) ≡ [] → Past old new due w mid j clock)
    → (j < clocks_left old.beam) ⊎ (clocks_left old.beam ≤ j) → Past old new due w to k clock
past_last old new due n w mid to j k clock there channels overscan line run s next sum enough quiet before (inl less) =
    let o = overscan_in old in
    let l = clocks_left old.beam in
    let c = clocks_next mid in
    let e = look_effect mid in
    let r = refresh_clocks due in
    let some = there.some in
    let to_place : j + (l - 1 - j) ≡ l - 1 = omega (arith, less) in
    let none : passed (overscan_of w) old.beam j ≡ [] =
    ap (λ (q : Bool). passed q old.beam j) overscan ∙ (passed_parts o old.beam j (l - 1 - j) (ap (passed o old.beam) to_place ∙ there.before)).0 in
    let silent = looks_silent n (at_beam w old.beam clock) (at_beam mid (beam_after (overscan_of w) old.beam j) (clock + j)) j line (steps_at n w mid j old.beam clock run none) in
    let P : Bool → Type 0 = λ q. SilentWorlds silent.0 (at_beam w old.beam clock) (at_beam mid (beam_after q old.beam j) (clock + j)) in
    let first : SilentWorlds silent.0 (at_beam w old.beam clock) (at_beam mid (beam_after o old.beam j) (clock + j)) = subst P overscan silent.1.0 in
    let more = j + c - l in
    let same : k - l + r ≡ more + r = ap (λ (n : ℕ). n - l + r) sum in
    let cross = crossed old new due mid j (clock + j) more there s (midway old n w mid j channels overscan run s) less (omega (arith, less, sum, enough)) (ap (passed o new.beam) (sym same) ∙ quiet) in
    let all = silent_append silent.0 cross.0 (at_beam w old.beam clock) (at_beam mid (beam_after o old.beam j) (clock + j)) (at_beam e (beam_after o new.beam (more + r)) (clock + j + c + r)) first cross.1 in
    let made = look_made mid s in
    let ends : at_beam e (beam_after o new.beam (more + r)) (clock + j + c + r) ≡ at_beam to (beam_after o new.beam (k - l + r)) (clock + k + r) =
    ap (λ (x : ConsoleState). at_beam x (beam_after o new.beam (more + r)) (clock + j + c + r)) (sym made.next ∙ next)
    ∙ ap (λ (n : ℕ). at_beam to (beam_after o new.beam n) (clock + j + c + r)) (sym same)
    ∙ ap (λ (t : ℕ). at_beam to (beam_after o new.beam (k - l + r)) t) (omega (arith, sum)) in
    let Q : ConsoleState → Type 0 = λ x. SilentWorlds all.0 (at_beam w old.beam clock) x in
    (all.0, subst Q ends all.1)
past_last old new due n w mid to j k clock there channels overscan line run s next sum enough quiet before (inr past) =
    let o = overscan_in old in
    let l = clocks_left old.beam in
    let c = clocks_next mid in
    let r = refresh_clocks due in
    let gone = j - l + r in
    let b = beam_after o new.beam gone in
    let t = clock + j + r in
    let parts_sum : gone + c ≡ k - l + r = omega (arith, sum, past) in
    let parts = passed_parts o new.beam gone c (ap (passed o new.beam) parts_sum ∙ quiet) in
    let first = before past parts.0 in
    let end = looks_end n w mid j run in
    let over : overscan_of mid ≡ o = ap (λ (x : BusState). overscan_in x) end.rest ∙ overscan in
    let none : passed (overscan_of mid) b c ≡ [] = ap (λ (q : Bool). passed q b c) over ∙ parts.1 in
    let made = look_made (at_beam mid b t) (look_step_at mid b t s none) in
    let step = step_at mid b t s none in
    let ends : console_after (at_beam mid b t) (due_of (at_beam mid b t)) 0 ≡ at_beam to (beam_after o new.beam (k - l + r)) (clock + k + r) =
    step ∙ ap (λ (x : ConsoleState). at_beam x (beam_after (overscan_of mid) b c) (t + c)) next
    ∙ ap (λ (q : Bool). at_beam to (beam_after q b c) (t + c)) over
    ∙ ap (λ (x : BeamValue). at_beam to x (t + c)) (beam_joined o new.beam gone c ∙ ap (beam_after o new.beam) parts_sum)
    ∙ ap (λ (x : ℕ). at_beam to (beam_after o new.beam (k - l + r)) x) (omega (arith, sum)) in
    let Q : ConsoleState → Type 0 = λ x. SilentWorlds (suc first.0) (at_beam w old.beam clock) x in
    (suc first.0, subst Q ends (silent_more first.0 (at_beam w old.beam clock) (at_beam mid b t) first.1 made.quiet made.none))

looks_past : (old new : BusState) (due : Bool) (n : ℕ) (w to : ConsoleState) (k clock : ℕ) → IsPlainlyThere old new due → w.rest.channels ≡ old.channels → overscan_of w ≡ overscan_in old → old.beam.h < 1364
    → LookSteps n w to k → clocks_left old.beam ≤ k → passed (overscan_in old) new.beam (k - clocks_left old.beam + refresh_clocks due) ≡ [] → Past old new due w to k clock
looks_past old new due zero w to k clock there channels overscan line h enough quiet =
    let none = h.1 in
    let some = there.some in
    absurd (omega (arith, none, some, enough))
looks_past old new due (suc n) w to k clock there channels overscan line h enough quiet =
    past_last old new due n w h.mid to h.before k clock there channels overscan line h.run h.step h.next h.sum enough quiet
    (λ past nothing. looks_past old new due n w h.mid h.before clock there channels overscan line h.run past nothing) (cases_lt h.before (clocks_left old.beam))

-- ---- a round past it

record KeepsPlace (w to : ConsoleState) : Type 0 where
  pub region : region_of to ≡ region_of w
  pub line : to.rest.beam.h < 1364

silent_keeps : (n : ℕ) (w to : ConsoleState) → w.rest.beam.h < 1364 → SilentWorlds n w to → KeepsPlace w to
silent_keeps zero w to line same =
    let P : ConsoleState → Type 0 = λ x. KeepsPlace w x in
    subst P same (record { region = refl; line = line })
silent_keeps (suc n) w to line (first, nothing, rest) =
    let s = step_keeps w (due_of w) 0 line in
    let k = silent_keeps n (console_after w (due_of w) 0) to s.line rest in
    record { region = k.region ∙ s.region; line = k.line }

refresh_few : (due : Bool) → refresh_clocks due ≤ 40
refresh_few false = omega arith
refresh_few true = omega arith

quiet_there : (o : Bool) (b : BeamValue) (n : ℕ) → n < clocks_left b → passed o b n ≡ []
quiet_there o b n few = (quiet_passed o b n (omega (arith, few))).1

-- what the bus is then
pub gone_over : (old new bus : BusState) (due : Bool) (k left more : ℕ) → IsPlainlyThere old new due → left ≡ clocks_left old.beam → more ≡ refresh_clocks due
    → bus ≡ gone_on new (k - left + more) → bus ≡ record old { beam = beam_after (overscan_in old) new.beam (k - clocks_left old.beam + refresh_clocks due) }
gone_over old new bus due k left more there is_left is_more on =
    on ∙ ap {A = BusState} {B = BusState} (λ r. record r { beam = beam_after (overscan_in r) new.beam (k - left + more) }) there.on
    ∙ ap {A = ℕ} {B = BusState} (λ x. record old { beam = beam_after (overscan_in old) new.beam (k - x + more) }) is_left
    ∙ ap {A = ℕ} {B = BusState} (λ x. record old { beam = beam_after (overscan_in old) new.beam (k - clocks_left old.beam + x) }) is_more

-- from the processor of a round and the byte that it begins with
pub goes_over : (cpu : Cpu) (old new bus : BusState) (due : Bool) (byte k n : ℕ) → IsRoundFrom cpu old byte k → old.last ≡ byte → IsPlainlyThere old new due → clocks_left old.beam ≤ k → k ≤ 400
    → bus ≡ record old { beam = beam_after (overscan_in old) new.beam (k - clocks_left old.beam + refresh_clocks due) } → n ≡ k + refresh_clocks due → GoesOn cpu cpu old bus n
goes_over cpu old new bus due byte k n round last there enough short on sum = λ w at line calm wired.
    let o = overscan_in old in
    let r = refresh_clocks due in
    let beam = beam_after o new.beam (k - clocks_left old.beam + r) in
    let far = there.far in
    let few = refresh_few due in
    let fits : passed o new.beam k ≡ [] = quiet_there o new.beam k (omega (arith, short, far)) in
    let quiet : passed o new.beam (k - clocks_left old.beam + r) ≡ [] = quiet_there o new.beam (k - clocks_left old.beam + r) (omega (arith, short, far, few)) in
    let R : ℕ → Type 0 = λ x. IsRoundFrom cpu old x k in
    let is : IsRound cpu old k = subst R (sym last) round in
    let u : ConsoleState = record { processor = w.processor; rest = record old { beam = new.beam }; clock = w.clock } in
    let g = is new.beam fits u (record { processor = at.processor; rest = refl }) in
    let L : BusState → Type 0 = λ x. x.beam.h < 1364 in
    let past = looks_past old new due g.steps u g.to k w.clock there refl refl (subst L (sym at.rest) line) g.run enough quiet in
    let here : at_beam u old.beam w.clock ≡ w = ap {A = BusState} {B = ConsoleState} (λ x. record { processor = w.processor; rest = x; clock = w.clock }) at.rest in
    let to = at_beam g.to beam (w.clock + k + r) in
    let P : ConsoleState → Type 0 = λ x. SilentWorlds past.0 x to in
    let run : SilentWorlds past.0 w to = subst P here past.1 in
    let keeps = silent_keeps past.0 w to line run in
    let C : BusState → Type 0 = λ x. IsCalm x in
    let W : BusState → Type 0 = λ x. IsWired cpu x in
    let S : BusState → Type 0 = λ x. IsElsewhere old x in
    record {
      run = record {
        steps = past.0;
        to = to;
        run = run;
        at = record { processor = g.at.processor; rest = on ∙ ap {A = BusState} {B = BusState} (λ x. record x { beam = beam }) g.at.rest };
        after = record { region = keeps.region; line = keeps.line; clock = omega (arith, sum) };
      };
      wired = subst W (sym on) (record { nmi = wired.nmi; irq = wired.irq });
      calm = subst C (sym on) (record { reset = calm.reset; refresh = calm.refresh; transfer = calm.transfer });
      same = subst S (sym on) refl;
    }
