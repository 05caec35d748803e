-- One access, and accesses after others.
use Rattle.std.proofs.Common.{◌≡◌, ℕ, zero, suc, ◌+◌, ◌-◌, ◌<◌, Bool, true, false, not, ◌&&◌, ◌||◌, Option, Some, None, [], refl, sym, ap, subst, ◌∙◌, arith, add-zero}
use Rattle.snes_defs.specs.declared.ports.Act.TheVariants.{Quiet}
use Rattle.cpu_tables.specs.declared.access.Access.{Access}
use Rattle.cpu_tables.specs.declared.regs.Regs.{Regs}
use Rattle.cpu_modes.specs.Plan.{Plan, after, finished, first_access}
use Rattle.cpu65816.specs.Instruction.{CpuState, left_of, ahead, ahead_by, end_of, registers_by, moved_by, moved_on, next_of}
use Rattle.cpu65816.proofs.Moves.{left_by-append}
use Rattle.io_math.specs.Registers.{nmi_level, irq_level}
use Rattle.beam.specs.Places.{clocks_left}
use Rattle.console_bus.specs.BusState.{BusState}
use Rattle.console_steps.specs.ConsoleState.{ConsoleState, Due, Accesses, access_act, access_clocks, act_of, after_access, after_clocks, byte_of, bytes_after, bytes_in, console_after, due_of, effect}
use Rattle.console_steps.specs.AtOnce.{gone_on, passed_in}
use Rattle.console_steps.specs.Plain.{IsCalm}
use Rattle.console_steps.proofs.Clocks.{drifted, quiet_clocks}
use Rattle.whole_instructions.specs.Passes.{QuietSteps, HasLeft, LeadsTo, Passes}

-- what an access leaves of an instruction
left_moved : (f : Option Regs) (s : CpuState) (byte : ℕ)
    → left_of (moved_by f byte s) ≡ after (ahead_by f s.kept s.irq_level (left_of s)) byte
left_moved None s byte = left_by-append s.begun s.start s.got byte
left_moved (Some r) s byte = refl

start_moved : (f : Option Regs) (s : CpuState) (byte : ℕ) → (moved_by f byte s).start ≡ registers_by f s.start
start_moved None s byte = refl
start_moved (Some r) s byte = refl

kept_moved : (f : Option Regs) (s : CpuState) (byte : ℕ) → s.kept ≡ false → s.irq_level ≡ false
    → (moved_by f byte s).kept ≡ false
kept_moved None s byte k i = k
kept_moved (Some r) s byte k i = rw (k, i) refl

level_moved : (f : Option Regs) (s : CpuState) (byte : ℕ) → (moved_by f byte s).nmi_level ≡ s.nmi_level
level_moved None s byte = refl
level_moved (Some r) s byte = refl

none_kept : (n : Bool) → (n && not n) ≡ false
none_kept true = refl
none_kept false = refl

-- an edge of the NMI line that is given again is none
no_edge : (kept n m : Bool) → kept ≡ false → m ≡ n → (kept || (n && not m)) ≡ false
no_edge kept n m k e = rw (k, e) (none_kept n)

-- the next access is the step that is due
due_is : (start : Regs) (plan : Plan) (w : ConsoleState) (a : Access) → HasLeft start plan w.rest w → IsCalm w.rest
    → first_access (ahead false false plan) ≡ a → due_of w ≡ Accesses a
due_is start plan w a h calm first =
    let next : next_of w.processor ≡ a = rw (h.kept, h.irq, h.left) first in
    rw (calm.reset, calm.refresh, calm.transfer) (ap Accesses next)

-- what a step comes to that is this one
record StepsTo (start : Regs) (plan : Plan) (bus : BusState) (w : ConsoleState) (clocks : ℕ) (d : Due) : Type 0 where
  pub quiet : act_of w.rest d ≡ Quiet
  pub none : bytes_after w d 0 ≡ []
  pub at : HasLeft start plan bus (console_after w d 0)
  pub clock : (console_after w d 0).clock ≡ w.clock + clocks

access_step : (start : Regs) (plan : Plan) (bus : BusState) (w : ConsoleState) (a : Access) (clocks : ℕ)
    → HasLeft start plan w.rest w → access_act w.rest a ≡ Quiet → clocks ≡ access_clocks a w.rest.io.fast
    → passed_in (after_access w.rest a 0) clocks ≡ [] → bus ≡ gone_on (after_access w.rest a 0) clocks
    → (after_access w.rest a 0).io ≡ w.rest.io
    → StepsTo (registers_by (finished false plan) start) (after (ahead false false plan) (byte_of w.rest a 0)) bus w clocks (Accesses a)
access_step start plan bus w a clocks h quiet lasts nothing rest io =
    let s = w.processor in
    let byte = byte_of w.rest a 0 in
    let e = effect w (Accesses a) 0 in
    let gone = quiet_clocks e clocks nothing in
    let f = end_of s.kept s.irq_level (left_of s) in
    let ended : f ≡ finished false plan = rw (h.kept, h.irq, h.left) refl in
    let next : ahead s.kept s.irq_level (left_of s) ≡ ahead false false plan = rw (h.kept, h.irq, h.left) refl in
    let nmi : (moved_on s byte).nmi_level ≡ nmi_level (after_access w.rest a 0).io =
    level_moved f s byte ∙ h.nmi_given ∙ ap nmi_level (sym io) in
    let same : (bus.io) ≡ (after_access w.rest a 0).io = ap (λ (r : BusState). r.io) rest in
    let there : HasLeft (registers_by (finished false plan) start) (after (ahead false false plan) byte) bus (drifted e clocks) = record {
      left = left_moved f s byte ∙ ap (λ p. after p byte) next;
      start = start_moved f s byte ∙ (ap (λ g. registers_by g s.start) ended ∙ ap (λ r. registers_by (finished false plan) r) h.start);
      kept = no_edge (moved_on s byte).kept (nmi_level (after_access w.rest a 0).io) (moved_on s byte).nmi_level (kept_moved f s byte h.kept h.irq) nmi;
      irq = ap irq_level io ∙ (sym h.irq_given ∙ h.irq);
      nmi_given = ap nmi_level (sym same);
      irq_given = ap irq_level (sym same);
      rest = rest;
    } in
    let At : ConsoleState → Type 0 = λ x. HasLeft (registers_by (finished false plan) start) (after (ahead false false plan) byte) bus x in
    let Goes : ℕ → Type 0 = λ n. At (after_clocks e n) in
    let Emits : ℕ → Type 0 = λ n. bytes_in e n ≡ [] in
    let Lasts : ℕ → Type 0 = λ n. (after_clocks e n).clock ≡ w.clock + clocks in
    record {
      quiet = quiet;
      none = subst Emits lasts gone.1;
      at = subst Goes lasts (subst At (sym gone.0) there);
      clock = subst Lasts lasts (ap (λ (x : ConsoleState). x.clock) gone.0);
    }

one_access : (start : Regs) (plan : Plan) (bus bus' : BusState) (a : Access) (clocks : ℕ) (w : ConsoleState)
    → first_access (ahead false false plan) ≡ a → access_act bus a ≡ Quiet → clocks ≡ access_clocks a bus.io.fast
    → passed_in (after_access bus a 0) clocks ≡ [] → bus' ≡ gone_on (after_access bus a 0) clocks
    → (after_access bus a 0).io ≡ bus.io → HasLeft start plan bus w → IsCalm bus
    → LeadsTo (registers_by (finished false plan) start) (after (ahead false false plan) (byte_of bus a 0)) bus' w clocks
one_access start plan bus bus' a clocks w first quiet lasts nothing rest io h calm =
    let P : BusState → Type 0 = λ r. access_act r a ≡ Quiet → clocks ≡ access_clocks a r.io.fast
    → passed_in (after_access r a 0) clocks ≡ [] → bus' ≡ gone_on (after_access r a 0) clocks
    → (after_access r a 0).io ≡ r.io → HasLeft start plan r w → IsCalm r
    → LeadsTo (registers_by (finished false plan) start) (after (ahead false false plan) (byte_of r a 0)) bus' w clocks in
    let at_rest : P w.rest = λ q l n r i g c. (
    let Is : Due → Type 0 = λ d. StepsTo (registers_by (finished false plan) start) (after (ahead false false plan) (byte_of w.rest a 0)) bus' w clocks d in
    let made = subst Is (sym (due_is start plan w a g c first)) (access_step start plan bus' w a clocks g q l n r i) in
    record {
      steps = 1;
      to = console_after w (due_of w) 0;
      run = (made.quiet, made.none, refl);
      at = made.at;
      clock = made.clock;
    }) in
    subst P (sym h.rest) at_rest quiet lasts nothing rest io h calm

-- one access made plainly
pub passes_one : (start : Regs) (plan : Plan) (bus bus' : BusState) (a : Access) (clocks : ℕ)
    → first_access (ahead false false plan) ≡ a → access_act bus a ≡ Quiet → clocks ≡ access_clocks a bus.io.fast
    → passed_in (after_access bus a 0) clocks ≡ [] → bus' ≡ gone_on (after_access bus a 0) clocks
    → (after_access bus a 0).io ≡ bus.io → clocks < clocks_left bus.beam
    → clocks_left bus'.beam ≡ clocks_left bus.beam - clocks → (IsCalm bus → IsCalm bus')
    → Passes start (registers_by (finished false plan) start) plan (after (ahead false false plan) (byte_of bus a 0)) bus bus'
passes_one start plan bus bus' a clocks first quiet lasts nothing rest io few left calm = record {
  left = omega (arith, left);
  calm = calm;
  io = ap (λ (r : BusState). r.io) rest ∙ io;
  come = λ w h is_calm. (
      let sum : clocks ≡ clocks_left bus.beam - clocks_left bus'.beam = omega (arith, few, left) in
      let P : ℕ → Type 0 = λ n. LeadsTo (registers_by (finished false plan) start) (after (ahead false false plan) (byte_of bus a 0)) bus' w n in
      subst P sum (one_access start plan bus bus' a clocks w first quiet lasts nothing rest io h is_calm));
}

pub passes_none : (start : Regs) (plan : Plan) (bus : BusState) → Passes start start plan plan bus bus
passes_none start plan bus = record {
  left = omega arith;
  calm = λ h. h;
  io = refl;
  come = λ w h calm. (
      let none : 0 ≡ clocks_left bus.beam - clocks_left bus.beam = omega arith in
      let P : ℕ → Type 0 = λ n. LeadsTo start plan bus w n in
      subst P none (record { steps = 0; to = w; run = refl; at = h; clock = sym (add-zero w.clock) }));
}

quiet_append : (n m : ℕ) (w mid to : ConsoleState) → QuietSteps n w mid → QuietSteps m mid to → (q : ℕ) × QuietSteps q w to
quiet_append zero m w mid to same then =
    let P : ConsoleState → Type 0 = λ x. QuietSteps m x to in
    (m, subst P (sym same) then)
quiet_append (suc n) m w mid to (first, nothing, rest) then =
    let more = quiet_append n m (console_after w (due_of w) 0) mid to rest then in
    (suc more.0, (first, nothing, more.1))

pub passes_then : (s t u : Regs) (p q r : Plan) (x y z : BusState) → Passes s t p q x y → Passes t u q r y z → Passes s u p r x z
passes_then s t u p q r x y z f g = record {
  left = (let first = f.left in let then = g.left in omega (arith, first, then));
  calm = λ h. g.calm (f.calm h);
  io = g.io ∙ f.io;
  come = λ w h calm. (
      let first = f.left in
      let then = g.left in
      let a = f.come w h calm in
      let b = g.come a.to a.at (f.calm calm) in
      let all = quiet_append a.steps b.steps w a.to b.to a.run b.run in
      let before = a.clock in
      let last = b.clock in
      record { steps = all.0; to = b.to; run = all.1; at = b.at; clock = omega (arith, first, then, before, last) });
}
