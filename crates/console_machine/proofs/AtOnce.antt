-- A step that is an access made at once, told of a console state.
use Rattle.std.proofs.Common.{◌≡◌, ℕ, ◌≤◌, false, Some, None, [], refl, sym, ap, subst, ◌∙◌}
use Rattle.snes_defs.specs.declared.ports.Act.{Act}
use Rattle.cpu_tables.specs.declared.access.Access.{Access}
use Rattle.cpu65816.specs.declared.processor.Cpu.{Cpu}
use Rattle.cpu65816.specs.Instruction.{CpuState, next_of}
use Rattle.cpu65816.specs.Stands.{Stands, access_of}
use Rattle.dma_hdma.specs.declared.moves.Move.{Move}
use Rattle.dma_hdma.specs.Channels.{due_of as transfer_of}
use Rattle.console_bus.specs.BusState.{BusState}
use Rattle.console_steps.specs.ConsoleState.{ConsoleState, Due, Moves_byte, Accesses, access_act, act_of, due_of, after_access, after_move, effect, after_clocks, bytes_in}
use Rattle.console_steps.specs.Stands.{IsAt}
use Rattle.console_steps.specs.AtOnce.{IsMadeAtOnce, IsMovedAtOnce}
use Rattle.console_steps.proofs.PassSteps.{went_on}
use Rattle.console_machine.specs.SideLaws.{due_step}
use Rattle.console_machine.specs.Silent.{IsStepMade}

-- the access of a processor is that of what it stands for
pub same_access : (cpu : Cpu) (s : CpuState) → Stands cpu s → access_of cpu ≡ next_of s
same_access cpu s h = rw (h.kept, h.irq_level, h.left) refl

-- the step that is due is that access
pub due_access : (cpu : Cpu) (bus : BusState) (w : ConsoleState) → IsAt cpu bus w → bus.reset ≡ false → bus.refresh ≡ false → transfer_of bus.channels ≡ None
    → due_of w ≡ Accesses (access_of cpu)
due_access cpu bus w at reset refresh transfer =
    let a : w.rest.reset ≡ false = ap (λ r. r.reset) (sym at.rest) ∙ reset in
    let b : w.rest.refresh ≡ false = ap (λ r. r.refresh) (sym at.rest) ∙ refresh in
    let d : transfer_of w.rest.channels ≡ None = ap (λ r. transfer_of r.channels) (sym at.rest) ∙ transfer in
    rw (a, b, d) (ap Accesses (sym (same_access cpu w.processor at.processor)))

-- what it is at the ports
pub act_due : (cpu : Cpu) (bus : BusState) (w : ConsoleState) (act : Act) → IsAt cpu bus w → act ≡ access_act bus (access_of cpu)
    → bus.reset ≡ false → bus.refresh ≡ false → transfer_of bus.channels ≡ None → act_of w.rest (due_of w) ≡ act
act_due cpu bus w act at is reset refresh transfer =
    let P : Due → Type 0 = λ d. act_of w.rest d ≡ act in
    let Q : BusState → Type 0 = λ r. access_act r (access_of cpu) ≡ act in
    subst P (sym (due_access cpu bus w at reset refresh transfer)) (subst Q at.rest (sym is))

-- for a console state whose bus is this one
told : (cpu cpu' : Cpu) (bus' : BusState) (w : ConsoleState) (a : Access) (clocks : ℕ) → Stands cpu w.processor → IsMadeAtOnce cpu cpu' w.rest bus' a clocks
    → IsStepMade cpu' bus' w (Accesses a) clocks
told cpu cpu' bus' w a clocks s m =
    let there : IsAt cpu' (after_access w.rest a 0) (effect w (Accesses a) 0) = record { processor = m.processor w.processor s; rest = refl } in
    let on = went_on cpu' (after_access w.rest a 0) bus' (effect w (Accesses a) 0) clocks there m.nothing m.rest in
    let At : ℕ → Type 0 = λ n. IsAt cpu' bus' (after_clocks (effect w (Accesses a) 0) n) in
    let Emits : ℕ → Type 0 = λ n. bytes_in (effect w (Accesses a) 0) n ≡ [] in
    record { quiet = m.quiet; at = subst At m.lasts on.0; none = subst Emits m.lasts on.1; lasts = m.lasts }

pub is_step : (cpu cpu' : Cpu) (bus bus' : BusState) (w : ConsoleState) (clocks : ℕ) → IsAt cpu bus w → IsMadeAtOnce cpu cpu' bus bus' (access_of cpu) clocks
    → bus.reset ≡ false → bus.refresh ≡ false → transfer_of bus.channels ≡ None → IsStepMade cpu' bus' w (due_of w) clocks
is_step cpu cpu' bus bus' w clocks at m reset refresh transfer =
    let P : BusState → Type 0 = λ r. IsMadeAtOnce cpu cpu' r bus' (access_of cpu) clocks in
    let Q : Due → Type 0 = λ d. IsStepMade cpu' bus' w d clocks in
    subst Q (sym (due_access cpu bus w at reset refresh transfer)) (told cpu cpu' bus' w (access_of cpu) clocks at.processor (subst P at.rest m))

-- an access made at once lasts 6 to 40 clocks
pub least_made : (cpu cpu' : Cpu) (bus bus' : BusState) (clocks : ℕ) → IsMadeAtOnce cpu cpu' bus bus' (access_of cpu) clocks → 6 ≤ clocks
least_made cpu cpu' bus bus' clocks m =
    let P : ℕ → Type 0 = λ n. 6 ≤ n in
    subst P (sym m.lasts) (due_step (Accesses (access_of cpu)) bus.io.fast).least

pub few_made : (cpu cpu' : Cpu) (bus bus' : BusState) (clocks : ℕ) → IsMadeAtOnce cpu cpu' bus bus' (access_of cpu) clocks → clocks ≤ 40
few_made cpu cpu' bus bus' clocks m =
    let P : ℕ → Type 0 = λ n. n ≤ 40 in
    subst P (sym m.lasts) (due_step (Accesses (access_of cpu)) bus.io.fast).most

-- ---- a step that is a byte of a transfer moved at once

due_move : (cpu : Cpu) (bus : BusState) (w : ConsoleState) (m : Move) → IsAt cpu bus w → bus.reset ≡ false → bus.refresh ≡ false → transfer_of bus.channels ≡ Some m
    → due_of w ≡ Moves_byte m
due_move cpu bus w m at reset refresh transfer =
    let a : w.rest.reset ≡ false = ap (λ r. r.reset) (sym at.rest) ∙ reset in
    let b : w.rest.refresh ≡ false = ap (λ r. r.refresh) (sym at.rest) ∙ refresh in
    let d : transfer_of w.rest.channels ≡ Some m = ap (λ r. transfer_of r.channels) (sym at.rest) ∙ transfer in
    rw (a, b, d) refl

moved : (cpu cpu' : Cpu) (bus' : BusState) (w : ConsoleState) (m : Move) → Stands cpu w.processor → IsMovedAtOnce cpu cpu' w.rest bus' m
    → IsStepMade cpu' bus' w (Moves_byte m) 8
moved cpu cpu' bus' w m s made =
    let there : IsAt cpu' (after_move w.rest m 0) (effect w (Moves_byte m) 0) = record { processor = made.processor w.processor s; rest = refl } in
    let on = went_on cpu' (after_move w.rest m 0) bus' (effect w (Moves_byte m) 0) 8 there made.nothing made.rest in
    record { quiet = made.quiet; at = on.0; none = on.1; lasts = refl }

pub is_moved : (cpu cpu' : Cpu) (bus bus' : BusState) (w : ConsoleState) (m : Move) (clocks : ℕ) → IsAt cpu bus w → IsMovedAtOnce cpu cpu' bus bus' m → clocks ≡ 8
    → bus.reset ≡ false → bus.refresh ≡ false → transfer_of bus.channels ≡ Some m → IsStepMade cpu' bus' w (due_of w) clocks
is_moved cpu cpu' bus bus' w m clocks at made lasts reset refresh transfer =
    let P : BusState → Type 0 = λ r. IsMovedAtOnce cpu cpu' r bus' m in
    let Q : Due → Type 0 = λ d. IsStepMade cpu' bus' w d 8 in
    let R : ℕ → Type 0 = λ n. IsStepMade cpu' bus' w (due_of w) n in
    subst R (sym lasts) (subst Q (sym (due_move cpu bus w m at reset refresh transfer)) (moved cpu cpu' bus' w m at.processor (subst P at.rest made)))
