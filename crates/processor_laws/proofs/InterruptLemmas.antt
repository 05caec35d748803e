use Rattle.std.proofs.Common.{◌≡◌, ◌≢◌, ℕ, ◌+◌, ◌*◌, ◌/◌, ◌%◌, ◌<◌, false, Option, Some, sym, ap, ◌∙◌, subst, arith}
use Rattle.std.specs.Option.{IsSomeAnd}
use Rattle.cpu_tables.specs.Status.{size}
use Rattle.cpu_tables.specs.declared.flags.TheConstants.{INDEX_8}
use Rattle.cpu_tables.specs.declared.regs.Regs.{Regs}
use Rattle.cpu_alu.specs.Flow.{interrupt, return_from_interrupt}
use Rattle.cpu_alu.specs.Registers.{pushed_status, with_status}
use Rattle.cpu_alu.specs.Results.{registers_after}
use Rattle.cpu_modes.specs.Addresses.{code, fetched, join, next_in_bank, pulled, pushed, stack}
use Rattle.cpu_modes.specs.Orders.{instruction, order, order_by}
use Rattle.processor_laws.specs.Interrupts.{KeepsFrame, brought_back}
use Rattle.processor_laws.specs.Outcomes.{IsPossible, Memory, Outcome, outcome, stored}
use Rattle.processor_laws.proofs.Rows.{irq, nmi, rti, row_of-40, use_of-irq, use_of-nmi, use_of-rti, registers_after-rti, outcome-opcode}
use Rattle.processor_laws.proofs.StackLemmas.{down, up, up-down, IsStack-down, stored-same, stored-other}

-- registers in native mode
abbrev native : Regs → Regs
native r = record r { e = false }

-- the memory with the frame of an interrupt: the bank, the program counter and the flags
abbrev with_frame : Regs → Memory → Memory
with_frame r m = stored (stored (stored (stored m r.s r.pbr) (down false r.s) (r.pc / 256 % 256)) (down false (down false r.s)) (r.pc % 256)) (down false (down false (down false r.s))) r.p

abbrev pushed_four : Regs → Regs
pushed_four r = pushed (pushed (pushed (pushed r)))

abbrev vector_at : Memory → ℕ → ℕ
vector_at m at = join (m at) (m (next_in_bank at))

abbrev taken_by : ℕ → Regs → Memory → Outcome
taken_by at r m = record { registers = interrupt (pushed_four (native r)) (vector_at (with_frame r m) at); memory = with_frame r m }

-- an interrupt run to its end in native mode
outcome-nmi : (r : Regs) (m : Memory) → outcome (order nmi (native r)) m ≡ Some (taken_by 0xFFEA r m)
unfolding registers_after pushed_status
outcome-nmi r m = ap (λ u. outcome (order_by u nmi (native r)) m) use_of-nmi

outcome-irq : (r : Regs) (m : Memory) → outcome (order irq (native r)) m ≡ Some (taken_by 0xFFEE r m)
unfolding registers_after pushed_status
outcome-irq r m = ap (λ u. outcome (order_by u irq (native r)) m) use_of-irq

-- RTI run to its end in native mode
abbrev back_by : Regs → Memory → Regs
back_by r m = return_from_interrupt (record (pulled (pulled (pulled (pulled (native (fetched r)))))) { p = m (up false r.s); pbr = m (up false (up false (up false (up false r.s)))) }) (join (m (up false (up false r.s))) (m (up false (up false (up false r.s)))))

outcome-rti : (r : Regs) (m : Memory) → m (code r) ≡ 0x40 → outcome (instruction (native r)) m ≡ Some (record { registers = back_by r m; memory = m })
outcome-rti r m h =
    outcome-opcode (native r) m 0x40 rti h row_of-40
    ∙ (ap (λ u. outcome (order_by u rti (fetched (native r))) m) use_of-rti
    ∙ ap (λ (q : Regs). Some (let o : Outcome = record { registers = q; memory = m } in o)) (registers_after-rti _ _))

-- the four bytes of a frame are found again
abbrev d1 : Regs → ℕ
d1 r = down false r.s

abbrev d2 : Regs → ℕ
d2 r = down false (d1 r)

abbrev d3 : Regs → ℕ
d3 r = down false (d2 r)

abbrev m1 : Regs → Memory → Memory
m1 r m = stored m r.s r.pbr

abbrev m2 : Regs → Memory → Memory
m2 r m = stored (m1 r m) (d1 r) (r.pc / 256 % 256)

abbrev m3 : Regs → Memory → Memory
m3 r m = stored (m2 r m) (d2 r) (r.pc % 256)

-- up to three pushes go to places apart
apart_1 : (s : ℕ) → s < 65536 → s ≢ down false s
apart_1 s h = λ e. omega arith

apart_2 : (s : ℕ) → s < 65536 → s ≢ down false (down false s)
apart_2 s h = λ e. omega arith

apart_3 : (s : ℕ) → s < 65536 → s ≢ down false (down false (down false s))
apart_3 s h = λ e. omega arith

down_below : (s : ℕ) → down false s < 65536
down_below s = omega arith

frame-flags : (r : Regs) (m : Memory) → with_frame r m (d3 r) ≡ r.p
frame-flags r m = stored-same (m3 r m) (d3 r) r.p

frame-low : (r : Regs) (m : Memory) → with_frame r m (d2 r) ≡ r.pc % 256
frame-low r m = stored-other (m3 r m) (d3 r) r.p (d2 r) (apart_1 (d2 r) (down_below (d1 r))) ∙ stored-same (m2 r m) (d2 r) (r.pc % 256)

frame-high : (r : Regs) (m : Memory) → with_frame r m (d1 r) ≡ r.pc / 256 % 256
frame-high r m =
    stored-other (m3 r m) (d3 r) r.p (d1 r) (apart_2 (d1 r) (down_below r.s))
    ∙ (stored-other (m2 r m) (d2 r) (r.pc % 256) (d1 r) (apart_1 (d1 r) (down_below r.s))
    ∙ stored-same (m1 r m) (d1 r) (r.pc / 256 % 256))

frame-bank : (r : Regs) (m : Memory) → r.s < 65536 → with_frame r m r.s ≡ r.pbr
frame-bank r m below =
    stored-other (m3 r m) (d3 r) r.p r.s (apart_3 r.s below)
    ∙ (stored-other (m2 r m) (d2 r) (r.pc % 256) r.s (apart_2 r.s below)
    ∙ (stored-other (m1 r m) (d1 r) (r.pc / 256 % 256) r.s (apart_1 r.s below)
    ∙ stored-same m r.s r.pbr))

join_halves : (pc low high : ℕ) → pc < 65536 → low ≡ pc % 256 → high ≡ pc / 256 % 256 → low % 256 + 256 * high ≡ pc
join_halves pc low high below l h = omega arith

-- the registers of a handler with those that a return brings
abbrev brought : Regs → ℕ → ℕ → ℕ → ℕ → Regs
brought there p pc bank s = record there { e = false; p = p; pc = pc; pbr = bank; s = s; x = there.x % size p INDEX_8; y = there.y % size p INDEX_8 }

-- a return from an interrupt with the frame as it was pushed
back_to-program : (r there : Regs) (m then_ : Memory) → r.s < 65536 → r.pc < 65536
    → there.s ≡ down false (down false (down false (down false r.s)))
    → then_ (up false there.s) ≡ with_frame r m (up false there.s)
    → then_ (up false (up false there.s)) ≡ with_frame r m (up false (up false there.s))
    → then_ (up false (up false (up false there.s))) ≡ with_frame r m (up false (up false (up false there.s)))
    → then_ (up false (up false (up false (up false there.s)))) ≡ with_frame r m (up false (up false (up false (up false there.s))))
    → back_by there then_ ≡ brought_back r (native there)
unfolding return_from_interrupt with_status
back_to-program r there m then_ below counter pointer first second third fourth =
    let once : up false there.s ≡ d3 r = ap (λ s. up false s) pointer ∙ up-down false (d3 r) (IsStack-down false (d2 r)) in
    let twice : up false (up false there.s) ≡ d2 r = ap (λ s. up false s) once ∙ up-down false (d2 r) (IsStack-down false (d1 r)) in
    let thrice : up false (up false (up false there.s)) ≡ d1 r = ap (λ s. up false s) twice ∙ up-down false (d1 r) (IsStack-down false r.s) in
    let all : up false (up false (up false (up false there.s))) ≡ r.s = ap (λ s. up false s) thrice ∙ up-down false r.s (record { below = below; page = λ h. cc }) in
    let flags : then_ (up false there.s) ≡ r.p = first ∙ (ap (λ a. with_frame r m a) once ∙ frame-flags r m) in
    let low : then_ (up false (up false there.s)) ≡ r.pc % 256 = second ∙ (ap (λ a. with_frame r m a) twice ∙ frame-low r m) in
    let high : then_ (up false (up false (up false there.s))) ≡ r.pc / 256 % 256 = third ∙ (ap (λ a. with_frame r m a) thrice ∙ frame-high r m) in
    let bank : then_ (up false (up false (up false (up false there.s)))) ≡ r.pbr = fourth ∙ (ap (λ a. with_frame r m a) all ∙ frame-bank r m below) in
    let place : join (then_ (up false (up false there.s))) (then_ (up false (up false (up false there.s)))) ≡ r.pc = join_halves r.pc _ _ counter low high in
    ap (λ p. brought there p (join (then_ (up false (up false there.s))) (then_ (up false (up false (up false there.s))))) (then_ (up false (up false (up false (up false there.s))))) (up false (up false (up false (up false there.s))))) flags
    ∙ (ap (λ pc. brought there r.p pc (then_ (up false (up false (up false (up false there.s))))) (up false (up false (up false (up false there.s))))) place
    ∙ (ap (λ b. brought there r.p r.pc b (up false (up false (up false (up false there.s))))) bank
    ∙ ap (λ s. brought there r.p r.pc r.pbr s) all))

brings_back : (at : ℕ) (r : Regs) (m : Memory) (there : Regs) (then_ : Memory) → IsPossible r → KeepsFrame (taken_by at r m) there then_ → then_ (code there) ≡ 0x40 → IsSomeAnd (outcome (instruction there) then_) (λ back. back.registers ≡ brought_back r there)
unfolding interrupt
brings_back at r m there then_ possible kept is_return =
    let same : native there ≡ there = ap (λ e. record there { e = e }) (sym kept.mode) in
    let found : (a : Regs → ℕ) → then_ (a there) ≡ with_frame r m (a there) → then_ (a (native there)) ≡ with_frame r m (a (native there)) =
    λ a h. subst (λ (t : Regs). then_ (a t) ≡ with_frame r m (a t)) (sym same) h in
    let back = back_to-program r there m then_ possible.stack possible.counter kept.pointer
    (found (λ t. stack (pulled t)) kept.first)
    (found (λ t. stack (pulled (pulled t))) kept.second)
    (found (λ t. stack (pulled (pulled (pulled t)))) kept.third)
    (found (λ t. stack (pulled (pulled (pulled (pulled t))))) kept.fourth) in
    subst (λ (t : Regs). IsSomeAnd (outcome (instruction t) then_) (λ back. back.registers ≡ brought_back r t)) same
    (subst (λ (o : Option Outcome). IsSomeAnd o (λ back. back.registers ≡ brought_back r (native there))) (sym (outcome-rti there then_ is_return)) back)

pub brings_back-nmi : (r : Regs) (m : Memory) (taken : Outcome) (there : Regs) (then_ : Memory) → IsPossible r → r.e ≡ false → outcome (order nmi r) m ≡ Some taken → KeepsFrame taken there then_ → then_ (code there) ≡ 0x40 → IsSomeAnd (outcome (instruction there) then_) (λ back. back.registers ≡ brought_back r there)
brings_back-nmi r m taken there then_ possible mode was kept is_return =
    let same : native r ≡ r = ap (λ e. record r { e = e }) (sym mode) in
    let by : taken ≡ taken_by 0xFFEA r m = cc (sym was ∙ (ap (λ t. outcome (order nmi t) m) (sym same) ∙ outcome-nmi r m)) in
    brings_back 0xFFEA r m there then_ possible (subst (λ (t : Outcome). KeepsFrame t there then_) by kept) is_return

pub brings_back-irq : (r : Regs) (m : Memory) (taken : Outcome) (there : Regs) (then_ : Memory) → IsPossible r → r.e ≡ false → outcome (order irq r) m ≡ Some taken → KeepsFrame taken there then_ → then_ (code there) ≡ 0x40 → IsSomeAnd (outcome (instruction there) then_) (λ back. back.registers ≡ brought_back r there)
brings_back-irq r m taken there then_ possible mode was kept is_return =
    let same : native r ≡ r = ap (λ e. record r { e = e }) (sym mode) in
    let by : taken ≡ taken_by 0xFFEE r m = cc (sym was ∙ (ap (λ t. outcome (order irq t) m) (sym same) ∙ outcome-irq r m)) in
    brings_back 0xFFEE r m there then_ possible (subst (λ (t : Outcome). KeepsFrame t there then_) by kept) is_return
