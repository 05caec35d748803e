use Rattle.std.proofs.Common.{◌≡◌, ℕ, ◌+◌, ◌*◌, ◌/◌, ◌%◌, Bool, Option, Some, sym, ap, ◌∙◌, subst, arith}
use Rattle.std.specs.Option.{IsSomeAnd}
use Rattle.cpu_tables.specs.declared.regs.Regs.{Regs}
use Rattle.cpu_modes.specs.Addresses.{code, fetched, join, pulled, pushed, stack}
use Rattle.cpu_modes.specs.Orders.{instruction, order_by, last_fetched}
use Rattle.processor_laws.specs.Calls.{GoesOnAfter, KeepsStack}
use Rattle.processor_laws.specs.Outcomes.{IsPossible, Memory, Outcome, outcome, stored}
use Rattle.processor_laws.proofs.Rows.{jsr, rts, row_of-20, row_of-60, use_of-jsr, use_of-rts, registers_after-jsr, registers_after-rts, outcome-opcode}
use Rattle.processor_laws.proofs.StackLemmas.{down, up, points, IsStack, up-down, IsStack-down, points-apart, stored-same, stored-other}

abbrev pub Possible-stack : (r : Regs) → IsPossible r → IsStack r.e r.s
Possible-stack r h = record { below = h.stack; page = h.page }

-- the registers after the three bytes of JSR
abbrev pub past : Regs → Regs
past r = fetched (fetched (fetched r))

abbrev pub target_of : Regs → Memory → ℕ
target_of r m = join (m (code (fetched r))) (m (code (fetched (fetched r))))

-- the memory with a word pushed
abbrev pub with_word : Bool → ℕ → ℕ → Memory → Memory
with_word e s word m = stored (stored m (points e s) (word / 256 % 256)) (points e (down e s)) (word % 256)

abbrev called_by : Regs → Memory → Outcome
called_by r m = record { registers = record (pushed (pushed (past r))) { pc = target_of r m }; memory = with_word r.e r.s (last_fetched (past r)) m }

outcome-jsr : (r : Regs) (m : Memory) → m (code r) ≡ 0x20 → outcome (instruction r) m ≡ Some (called_by r m)
outcome-jsr r m h =
    outcome-opcode r m 0x20 jsr h row_of-20
    ∙ (ap (λ u. outcome (order_by u jsr (fetched r)) m) use_of-jsr
    ∙ ap (λ (q : Regs). Some (let o : Outcome = record { registers = q; memory = (called_by r m).memory } in o)) (registers_after-jsr (pushed (pushed (past r))) (target_of r m)))

abbrev back_from : Regs → Memory → Outcome
back_from r m = record { registers = record (pulled (pulled (fetched r))) { pc = (join (m (stack (pulled r))) (m (stack (pulled (pulled r)))) + 1) % 65536 }; memory = m }

outcome-rts : (r : Regs) (m : Memory) → m (code r) ≡ 0x60 → outcome (instruction r) m ≡ Some (back_from r m)
outcome-rts r m h =
    outcome-opcode r m 0x60 rts h row_of-60
    ∙ (ap (λ u. outcome (order_by u rts (fetched r)) m) use_of-rts
    ∙ ap (λ (q : Regs). Some (let o : Outcome = record { registers = q; memory = m } in o)) (registers_after-rts (pulled (pulled (fetched r))) (join (m (stack (pulled r))) (m (stack (pulled (pulled r)))))))

-- the two bytes of a pushed word are found again
pub word-low : (e : Bool) (s word : ℕ) (m : Memory) → with_word e s word m (points e (down e s)) ≡ word % 256
word-low e s word m = stored-same (stored m (points e s) (word / 256 % 256)) (points e (down e s)) (word % 256)

pub word-high : (e : Bool) (s word : ℕ) (m : Memory) → IsStack e s → with_word e s word m (points e s) ≡ word / 256 % 256
word-high e s word m h =
    stored-other (stored m (points e s) (word / 256 % 256)) (points e (down e s)) (word % 256) (points e s) (points-apart e s h)
    ∙ stored-same m (points e s) (word / 256 % 256)

return_place : (pc low high : ℕ) → low ≡ ((((pc + 1) % 65536 + 1) % 65536 + 1) % 65536 + 65535) % 65536 % 256 → high ≡ ((((pc + 1) % 65536 + 1) % 65536 + 1) % 65536 + 65535) % 65536 / 256 % 256 → (low % 256 + 256 * high + 1) % 65536 ≡ (pc + 3) % 65536
return_place pc low high l h = omega arith

pub return_goes_on : (r : Regs) (m : Memory) (called : Outcome) (there : Regs) (then_ : Memory) → IsPossible r → m (code r) ≡ 0x20 → outcome (instruction r) m ≡ Some called → KeepsStack called there then_ → there.pbr ≡ r.pbr → then_ (code there) ≡ 0x60 → IsSomeAnd (outcome (instruction there) then_) (λ back. GoesOnAfter 3 r back.registers)
return_goes_on r m called there then_ possible is_call was kept bank is_return =
    let is : IsStack r.e r.s = Possible-stack r possible in
    let same : called ≡ called_by r m = cc (sym was ∙ outcome-jsr r m is_call) in
    let keeps : KeepsStack (called_by r m) there then_ = subst (λ (c : Outcome). KeepsStack c there then_) same kept in
    let once : up there.e there.s ≡ down r.e r.s =
    ap (λ e. up e there.s) keeps.mode ∙ (ap (λ s. up r.e s) keeps.pointer ∙ up-down r.e (down r.e r.s) (IsStack-down r.e r.s)) in
    let twice : up there.e (up there.e there.s) ≡ r.s =
    ap (λ s. up there.e s) once ∙ (ap (λ e. up e (down r.e r.s)) keeps.mode ∙ up-down r.e r.s is) in
    let at_low : stack (pulled there) ≡ points r.e (down r.e r.s) = ap (λ s. points there.e s) once ∙ ap (λ e. points e (down r.e r.s)) keeps.mode in
    let at_high : stack (pulled (pulled there)) ≡ points r.e r.s = ap (λ s. points there.e s) twice ∙ ap (λ e. points e r.s) keeps.mode in
    let word = last_fetched (past r) in
    let low : then_ (stack (pulled there)) ≡ word % 256 = keeps.first ∙ (ap (λ a. with_word r.e r.s word m a) at_low ∙ word-low r.e r.s word m) in
    let high : then_ (stack (pulled (pulled there))) ≡ word / 256 % 256 = keeps.second ∙ (ap (λ a. with_word r.e r.s word m a) at_high ∙ word-high r.e r.s word m is) in
    subst (λ (o : Option Outcome). IsSomeAnd o (λ back. GoesOnAfter 3 r back.registers)) (sym (outcome-rts there then_ is_return))
    (record {
      counter = return_place r.pc (then_ (stack (pulled there))) (then_ (stack (pulled (pulled there)))) low high;
      bank = bank;
      pointer = twice;
    })
