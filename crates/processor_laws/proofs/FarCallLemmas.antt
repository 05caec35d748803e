use Rattle.std.proofs.Common.{◌≡◌, ℕ, ◌+◌, ◌*◌, ◌/◌, ◌%◌, Bool, Option, Some, sym, ap, ◌∙◌, subst, arith}
use Rattle.std.specs.Option.{IsSomeAnd}
use Rattle.cpu_tables.specs.declared.regs.Regs.{Regs}
use Rattle.cpu_modes.specs.Addresses.{code, fetched, join, pulled, pushed, stack}
use Rattle.cpu_modes.specs.Orders.{instruction, order_by, last_fetched}
use Rattle.processor_laws.specs.Calls.{GoesOnAfter, KeepsFarStack}
use Rattle.processor_laws.specs.Outcomes.{IsPossible, Memory, Outcome, outcome, stored}
use Rattle.processor_laws.proofs.CallLemmas.{Possible-stack, past, target_of, with_word, word-low, word-high}
use Rattle.processor_laws.proofs.Rows.{jsl, rtl, row_of-22, row_of-6B, use_of-jsl, use_of-rtl, registers_after-jsl, registers_after-rtl, outcome-opcode}
use Rattle.processor_laws.proofs.StackLemmas.{down, up, points, IsStack, up-down, IsStack-down, points-apart, points-far_apart, stored-same, stored-other}

-- the registers after the bank was pushed and the bank of the target fetched
abbrev far_past : Regs → Memory → Regs
far_past r m = record (fetched (pushed (past r))) { pbr = stored m (stack r) r.pbr (code (pushed (past r))) }

abbrev far_called_by : Regs → Memory → Outcome
far_called_by r m = record { registers = record (pushed (pushed (far_past r m))) { pc = target_of r m }; memory = with_word r.e (down r.e r.s) (last_fetched (fetched (past r))) (stored m (stack r) r.pbr) }

outcome-jsl : (r : Regs) (m : Memory) → m (code r) ≡ 0x22 → outcome (instruction r) m ≡ Some (far_called_by r m)
outcome-jsl r m h =
    outcome-opcode r m 0x22 jsl h row_of-22
    ∙ (ap (λ u. outcome (order_by u jsl (fetched r)) m) use_of-jsl
    ∙ ap (λ (q : Regs). Some (let o : Outcome = record { registers = q; memory = (far_called_by r m).memory } in o)) (registers_after-jsl (pushed (pushed (far_past r m))) (target_of r m)))

abbrev far_back_from : Regs → Memory → Outcome
far_back_from r m = record { registers = record (pulled (pulled (pulled (fetched r)))) { pbr = m (stack (pulled (pulled (pulled r)))); pc = (join (m (stack (pulled r))) (m (stack (pulled (pulled r)))) + 1) % 65536 }; memory = m }

outcome-rtl : (r : Regs) (m : Memory) → m (code r) ≡ 0x6B → outcome (instruction r) m ≡ Some (far_back_from r m)
outcome-rtl r m h =
    outcome-opcode r m 0x6B rtl h row_of-6B
    ∙ (ap (λ u. outcome (order_by u rtl (fetched r)) m) use_of-rtl
    ∙ ap (λ (q : Regs). Some (let o : Outcome = record { registers = q; memory = m } in o)) (registers_after-rtl (record (pulled (pulled (pulled (fetched r)))) { pbr = m (stack (pulled (pulled (pulled r)))) }) (join (m (stack (pulled r))) (m (stack (pulled (pulled r)))))))

-- a byte that was pushed before a word is found again
pub word-before : (e : Bool) (s word byte : ℕ) (m : Memory) → IsStack e s → with_word e (down e s) word (stored m (points e s) byte) (points e s) ≡ byte
word-before e s word byte m h =
    stored-other (stored (stored m (points e s) byte) (points e (down e s)) (word / 256 % 256)) (points e (down e (down e s))) (word % 256) (points e s) (points-far_apart e s h)
    ∙ (stored-other (stored m (points e s) byte) (points e (down e s)) (word / 256 % 256) (points e s) (points-apart e s h)
    ∙ stored-same m (points e s) byte)

far_return_place : (pc low high : ℕ) → low ≡ (((((pc + 1) % 65536 + 1) % 65536 + 1) % 65536 + 1) % 65536 + 65535) % 65536 % 256 → high ≡ (((((pc + 1) % 65536 + 1) % 65536 + 1) % 65536 + 1) % 65536 + 65535) % 65536 / 256 % 256 → (low % 256 + 256 * high + 1) % 65536 ≡ (pc + 4) % 65536
far_return_place pc low high l h = omega arith

pub far_return_goes_on : (r : Regs) (m : Memory) (called : Outcome) (there : Regs) (then_ : Memory) → IsPossible r → m (code r) ≡ 0x22 → outcome (instruction r) m ≡ Some called → KeepsFarStack called there then_ → then_ (code there) ≡ 0x6B → IsSomeAnd (outcome (instruction there) then_) (λ back. GoesOnAfter 4 r back.registers)
far_return_goes_on r m called there then_ possible is_call was kept is_return =
    let is : IsStack r.e r.s = Possible-stack r possible in
    let below : IsStack r.e (down r.e r.s) = IsStack-down r.e r.s in
    let same : called ≡ far_called_by r m = cc (sym was ∙ outcome-jsl r m is_call) in
    let keeps : KeepsFarStack (far_called_by r m) there then_ = subst (λ (c : Outcome). KeepsFarStack c there then_) same kept in
    let once : up there.e there.s ≡ down r.e (down r.e r.s) =
    ap (λ e. up e there.s) keeps.mode ∙ (ap (λ s. up r.e s) keeps.pointer ∙ up-down r.e (down r.e (down r.e r.s)) (IsStack-down r.e (down r.e r.s))) in
    let twice : up there.e (up there.e there.s) ≡ down r.e r.s =
    ap (λ s. up there.e s) once ∙ (ap (λ e. up e (down r.e (down r.e r.s))) keeps.mode ∙ up-down r.e (down r.e r.s) below) in
    let thrice : up there.e (up there.e (up there.e there.s)) ≡ r.s =
    ap (λ s. up there.e s) twice ∙ (ap (λ e. up e (down r.e r.s)) keeps.mode ∙ up-down r.e r.s is) in
    let at_low : stack (pulled there) ≡ points r.e (down r.e (down r.e r.s)) = ap (λ s. points there.e s) once ∙ ap (λ e. points e (down r.e (down r.e r.s))) keeps.mode in
    let at_high : stack (pulled (pulled there)) ≡ points r.e (down r.e r.s) = ap (λ s. points there.e s) twice ∙ ap (λ e. points e (down r.e r.s)) keeps.mode in
    let at_bank : stack (pulled (pulled (pulled there))) ≡ points r.e r.s = ap (λ s. points there.e s) thrice ∙ ap (λ e. points e r.s) keeps.mode in
    let word = last_fetched (fetched (past r)) in
    let before = stored m (stack r) r.pbr in
    let low : then_ (stack (pulled there)) ≡ word % 256 = keeps.first ∙ (ap (λ a. with_word r.e (down r.e r.s) word before a) at_low ∙ word-low r.e (down r.e r.s) word before) in
    let high : then_ (stack (pulled (pulled there))) ≡ word / 256 % 256 = keeps.second ∙ (ap (λ a. with_word r.e (down r.e r.s) word before a) at_high ∙ word-high r.e (down r.e r.s) word before below) in
    let bank : then_ (stack (pulled (pulled (pulled there)))) ≡ r.pbr = keeps.third ∙ (ap (λ a. with_word r.e (down r.e r.s) word before a) at_bank ∙ word-before r.e r.s word r.pbr m is) in
    subst (λ (o : Option Outcome). IsSomeAnd o (λ back. GoesOnAfter 4 r back.registers)) (sym (outcome-rtl there then_ is_return))
    (record {
      counter = far_return_place r.pc (then_ (stack (pulled there))) (then_ (stack (pulled (pulled there)))) low high;
      bank = bank;
      pointer = thrice;
    })
