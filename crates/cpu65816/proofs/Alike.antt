-- Processors whose registers are alike and whose instructions have ended leave the same to do.
use Rattle.std.proofs.Common.{◌≡◌, ℕ, Bool, true, false, Some, None, sym, ap, ◌∙◌}
use Rattle.cpu_tables.specs.declared.regs.Regs.{Regs}
use Rattle.cpu_modes.specs.Remaining.{remaining}
use Rattle.cpu65816.specs.Instruction.{CpuState}
use Rattle.cpu65816.specs.Stands.{Stands}
use Rattle.cpu65816.specs.declared.processor.Cpu.{Cpu}
use Rattle.cpu_modes.specs.Plan.{Plan, fetches, reads, writes, idles, waits, stops, ends, finished}

abbrev regs_of : ℕ → ℕ → ℕ → ℕ → ℕ → ℕ → ℕ → ℕ → ℕ → Bool → Regs
regs_of a x y s d pc pbr dbr p e = record { a = a; x = x; y = y; s = s; d = d; pc = pc; pbr = pbr; dbr = dbr; p = p; e = e }

-- registers that are alike, one by one
pub same_regs : (q r : Regs) → q.a ≡ r.a → q.x ≡ r.x → q.y ≡ r.y → q.s ≡ r.s → q.d ≡ r.d → q.pc ≡ r.pc → q.pbr ≡ r.pbr → q.dbr ≡ r.dbr → q.p ≡ r.p → q.e ≡ r.e → q ≡ r
same_regs q r a x y s d pc pbr dbr p e =
    ap (λ (n : ℕ). regs_of n q.x q.y q.s q.d q.pc q.pbr q.dbr q.p q.e) a
    ∙ ap (λ (n : ℕ). regs_of r.a n q.y q.s q.d q.pc q.pbr q.dbr q.p q.e) x
    ∙ ap (λ (n : ℕ). regs_of r.a r.x n q.s q.d q.pc q.pbr q.dbr q.p q.e) y
    ∙ ap (λ (n : ℕ). regs_of r.a r.x r.y n q.d q.pc q.pbr q.dbr q.p q.e) s
    ∙ ap (λ (n : ℕ). regs_of r.a r.x r.y r.s n q.pc q.pbr q.dbr q.p q.e) d
    ∙ ap (λ (n : ℕ). regs_of r.a r.x r.y r.s r.d n q.pbr q.dbr q.p q.e) pc
    ∙ ap (λ (n : ℕ). regs_of r.a r.x r.y r.s r.d r.pc n q.dbr q.p q.e) pbr
    ∙ ap (λ (n : ℕ). regs_of r.a r.x r.y r.s r.d r.pc r.pbr n q.p q.e) dbr
    ∙ ap (λ (n : ℕ). regs_of r.a r.x r.y r.s r.d r.pc r.pbr r.dbr n q.e) p
    ∙ ap (λ (b : Bool). regs_of r.a r.x r.y r.s r.d r.pc r.pbr r.dbr r.p b) e

ended_is : (p : Plan) (r : Regs) → finished false p ≡ Some r → p ≡ ends r
ended_is (fetches at more) r h = absurd (cc)
ended_is (reads at more) r h = absurd (cc)
ended_is (writes at byte more) r h = absurd (cc)
ended_is (idles more) r h = absurd (cc)
ended_is (waits q) r h = absurd (cc)
ended_is stops r h = absurd (cc)
ended_is (ends q) r h =
    let same : q ≡ r = cc in
    ap ends same

waits_is : (p : Plan) (r : Regs) → finished true p ≡ Some r → finished false p ≡ None → p ≡ waits r
waits_is (fetches at more) r h k = absurd (cc)
waits_is (reads at more) r h k = absurd (cc)
waits_is (writes at byte more) r h k = absurd (cc)
waits_is (idles more) r h k = absurd (cc)
waits_is (waits q) r h k =
    let same : q ≡ r = cc in
    ap waits same
waits_is stops r h k = absurd (cc)
waits_is (ends q) r h k = absurd (cc)

pub same_ended : (p q : Plan) (r s : Regs) → r ≡ s → finished false p ≡ Some r → finished false q ≡ Some s → p ≡ q
same_ended p q r s same h k = ended_is p r h ∙ ap ends same ∙ sym (ended_is q s k)

pub same_wait : (p q : Plan) (r s : Regs) → r ≡ s → finished true p ≡ Some r → finished false p ≡ None → finished true q ≡ Some s → finished false q ≡ None → p ≡ q
same_wait p q r s same h h' k k' = waits_is p r h h' ∙ ap waits same ∙ sym (waits_is q s k k')

-- a processor that leaves to do what another one leaves, with the same lines, stands for what that one stands for; the
-- same start is wanted only of an instruction that has not ended
pub stands_alike : (x y : Cpu) (s : CpuState) → remaining x.micro ≡ remaining y.micro
    → (finished false (remaining x.micro) ≡ None → x.micro.start ≡ y.micro.start) → x.kept ≡ y.kept
    → x.nmi_level ≡ y.nmi_level → x.irq_level ≡ y.irq_level → Stands x s → Stands y s
stands_alike x y s left start kept nmi irq h = record {
  left = sym left ∙ h.left;
  start = λ on. (let running = ap (λ p. finished false p) left ∙ on in sym (start running) ∙ h.start running);
  kept = sym kept ∙ h.kept;
  nmi_level = sym nmi ∙ h.nmi_level;
  irq_level = sym irq ∙ h.irq_level;
}
