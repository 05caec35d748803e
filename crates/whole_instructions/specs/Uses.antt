-- What the operations with data do on the bus.
use Rattle.std.specs.Prelude.{◌≡◌, ℕ}
use Rattle.std.proofs.Common.{refl}
use Rattle.cpu_tables.specs.declared.operation.Op.TheVariants.{Bcc, Bcs, Beq, Bne, Bmi, Bpl, Bvc, Bvs, Bra, Adc, And, Bit, Cmp, Eor, Lda, Ora, Sbc, Cpx, Cpy, Ldx, Ldy, Sta, Stz, Stx, Sty, Asl, Lsr, Rol, Ror, Inc, Dec, Tsb, Trb}
use Rattle.cpu_tables.specs.declared.mode.Mode.{Mode}
use Rattle.cpu_tables.specs.declared.regs.Regs.{Regs}
use Rattle.cpu_alu.specs.Flow.{branch}
use Rattle.cpu_alu.specs.Results.{registers_after}
use Rattle.cpu_modes.specs.Uses.{use_of}
use Rattle.cpu_modes.specs.declared.uses.Use.{Use}
use Rattle.cpu_modes.specs.declared.uses.Width.{Width}

pub adc_reads : use_of Adc ≡ Use.Load Width.Memory
unfolding use_of
adc_reads = refl

pub and_reads : use_of And ≡ Use.Load Width.Memory
unfolding use_of
and_reads = refl

pub bit_reads : use_of Bit ≡ Use.Load Width.Memory
unfolding use_of
bit_reads = refl

pub cmp_reads : use_of Cmp ≡ Use.Load Width.Memory
unfolding use_of
cmp_reads = refl

pub eor_reads : use_of Eor ≡ Use.Load Width.Memory
unfolding use_of
eor_reads = refl

pub lda_reads : use_of Lda ≡ Use.Load Width.Memory
unfolding use_of
lda_reads = refl

pub ora_reads : use_of Ora ≡ Use.Load Width.Memory
unfolding use_of
ora_reads = refl

pub sbc_reads : use_of Sbc ≡ Use.Load Width.Memory
unfolding use_of
sbc_reads = refl

pub cpx_reads : use_of Cpx ≡ Use.Load Width.Index
unfolding use_of
cpx_reads = refl

pub cpy_reads : use_of Cpy ≡ Use.Load Width.Index
unfolding use_of
cpy_reads = refl

pub ldx_reads : use_of Ldx ≡ Use.Load Width.Index
unfolding use_of
ldx_reads = refl

pub ldy_reads : use_of Ldy ≡ Use.Load Width.Index
unfolding use_of
ldy_reads = refl

pub sta_writes : use_of Sta ≡ Use.Store Width.Memory
unfolding use_of
sta_writes = refl

pub stz_writes : use_of Stz ≡ Use.Store Width.Memory
unfolding use_of
stz_writes = refl

pub stx_writes : use_of Stx ≡ Use.Store Width.Index
unfolding use_of
stx_writes = refl

pub sty_writes : use_of Sty ≡ Use.Store Width.Index
unfolding use_of
sty_writes = refl

pub asl_changes : use_of Asl ≡ Use.Change Width.Memory
unfolding use_of
asl_changes = refl

pub lsr_changes : use_of Lsr ≡ Use.Change Width.Memory
unfolding use_of
lsr_changes = refl

pub rol_changes : use_of Rol ≡ Use.Change Width.Memory
unfolding use_of
rol_changes = refl

pub ror_changes : use_of Ror ≡ Use.Change Width.Memory
unfolding use_of
ror_changes = refl

pub inc_changes : use_of Inc ≡ Use.Change Width.Memory
unfolding use_of
inc_changes = refl

pub dec_changes : use_of Dec ≡ Use.Change Width.Memory
unfolding use_of
dec_changes = refl

pub tsb_changes : use_of Tsb ≡ Use.Change Width.Memory
unfolding use_of
tsb_changes = refl

pub trb_changes : use_of Trb ≡ Use.Change Width.Memory
unfolding use_of
trb_changes = refl

pub bcc_branches : use_of Bcc ≡ Use.Branch
unfolding use_of
bcc_branches = refl

pub bcc_goes : (mode : Mode) (r : Regs) (offset : ℕ) → registers_after Bcc mode r offset ≡ branch Bcc r offset
unfolding registers_after
bcc_goes mode r offset = refl

pub bcs_branches : use_of Bcs ≡ Use.Branch
unfolding use_of
bcs_branches = refl

pub bcs_goes : (mode : Mode) (r : Regs) (offset : ℕ) → registers_after Bcs mode r offset ≡ branch Bcs r offset
unfolding registers_after
bcs_goes mode r offset = refl

pub beq_branches : use_of Beq ≡ Use.Branch
unfolding use_of
beq_branches = refl

pub beq_goes : (mode : Mode) (r : Regs) (offset : ℕ) → registers_after Beq mode r offset ≡ branch Beq r offset
unfolding registers_after
beq_goes mode r offset = refl

pub bne_branches : use_of Bne ≡ Use.Branch
unfolding use_of
bne_branches = refl

pub bne_goes : (mode : Mode) (r : Regs) (offset : ℕ) → registers_after Bne mode r offset ≡ branch Bne r offset
unfolding registers_after
bne_goes mode r offset = refl

pub bmi_branches : use_of Bmi ≡ Use.Branch
unfolding use_of
bmi_branches = refl

pub bmi_goes : (mode : Mode) (r : Regs) (offset : ℕ) → registers_after Bmi mode r offset ≡ branch Bmi r offset
unfolding registers_after
bmi_goes mode r offset = refl

pub bpl_branches : use_of Bpl ≡ Use.Branch
unfolding use_of
bpl_branches = refl

pub bpl_goes : (mode : Mode) (r : Regs) (offset : ℕ) → registers_after Bpl mode r offset ≡ branch Bpl r offset
unfolding registers_after
bpl_goes mode r offset = refl

pub bvc_branches : use_of Bvc ≡ Use.Branch
unfolding use_of
bvc_branches = refl

pub bvc_goes : (mode : Mode) (r : Regs) (offset : ℕ) → registers_after Bvc mode r offset ≡ branch Bvc r offset
unfolding registers_after
bvc_goes mode r offset = refl

pub bvs_branches : use_of Bvs ≡ Use.Branch
unfolding use_of
bvs_branches = refl

pub bvs_goes : (mode : Mode) (r : Regs) (offset : ℕ) → registers_after Bvs mode r offset ≡ branch Bvs r offset
unfolding registers_after
bvs_goes mode r offset = refl

pub bra_branches : use_of Bra ≡ Use.Branch
unfolding use_of
bra_branches = refl

pub bra_goes : (mode : Mode) (r : Regs) (offset : ℕ) → registers_after Bra mode r offset ≡ branch Bra r offset
unfolding registers_after
bra_goes mode r offset = refl
