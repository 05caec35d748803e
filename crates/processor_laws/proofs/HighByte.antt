use Rattle.std.proofs.Common.{◌≡◌, ℕ, ◌/◌, Bool, true, false, if◌then◌else◌, refl, arith}
use Rattle.status_bits.specs.StatusBits.{flag}
use Rattle.cpu_tables.specs.declared.flags.TheConstants.{MEMORY_8}
use Rattle.cpu_tables.specs.declared.mode.Mode.{Mode}
use Rattle.cpu_tables.specs.declared.operation.Op.{Op}
use Rattle.cpu_tables.specs.declared.operation.Op.TheVariants.{Adc, Sbc, Ora, And, Eor, Asl, Lsr, Rol, Ror, Inc, Dec, Tsb, Trb, Lda, Pla, Txa, Tya, Tdc, Tsc, Xba, Bpl, Bmi, Bvc, Bvs, Bcc, Bcs, Bne, Beq, Bra, Reset, Mvn, Mvp}
use Rattle.cpu_tables.specs.declared.regs.Regs.{Regs}
use Rattle.cpu_alu.specs.declared.changes.Changed.{Changed}
use Rattle.cpu_alu.specs.Changes.{with_change}
use Rattle.cpu_alu.specs.Flow.{taken, return_from_interrupt, interrupt}
use Rattle.cpu_alu.specs.Registers.{with_status, clear_flags, set_flags, exchange_modes, set_stack, load_d, load_bank}
use Rattle.cpu_alu.specs.Results.{registers_after, is_accumulator}
use Rattle.cpu_alu.specs.Sums.{add, subtract, compare, test_bits, take_sum}
use Rattle.cpu_alu.specs.Width.{put_a, load_a, load_x, load_y}
use Rattle.processor_laws.specs.Wide.{takes_all_of_a}

-- at 8 bits the high byte of A stays

abbrev Stays : Regs → Regs → Type 0
Stays old new = new.a / 256 ≡ old.a / 256

put_stays : (r : Regs) (v : ℕ) → flag r.p MEMORY_8 ≡ true → put_a r v / 256 ≡ r.a / 256
unfolding put_a
put_stays r v n = rw n (omega arith)

load_stays : (r : Regs) (v : ℕ) → flag r.p MEMORY_8 ≡ true → Stays r (load_a r v)
unfolding load_a
load_stays r v n = put_stays r v n

add_stays : (r : Regs) (word : ℕ) → flag r.p MEMORY_8 ≡ true → Stays r (add r word)
unfolding add take_sum load_a
add_stays r word n = put_stays r _ n

subtract_stays : (r : Regs) (word : ℕ) → flag r.p MEMORY_8 ≡ true → Stays r (subtract r word)
unfolding subtract take_sum load_a
subtract_stays r word n = put_stays r _ n

change_stays : (on_a : Bool) (r : Regs) (c : Changed) → flag r.p MEMORY_8 ≡ true → Stays r (with_change on_a r c)
unfolding with_change
change_stays true r c n = put_stays r c.value n
change_stays false r c n = refl

branch_stays : (b : Bool) (r s : Regs) → Stays r s → Stays r (if b then s else r)
branch_stays true r s h = h
branch_stays false r s h = refl

pub high_byte : (op : Op) (mode : Mode) (r : Regs) (word : ℕ) → flag r.p MEMORY_8 ≡ true → takes_all_of_a op ≡ false → Stays r (registers_after op mode r word)
unfolding registers_after load_x load_y compare test_bits with_status clear_flags set_flags exchange_modes set_stack load_d load_bank return_from_interrupt interrupt
high_byte Adc mode r word n h = add_stays r word n
high_byte Sbc mode r word n h = subtract_stays r word n
high_byte Ora mode r word n h = load_stays r _ n
high_byte And mode r word n h = load_stays r _ n
high_byte Eor mode r word n h = load_stays r _ n
high_byte Asl mode r word n h = change_stays (is_accumulator mode) r _ n
high_byte Lsr mode r word n h = change_stays (is_accumulator mode) r _ n
high_byte Rol mode r word n h = change_stays (is_accumulator mode) r _ n
high_byte Ror mode r word n h = change_stays (is_accumulator mode) r _ n
high_byte Inc mode r word n h = change_stays (is_accumulator mode) r _ n
high_byte Dec mode r word n h = change_stays (is_accumulator mode) r _ n
high_byte Tsb mode r word n h = change_stays false r _ n
high_byte Trb mode r word n h = change_stays false r _ n
high_byte Lda mode r word n h = load_stays r _ n
high_byte Pla mode r word n h = load_stays r _ n
high_byte Txa mode r word n h = load_stays r _ n
high_byte Tya mode r word n h = load_stays r _ n
high_byte Tdc mode r word n h = absurd cc
high_byte Tsc mode r word n h = absurd cc
high_byte Xba mode r word n h = absurd cc
high_byte Bpl mode r word n h = branch_stays (taken Bpl r.p) r _ refl
high_byte Bmi mode r word n h = branch_stays (taken Bmi r.p) r _ refl
high_byte Bvc mode r word n h = branch_stays (taken Bvc r.p) r _ refl
high_byte Bvs mode r word n h = branch_stays (taken Bvs r.p) r _ refl
high_byte Bcc mode r word n h = branch_stays (taken Bcc r.p) r _ refl
high_byte Bcs mode r word n h = branch_stays (taken Bcs r.p) r _ refl
high_byte Bne mode r word n h = branch_stays (taken Bne r.p) r _ refl
high_byte Beq mode r word n h = branch_stays (taken Beq r.p) r _ refl
high_byte Bra mode r word n h = branch_stays (taken Bra r.p) r _ refl
high_byte Reset mode r word n h = absurd cc
high_byte Mvn mode r word n h = absurd cc
high_byte Mvp mode r word n h = absurd cc
high_byte _ mode r word n h = refl
