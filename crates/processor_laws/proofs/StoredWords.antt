use Rattle.std.proofs.Common.{◌≡◌, ℕ, ◌+◌, ◌*◌, ◌/◌, ◌%◌, ◌<◌, [], ◌∷◌, refl, arith, sym}
use Rattle.status_bits.specs.StatusBits.{flag}
use Rattle.spc_tables.specs.declared.access.SpcAccess.TheVariants.{Fetch, Read, Write, Inner}
use Rattle.spc_tables.specs.declared.flags.TheConstants.{DIRECT_PAGE}
use Rattle.spc_tables.specs.declared.regs.SpcRegs.{SpcRegs}
use Rattle.spc_alu.specs.Results.{word_loaded}
use Rattle.spc_alu.specs.Status.{with_nz_word}
use Rattle.spc_alu.specs.Words.{load_ya}
use Rattle.spc_modes.specs.Addresses.{direct, next_in_page}
use Rattle.spc_modes.specs.Plan.{ends}
use Rattle.spc_modes.specs.Uses.{use_of}
use Rattle.processor_laws.specs.Accesses.{accesses_of, left_after}
use Rattle.processor_laws.proofs.SpcRows.{row_of_store_ya, row_of_load_ya}

two_on : (pc : ℕ) → ((pc + 1) % 65536 + 1) % 65536 ≡ (pc + 2) % 65536
two_on pc = omega arith

low_of : (a y : ℕ) → a < 256 → (a + 256 * y) % 256 ≡ a
low_of a y h = omega arith

high_of : (a y : ℕ) → a < 256 → (a + 256 * y) / 256 ≡ y
high_of a y h = omega arith

pub written : (r : SpcRegs) (d : ℕ) → accesses_of r (0xDA ∷ d ∷ 0 ∷ 0 ∷ 0 ∷ []) ≡ Fetch r.pc ∷ Fetch ((r.pc + 1) % 65536) ∷ Inner ∷ Write (direct r d) r.a ∷ Write (next_in_page (direct r d)) r.y ∷ []
unfolding use_of
written r d = rw row_of_store_ya refl

pub after_store : (r : SpcRegs) (d : ℕ) → left_after r (0xDA ∷ d ∷ 0 ∷ 0 ∷ 0 ∷ []) ≡ ends (record r { pc = (r.pc + 2) % 65536 })
unfolding use_of
after_store r d = rw (row_of_store_ya, sym (two_on r.pc)) refl

pub read : (b r : SpcRegs) (d low high : ℕ) → flag r.psw DIRECT_PAGE ≡ flag b.psw DIRECT_PAGE → accesses_of r (0xBA ∷ d ∷ low ∷ 0 ∷ high ∷ []) ≡ Fetch r.pc ∷ Fetch ((r.pc + 1) % 65536) ∷ Read (direct b d) ∷ Inner ∷ Read (next_in_page (direct b d)) ∷ []
unfolding use_of
read b r d low high page = rw (row_of_load_ya, page) refl

pub after_load : (r : SpcRegs) (d a y : ℕ) → a < 256 → left_after r (0xBA ∷ d ∷ a ∷ 0 ∷ y ∷ []) ≡ ends (record r { pc = (r.pc + 2) % 65536; a = a; y = y; psw = with_nz_word (a + 256 * y) r.psw })
unfolding use_of word_loaded load_ya
after_load r d a y h =
    let low : (a + 256 * y) % 256 ≡ a = low_of a y h in
    let high : (a + 256 * y) / 256 ≡ y = high_of a y h in
    rw (row_of_load_ya, low, high, sym (two_on r.pc)) refl
