use Rattle.std.proofs.Common.{◌≡◌, ℕ, ◌+◌, ◌*◌, ◌/◌, ◌%◌, ◌<◌, [], ◌∷◌, refl, arith, ap, sym}
use Rattle.spc_tables.specs.declared.access.SpcAccess.TheVariants.{Fetch, Read, Write, Inner}
use Rattle.spc_tables.specs.declared.regs.SpcRegs.{SpcRegs}
use Rattle.spc_modes.specs.Plan.{ends}
use Rattle.spc_modes.specs.Uses.{use_of}
use Rattle.processor_laws.specs.Accesses.{accesses_of, left_after}
use Rattle.processor_laws.proofs.SpcRows.{row_of_call, row_of_return}

-- the program counter after three fetches
three_on : (pc : ℕ) → (((pc + 1) % 65536 + 1) % 65536 + 1) % 65536 ≡ (pc + 3) % 65536
three_on pc = omega arith

two_on : (pc : ℕ) → ((pc + 1) % 65536 + 1) % 65536 ≡ (pc + 2) % 65536
two_on pc = omega arith

two_down : (sp : ℕ) → ((sp + 255) % 256 + 255) % 256 ≡ (sp + 254) % 256
two_down sp = omega arith

pub called : (r : SpcRegs) (low high : ℕ) → left_after r (0x3F ∷ low ∷ high ∷ 0 ∷ 0 ∷ 0 ∷ 0 ∷ 0 ∷ []) ≡ ends (record r { pc = low + 256 * high; sp = (r.sp + 254) % 256 })
unfolding use_of
called r low high = rw row_of_call (ap (λ n. ends (record r { pc = low + 256 * high; sp = n })) (two_down r.sp))

pub pushed_by_call : (r : SpcRegs) (low high : ℕ) → accesses_of r (0x3F ∷ low ∷ high ∷ 0 ∷ 0 ∷ 0 ∷ 0 ∷ 0 ∷ []) ≡ Fetch r.pc ∷ Fetch ((r.pc + 1) % 65536) ∷ Fetch ((r.pc + 2) % 65536) ∷ Inner ∷ Write (256 + r.sp) ((r.pc + 3) % 65536 / 256) ∷ Write (256 + (r.sp + 255) % 256) ((r.pc + 3) % 65536 % 256) ∷ Inner ∷ Inner ∷ []
unfolding use_of
pushed_by_call r low high = rw (row_of_call, sym (three_on r.pc), sym (two_on r.pc)) refl

-- the stack pointer after as many pulls as there were pushes
one_back : (s : ℕ) → ((s + 254) % 256 + 1) % 256 ≡ (s + 255) % 256
one_back s = omega arith

two_back : (s : ℕ) → s < 256 → (((s + 254) % 256 + 1) % 256 + 1) % 256 ≡ s
two_back s h = omega arith

bytes_joined : (word : ℕ) → word % 256 + 256 * (word / 256) ≡ word
bytes_joined word = omega arith

returned_to : (r : SpcRegs) (word sp sp' : ℕ) → r.sp ≡ sp → ((sp + 1) % 256 + 1) % 256 ≡ sp' → left_after r (0x6F ∷ 0 ∷ 0 ∷ (word % 256) ∷ (word / 256) ∷ []) ≡ ends (record r { pc = word; sp = sp' })
unfolding use_of
returned_to r word sp sp' same back =
    rw (row_of_return, same, back, bytes_joined word) refl

pub returned : (before inside : SpcRegs) (word : ℕ) → before.sp < 256 → inside.sp ≡ (before.sp + 254) % 256 → left_after inside (0x6F ∷ 0 ∷ 0 ∷ (word % 256) ∷ (word / 256) ∷ []) ≡ ends (record inside { pc = word; sp = before.sp })
returned before inside word small same = returned_to inside word ((before.sp + 254) % 256) before.sp same (two_back before.sp small)

pulled_along : (r : SpcRegs) (sp first second low high : ℕ) → r.sp ≡ sp → (sp + 1) % 256 ≡ first → (first + 1) % 256 ≡ second → accesses_of r (0x6F ∷ 0 ∷ 0 ∷ low ∷ high ∷ []) ≡ Fetch r.pc ∷ Inner ∷ Inner ∷ Read (256 + first) ∷ Read (256 + second) ∷ []
unfolding use_of
pulled_along r sp first second low high same one two = rw (row_of_return, same, one, two) refl

pub pulled_by_return : (before inside : SpcRegs) (low high : ℕ) → before.sp < 256 → inside.sp ≡ (before.sp + 254) % 256 → accesses_of inside (0x6F ∷ 0 ∷ 0 ∷ low ∷ high ∷ []) ≡ Fetch inside.pc ∷ Inner ∷ Inner ∷ Read (256 + (before.sp + 255) % 256) ∷ Read (256 + before.sp) ∷ []
pulled_by_return before inside low high small same =
    let last : ((before.sp + 255) % 256 + 1) % 256 ≡ before.sp = omega arith in
    pulled_along inside ((before.sp + 254) % 256) ((before.sp + 255) % 256) before.sp low high same (one_back before.sp) last
