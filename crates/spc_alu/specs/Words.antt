-- The word YA, and the operations on words: MOVW, ADDW, SUBW, CMPW, INCW, DECW (nocash fullsnes, "SNES APU
-- SPC700 CPU Load/Store Commands" and "ALU Commands").
use Rattle.std.specs.Prelude.{ℕ, Bool, not, ◌&&◌, ◌+◌, ◌-◌, ◌*◌, ◌/◌, ◌%◌, ◌==◌, nat_le}
use Rattle.status_bits.specs.StatusBits.{put}
use Rattle.spc_tables.specs.declared.flags.TheConstants.{CARRY, HALF_CARRY, OVERFLOW}
use Rattle.spc_tables.specs.declared.operation.SpcOp.{SpcOp}
use Rattle.spc_tables.specs.declared.operation.SpcOp.TheVariants.{Decw}
use Rattle.spc_tables.specs.declared.regs.SpcRegs.{SpcRegs}
use Rattle.spc_alu.specs.Status.{word_sign, with_nz_word}

-- the word YA: Y is its high byte
abbrev pub ya : SpcRegs → ℕ
ya r = r.a + 256 * r.y

-- a word put into Y and A
abbrev pub put_ya : SpcRegs → ℕ → SpcRegs
put_ya r v = record r { a = v % 256; y = v / 256 }

-- MOVW YA: N and Z are those of the word
unfoldable pub load_ya : SpcRegs → ℕ → SpcRegs
load_ya r w = record (put_ya r w) { psw = with_nz_word w r.psw }

-- the signed sum t of v and w doesn't fit: its sign is neither that of v nor that of w
abbrev pub word_overflow : ℕ → ℕ → ℕ → Bool
word_overflow v w t = not (word_sign t == word_sign v) && not (word_sign t == word_sign w)

-- YA plus w plus a carry c. H is the carry out of bit 11, C that out of bit 15.
unfoldable pub sum_with_ya : SpcRegs → ℕ → ℕ → SpcRegs
sum_with_ya r w c =
    let v = ya r in
    let t = v + w + c in
    record (put_ya r (t % 65536)) {
      psw =
          put (put (put (with_nz_word (t % 65536) r.psw) CARRY (nat_le 65536 t)) HALF_CARRY (nat_le 4096 (v % 4096 + w % 4096 + c)))
          OVERFLOW (word_overflow v w t);
    }

-- ADDW: without an incoming carry
unfoldable pub add_word : SpcRegs → ℕ → SpcRegs
add_word r w = sum_with_ya r w 0

-- SUBW: without an incoming borrow, so the complement of w is added with a carry
unfoldable pub subtract_word : SpcRegs → ℕ → SpcRegs
subtract_word r w = sum_with_ya r (65535 - w) 1

-- CMPW: N and Z are those of the difference, and C is set where it isn't below 0
unfoldable pub compare_word : SpcRegs → ℕ → SpcRegs
compare_word r w = record r { psw = put (with_nz_word ((ya r + 65536 - w) % 65536) r.psw) CARRY (nat_le w (ya r)) }

-- INCW and DECW: what is added to the word, modulo 65536
abbrev pub word_step : SpcOp → ℕ
word_step Decw = 65535
word_step _ = 1

-- the low byte that is written, which the low byte alone decides
unfoldable pub low_stepped : SpcOp → ℕ → ℕ
low_stepped op low = (low + word_step op) % 256

-- the word
unfoldable pub word_stepped : SpcOp → ℕ → ℕ
word_stepped op w = (w + word_step op) % 65536

-- N and Z are those of the new word
unfoldable pub after_word_step : SpcOp → SpcRegs → ℕ → SpcRegs
after_word_step op r w = record r { psw = with_nz_word (word_stepped op w) r.psw }
