-- THE BYTES OF A SOUND FILE (the SPC file format, v0.30). `docs/use/SPC-FILES.md` has the same as a table.
use Rattle.std.specs.Prelude.{ℕ, ◌/◌, ◌%◌, List, [], ◌∷◌, ◌++◌, codes, drop}
use Rattle.spc_tables.specs.declared.regs.SpcRegs.{SpcRegs}
use Rattle.audio_side.specs.HardwareState.{HardwareState}
use Rattle.audio_side.specs.Kept.{kept_ram}
use Rattle.state_file.specs.Bytes.{zeros, shown_below}

-- In front of each part stand the offsets of what it joins.

-- 000 the text with its version, 021 26 twice, 023 27 (the file has no tags), 024 the minor version
unfoldable pub text : List ℕ
text = codes "SNES-SPC700 Sound File Data v0.30" ++ (26 ∷ (26 ∷ (27 ∷ (30 ∷ []))))

-- 025 PC, the low byte first, 027 A, 028 X, 029 Y, 02A PSW, 02B SP
unfoldable pub register_bytes : SpcRegs → List ℕ
register_bytes r = r.pc % 256 ∷ (r.pc / 256 ∷ (r.a ∷ (r.x ∷ (r.y ∷ (r.psw ∷ (r.sp ∷ []))))))

-- 000 text, 025 registers, 02C zeros; tags would begin at 02E
unfoldable pub head_of : SpcRegs → List ℕ
head_of regs = text ++ (register_bytes regs ++ zeros 212)

-- the last 64 bytes of RAM, which the boot ROM may hide
unfoldable pub last_of : List ℕ → List ℕ
last_of ram' = drop 0xFFC0 ram'

-- 10100 what the registers of the S-DSP show, 10180 zeros, 101C0 the last bytes of RAM
unfoldable pub tail_of : HardwareState → List ℕ
tail_of b = shown_below b.voices 128 ++ (zeros 64 ++ last_of b.ram)

-- THE BYTES, by the registers of the SPC700, its hardware and the four bytes at its incoming ports: 000 head, 100 RAM
-- as the processor sees it, with the registers F1 to FF as a file keeps them, 10100 tail
unfoldable pub sound_bytes : (regs : SpcRegs) (b : HardwareState) (ports : List ℕ) → List ℕ
sound_bytes regs b ports = head_of regs ++ (kept_ram b ports ++ tail_of b)
