-- A sound file: what an SPC700, its RAM and the S-DSP hold at one moment (the SPC file format; which files are accepted: this project's own profile).
use Rattle.std.specs.Prelude.{ℕ, ◌+◌, ◌*◌, not, nat_lt, List, length, take, drop, slice_index, codes, Option, Some, None, if◌then◌else◌}
use Rattle.std.specs.Str.{bytes_eq}
use Rattle.spc_tables.specs.declared.regs.SpcRegs.{SpcRegs}
use Rattle.spc_player.specs.declared.image.SpcRefused.{SpcRefused}
use Rattle.spc_player.specs.declared.image.SpcRefused.TheVariants.{TooLong, TooShort, NoText}

pub record Image : Type 0 where
  pub regs : SpcRegs
  -- the 65,536 bytes of RAM
  pub ram : List ℕ
  -- the 128 bytes of the S-DSP
  pub dsp : List ℕ

-- WHY A FILE IS REFUSED: it has more than 1,048,576 bytes, or fewer than 65,920, or does not begin with the text
unfoldable pub refusal_of : List ℕ → Option SpcRefused
refusal_of file =
    if nat_lt 1048576 (length file) then Some TooLong
    else (if nat_lt (length file) 65920 then Some TooShort
    else (if not (bytes_eq (take 27 file) (codes "SNES-SPC700 Sound File Data")) then Some NoText
    else None))

-- the registers: PC at 25, low byte first, A at 27, X at 28, Y at 29, PSW at 2A, SP at 2B
unfoldable pub regs_of : List ℕ → SpcRegs
regs_of file =
    record {
      a = slice_index file 0x27;
      x = slice_index file 0x28;
      y = slice_index file 0x29;
      sp = slice_index file 0x2B;
      pc = slice_index file 0x25 + 256 * slice_index file 0x26;
      psw = slice_index file 0x2A;
    }

-- WHAT A FILE HOLDS: RAM stands at 100, the S-DSP's bytes at 10100
unfoldable pub image_of : List ℕ → Image
image_of file = record { regs = regs_of file; ram = take 65536 (drop 0x100 file); dsp = take 128 (drop 0x10100 file) }
