-- What a read of 2100 to 213F gives, and what it makes of the picture unit: a table by register, after
-- nocash fullsnes. The bits of 213E and 213F but for the flags are this project's own profile.
use Rattle.std.specs.Prelude.{ℕ, Bool, true, false, ◌+◌, ◌*◌, ◌/◌, ◌%◌, ◌==◌, ltb, not, slice_index, if◌then◌else◌}
use Rattle.snes_defs.specs.declared.spot.Spot.{Spot}
use Rattle.ppu_regs.specs.declared.registers.Registers.{Registers}
use Rattle.ppu_regs.specs.declared.registers.Rotation.{Rotation}
use Rattle.ppu_regs.specs.declared.registers.Counters.{Counters}
use Rattle.ppu_regs.specs.declared.registers.Over.{Over}
use Rattle.ppu_regs.specs.Picture.{Picture}
use Rattle.ppu_regs.specs.Ports.{oam_place, oam_stepped, vram_port_read, cgram_byte, cgram_port_read}

-- a number of 16 bits, and one of 8, signed, as a number of 24 bits in two's complement
abbrev pub signed_word : ℕ → ℕ
signed_word n = if ltb n 0x8000 then n else n + 0xff0000

abbrev pub signed_byte : ℕ → ℕ
signed_byte n = if ltb n 0x80 then n else n + 0xffff00

-- 2134-2136 MPYL, MPYM, MPYH: the signed number A times the signed byte last written to 211C, 24 bits
unfoldable pub product_of : Rotation → ℕ
product_of m = signed_word m.a * signed_byte (m.b / 256) % 0x1000000

-- a flag as the number 0 or 1
abbrev pub bit_of : Bool → ℕ
bit_of on = if on then 1 else 0

-- 2137 SLHV: the dot (a quarter of the line clock) and the line are kept
unfoldable pub counters_latched : Counters → Spot → Counters
counters_latched c spot = record c { h = spot.h / 4; v = spot.v; latched = true }

-- the unit after the place of the beam was kept, by 2137 or from outside
abbrev pub latched : Picture → Spot → Picture
latched p spot =
    record p { registers = record p.registers { counters = counters_latched p.registers.counters spot } }

-- 213C OPHCT, 213D OPVCT: the low byte, then bit 8
abbrev pub count_byte : ℕ → Bool → ℕ
count_byte count high = if high then count / 256 % 2 else count % 256

-- 213E STAT77: 7 more slivers than 34, 6 more objects than 32, 3-0 the number 1
unfoldable pub status_one : Over → ℕ
status_one o = 128 * bit_of o.time + 64 * bit_of o.range + 1

-- 213F STAT78: 6 counters kept, 3-0 the number 1
unfoldable pub status_two : Counters → ℕ
status_two c = 64 * bit_of c.latched + 1

-- the byte that a read of 2100 + reg gives, where `bus` was the byte last on the data bus
unfoldable pub byte_read : Picture → ℕ → ℕ → ℕ
byte_read p reg bus =
    if reg == 0x34 then product_of p.registers.rotation % 256
    else if reg == 0x35 then product_of p.registers.rotation / 256 % 256
    else if reg == 0x36 then product_of p.registers.rotation / 65536
    else if reg == 0x38 then slice_index p.oam (oam_place p.registers.oam.address)
    else if reg == 0x39 then p.registers.vram.fetched % 256
    else if reg == 0x3a then p.registers.vram.fetched / 256
    else if reg == 0x3b then cgram_byte p.cgram p.registers.cgram
    else if reg == 0x3c then count_byte p.registers.counters.h p.registers.counters.h_high
    else if reg == 0x3d then count_byte p.registers.counters.v p.registers.counters.v_high
    else if reg == 0x3e then status_one p.registers.over
    else if reg == 0x3f then status_two p.registers.counters
    else bus

-- the registers after the read; the memories stay
unfoldable pub registers_read : Picture → ℕ → Spot → Registers
registers_read p reg spot =
    let r = p.registers in
    if reg == 0x37 then (latched p spot).registers
    else if reg == 0x38 then (record r { oam = oam_stepped r.oam })
    else if reg == 0x39 then (record r { vram = vram_port_read p.vram r.vram false })
    else if reg == 0x3a then (record r { vram = vram_port_read p.vram r.vram true })
    else if reg == 0x3b then (record r { cgram = cgram_port_read r.cgram })
    else if reg == 0x3c then (record r { counters = record r.counters { h_high = not r.counters.h_high } })
    else if reg == 0x3d then (record r { counters = record r.counters { v_high = not r.counters.v_high } })
    else if reg == 0x3f then (record r {
      counters = record r.counters { latched = false; h_high = false; v_high = false };
    })
    else r

abbrev pub after_read : Picture → ℕ → Spot → Picture
after_read p reg spot = record p { registers = registers_read p reg spot }
