-- What the second profile does otherwise than the first at the console's registers and at vertical blank. After
-- nocash fullsnes ("SNES PPU Interrupts", "SNES I/O Ports", "SNES Controllers"); that 213F bit 7 is the frame's number
-- modulo 2, and the lines and clocks at which each rule holds, are this project's own.
use Rattle.std.specs.Prelude.{ℕ, ◌+◌, ◌*◌, ◌%◌, ◌==◌, Bool, true, false, not, ◌&&◌, ◌||◌, if◌then◌else◌}
use Rattle.snes_defs.specs.declared.region.Region.{Region}
use Rattle.snes_defs.specs.declared.region.Region.TheVariants.{Ntsc, Pal}
use Rattle.snes_defs.specs.declared.profile.Profile.{Profile}
use Rattle.snes_defs.specs.declared.profile.Profile.TheVariants.{First, Second}
use Rattle.snes_defs.specs.declared.spot.Spot.{Spot}
use Rattle.io_math.specs.declared.registers.IoRegisters.{IoRegisters}
use Rattle.io_math.specs.Registers.{is_set, written, timed, read_begun}
use Rattle.ppu_regs.specs.Picture.{Picture}
use Rattle.ppu_regs.specs.Reads as picture_reads
use Rattle.ppu_regs.specs.Reads.{latched}
use Rattle.ppu_regs.specs.Writes as picture_writes
use Rattle.ppu_regs.specs.Writes.{vram_passed}

abbrev pub is_second : Profile → Bool
is_second First = false
is_second Second = true

-- ---- reads of the picture unit's registers, 2100 to 213F

abbrev pub pal_bit : Region → ℕ
pal_bit Ntsc = 0
pal_bit Pal = 16

-- the byte of a register. 213F STAT78: bit 7 the frame's number modulo 2, bit 4 PAL. In the first profile both are 0
unfoldable pub picture_byte : Profile → Region → ℕ → Picture → ℕ → ℕ → ℕ
picture_byte profile region frame p register bus =
    picture_reads.byte_read p register bus
    + (if is_second profile && register == 0x3f then 128 * (frame % 2) + pal_bit region else 0)

-- the unit after a read, where `port` is the byte of 4201 WRIO. 2137 SLHV latches nothing while bit 7 of it is 0
unfoldable pub picture_read : Profile → ℕ → Picture → ℕ → Spot → Picture
picture_read profile port p register spot =
    if (is_second profile && register == 0x37) && not (is_set port 128) then p
    else picture_reads.after_read p register spot

-- ---- writes of them

-- whether the picture is drawn, so that VRAM takes no byte: outside of vertical blank, without forced blank
abbrev pub is_drawing : Picture → Spot → Bool
is_drawing p spot = not p.registers.display.blanked && not spot.blank

-- the unit after a write. 2118 VMDATAL and 2119 VMDATAH write nothing while the picture is drawn; the address steps
unfoldable pub picture_written : Profile → Spot → Picture → ℕ → ℕ → Picture
picture_written profile spot p register v =
    if (is_second profile && (register == 0x18 || register == 0x19)) && is_drawing p spot then vram_passed p register
    else picture_writes.after_write p register v

-- ---- writes of the registers of the processor's chip

-- whether the timer is set for the start of a line: kind 2, and VTIME
abbrev pub is_timed_for : IoRegisters → ℕ → Bool
is_timed_for io line = io.interrupts.timer_kind == 2 && io.interrupts.vtime == line

-- the registers after a write, where the beam is on a line. A write of 4200, 4209 or 420A that sets the timer for the
-- start of this line sets the IRQ flag, if the timer was not so before
unfoldable pub io_written : Profile → ℕ → IoRegisters → ℕ → ℕ → IoRegisters
io_written profile line io register v =
    if is_second profile && (is_timed_for (written io register v) line && not (is_timed_for io line))
    then timed (written io register v) else written io register v

-- the picture unit after such a write. 4201 WRIO: where bit 7 goes from 1 to 0, the counters are latched as by 2137
unfoldable pub picture_latched : Profile → Spot → ℕ → Picture → ℕ → ℕ → Picture
picture_latched profile spot port p register v =
    if (is_second profile && register == 0x4201) && (is_set port 128 && not (is_set v 128)) then latched p spot else p

-- ---- vertical blank

-- where auto-read is on it takes time, from this line on
unfoldable pub reading_noted : Profile → ℕ → IoRegisters → IoRegisters
reading_noted profile line io = if is_second profile && io.interrupts.auto_read then read_begun io line else io
