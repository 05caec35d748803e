-- Reads and writes of one byte: at the places of the address map, and at the registers of the B bus (2100
-- to 21FF). After fullsnes ("SNES I/O Map", "SNES Memory Work RAM Access").
use Rattle.std.specs.Prelude.{◌≡◌, ℕ, ◌+◌, ◌*◌, ◌/◌, ◌%◌, ◌==◌, Bool, ◌&&◌, nat_le, nat_lt}
use Rattle.std.specs.Prelude.{slice_index, slice_set, if◌then◌else◌}
use Rattle.cart_map.specs.declared.places.Place.{Place}
use Rattle.cart_map.specs.declared.places.Place.TheVariants.{Wram, Rom, Ram, BBus, Cpu, Open}
use Rattle.cart_map.specs.Place.{bank_place_of}
use Rattle.io_math.specs.Registers as io
use Rattle.beam.specs.Events.{BeamValue}
use Rattle.dma_hdma.specs.Channel as channel
use Rattle.dma_hdma.specs.Channels.{channel_at, channel_number, register_number, by_bits}
use Rattle.console_bus.specs.declared.cart_board.CartBoard.{CartBoard}
use Rattle.console_bus.specs.Profiles.{picture_byte, picture_read, picture_written, io_written, picture_latched}
use Rattle.ppu_regs.specs.Picture.{Picture}
use Rattle.console_bus.specs.BusState.{BusState, spot_of, with_io, with_picture}

-- what lies at a 24-bit address: at an offset of 16 bits in a bank of 8
abbrev pub place_at : CartBoard → ℕ → Place
place_at board addr = bank_place_of board.map board.rom board.ram (addr / 0x10000 % 0x100) (addr % 0x10000)

-- the transfers' A side reaches no registers: those of the B bus and of the processor's chip are open there
abbrev pub a_side : Place → Place
a_side (Wram i) = Wram i
a_side (Rom i) = Rom i
a_side (Ram i) = Ram i
a_side (BBus register) = Open
a_side (Cpu register) = Open
a_side Open = Open

-- ---- the B bus

-- the four ports to the sound side: 2140 to 217F
abbrev pub is_port : ℕ → Bool
is_port register = nat_le 0x40 register && nat_lt register 0x80

-- the byte of one of the picture unit's registers, and the unit after a read and after a write
abbrev pub picture_byte_of : BusState → ℕ → ℕ
picture_byte_of r register = picture_byte r.script.profile r.beam.region r.frame r.picture register r.last

abbrev pub picture_after_read : BusState → ℕ → Picture
picture_after_read r register = picture_read r.script.profile r.io.port r.picture register (spot_of r.beam)

abbrev pub picture_after_write : BusState → ℕ → ℕ → Picture
picture_after_write r register v = picture_written r.script.profile (spot_of r.beam) r.picture register v

-- the byte of a register; a port gives what came in there
unfoldable pub register_byte : BusState → ℕ → ℕ → ℕ
register_byte r register got =
    if nat_lt register 0x40 then picture_byte_of r register
    else if nat_lt register 0x80 then got
    -- 2180 WMDATA
    else if register == 0x80 then slice_index r.memory r.port
    else r.last

unfoldable pub register_read : BusState → ℕ → BusState
register_read r register =
    if nat_lt register 0x40 then with_picture r (picture_after_read r register)
    else if register == 0x80 then (record r { port = (r.port + 1) % 0x20000 })
    else r

unfoldable pub register_written : BusState → ℕ → ℕ → BusState
register_written r register v =
    if nat_lt register 0x40 then with_picture r (picture_after_write r register v)
    else if register == 0x80 then (record r { memory = slice_set r.memory r.port v; port = (r.port + 1) % 0x20000 })
    -- 2181-3 WMADDL, WMADDM, WMADDH
    else if register == 0x81 then (record r { port = r.port / 0x100 * 0x100 + v % 0x100 })
    else if register == 0x82 then
    (record r { port = r.port / 0x10000 * 0x10000 + 0x100 * (v % 0x100) + r.port % 0x100 })
    else if register == 0x83 then (record r { port = 0x10000 * (v % 2) + r.port % 0x10000 })
    else r

-- ---- the registers of the processor's chip: 4016, 4017, 4200 to 421F, and the channels at 4300 to 437F

-- a register of `io_math`. The beam follows the timer, and 4201 may latch the picture unit's counters
abbrev pub picture_after_port : BusState → ℕ → ℕ → Picture
picture_after_port r register v = picture_latched r.script.profile (spot_of r.beam) r.io.port r.picture register v

abbrev pub io_register_written : BusState → ℕ → ℕ → BusState
io_register_written r register v =
    with_io (with_picture r (picture_after_port r register v)) (io_written r.script.profile r.beam.v r.io register v)

abbrev pub is_channel : ℕ → Bool
is_channel register = nat_le 0x4300 register && nat_le register 0x437f

unfoldable pub chip_byte : BusState → ℕ → ℕ
chip_byte r register =
    if is_channel register then
    channel.register_of (channel_at r.channels (channel_number register)) (register_number register) r.last
    else io.byte_read r.io register r.last (spot_of r.beam)

unfoldable pub chip_read : BusState → ℕ → BusState
chip_read r register = if is_channel register then r else (record r { io = io.after_read r.io register })

unfoldable pub chip_written : BusState → ℕ → ℕ → BusState
chip_written r register v =
    if is_channel register then (record r {
      channels = slice_set r.channels (channel_number register)
          (channel.written (channel_at r.channels (channel_number register)) (register_number register) v);
    })
    -- 420B MDMAEN, 420C HDMAEN
    else if register == 0x420b then (record r { channels = by_bits channel.started r.channels v })
    else if register == 0x420c then (record r { channels = by_bits channel.enabled_as r.channels v })
    else io_register_written r register v

-- a read of the register changes nothing, and gives the same byte wherever the beam stands
pub record IsStill (r : BusState) (register : ℕ) : Type 0 where
  pub same : (b : BeamValue) → chip_read (record r { beam = b }) register ≡ record r { beam = b }
  pub byte : (b : BeamValue) → chip_byte (record r { beam = b }) register ≡ chip_byte r register

-- ---- a place of the address map

abbrev pub place_byte : BusState → Place → ℕ → ℕ
place_byte r (Wram i) got = slice_index r.memory i
place_byte r (Ram i) got = slice_index r.memory (131072 + i)
place_byte r (Rom i) got = slice_index r.memory (131072 + r.board.ram + i)
place_byte r (BBus register) got = register_byte r register got
place_byte r (Cpu register) got = chip_byte r register
place_byte r Open got = r.last

abbrev pub place_read : BusState → Place → BusState
place_read r (Wram i) = r
place_read r (Ram i) = r
place_read r (Rom i) = r
place_read r (BBus register) = register_read r register
place_read r (Cpu register) = chip_read r register
place_read r Open = r

abbrev pub place_written : BusState → Place → ℕ → BusState
place_written r (Wram i) v = record r { memory = slice_set r.memory i v }
place_written r (Ram i) v = record r { memory = slice_set r.memory (131072 + i) v }
place_written r (Rom i) v = r
place_written r (BBus register) v = register_written r register v
place_written r (Cpu register) v = chip_written r register v
place_written r Open v = r

-- the byte that a transfer takes from the A side
abbrev pub taken_from : BusState → ℕ → ℕ
taken_from r addr = place_byte r (a_side (place_at r.board addr)) 0

-- a byte has gone over the data bus
abbrev pub on_bus : BusState → ℕ → BusState
on_bus r byte = record r { last = byte }
