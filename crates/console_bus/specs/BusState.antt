-- The console without its processor: what it keeps, and how it starts. Start contents, and that memories
-- start as zeros, are this project's own.
use Rattle.std.specs.Prelude.{ℕ, ◌+◌, ◌==◌, Bool, false, List, replicate, ◌++◌, length, if◌then◌else◌}
use Rattle.snes_defs.specs.declared.region.Region.{Region}
use Rattle.snes_defs.specs.declared.spot.IrqTime.{IrqTime}
use Rattle.snes_defs.specs.declared.spot.Spot.{Spot}
use Rattle.snes_defs.specs.declared.cart.Cart.{Cart}
use Rattle.snes_defs.specs.Script.{Script, pads_at}
use Rattle.beam.specs.Events.{BeamValue}
use Rattle.io_math.specs.declared.registers.IoRegisters.{IoRegisters}
use Rattle.io_math.specs.Registers.{registers_start, framed}
use Rattle.dma_hdma.specs.declared.channel_state.Channel.{Channel}
use Rattle.dma_hdma.specs.Channel.{first_channel}
use Rattle.ppu_regs.specs.Picture.{Picture, picture_start}
use Rattle.console_bus.specs.declared.cart_board.CartBoard.{CartBoard}

pub record BusState : Type 0 where
  -- the cartridge's map and the sizes of its memories
  pub board : CartBoard
  pub script : Script
  -- 128 KiB of work RAM, then the cartridge's RAM, then its ROM
  pub memory : List ℕ
  -- 2181-3 WMADD: the place of work RAM that 2180 reads and writes, 17 bits
  pub port : ℕ
  pub io : IoRegisters
  pub channels : List Channel
  pub picture : Picture
  pub beam : BeamValue
  -- the number of the frame, from 0; from 65,535 on it stays, where every script has long ended
  pub frame : ℕ
  -- the byte last on the data bus
  pub last : ℕ
  -- whether a refresh is due, and whether a reset is
  pub refresh : Bool
  pub reset : Bool

-- when the timer fires, by the registers
abbrev pub timer_of : IoRegisters → IrqTime
timer_of io = record { kind = io.interrupts.timer_kind; h = io.interrupts.htime; v = io.interrupts.vtime }

-- where the beam stands
abbrev pub spot_of : BeamValue → Spot
spot_of b = record { h = b.h; v = b.v; blank = b.blank }

-- new registers, whose timer the beam follows
abbrev pub with_io : BusState → IoRegisters → BusState
with_io r io = record r { io = io; beam = record r.beam { timer = timer_of io } }

-- another picture unit
abbrev pub with_picture : BusState → Picture → BusState
with_picture r p = record r { picture = p }

-- the registers with the pads of a frame
abbrev pub with_pads : Script → ℕ → IoRegisters → IoRegisters
with_pads script frame io = framed io (pads_at script.spans frame).0 (pads_at script.spans frame).1

abbrev pub next_frame : ℕ → ℕ
next_frame frame = if frame == 65535 then 65535 else frame + 1

-- no channel has anything to do
unfoldable pub channels_start : List Channel
channels_start = replicate 8 first_channel

-- work RAM and `ram` bytes of the cartridge's RAM, all zeros, before the ROM
unfoldable pub memory_start : ℕ → List ℕ → List ℕ
memory_start ram rom = replicate (131072 + ram) 0 ++ rom

-- the console at the start of frame 0, where the events of that place are done
abbrev pub beam_start : Region → BeamValue
beam_start region = record { region = region; v = 0; h = 0; blank = false; timer = timer_of registers_start }

abbrev pub board_of : Cart → CartBoard
board_of cart = record { map = cart.map; rom = length cart.rom; ram = cart.ram }

abbrev pub bus_start : Cart → Script → Region → BusState
bus_start cart script region = record {
  board = board_of cart;
  script = script;
  memory = memory_start cart.ram cart.rom;
  port = 0;
  io = with_pads script 0 registers_start;
  channels = channels_start;
  picture = picture_start script.profile;
  beam = beam_start region;
  frame = 0;
  last = 0;
  refresh = false;
  reset = false;
}
