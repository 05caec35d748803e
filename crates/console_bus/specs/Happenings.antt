-- What the beam's events do to the console, what a reset does, and what a row of the picture puts out.
use Rattle.std.specs.Prelude.{ℕ, zero, suc, ◌-◌, ◌/◌, ◌%◌, ◌==◌, nat_le, List, [], ◌∷◌, ◌++◌, map}
use Rattle.std.specs.Prelude.{Bool, true, false, not, ◌&&◌, ◌||◌, if◌then◌else◌}
use Rattle.snes_defs.specs.Script.{pads_at, is_reset}
use Rattle.beam.specs.declared.events.Event.{Event}
use Rattle.beam.specs.declared.events.Event.TheVariants.{Line, Blank, HdmaFrame, Refresh, Draw, HdmaLine, Timer}
use Rattle.io_math.specs.Registers.{registers_start, blanked, timed}
use Rattle.dma_hdma.specs.Channel.{frame_begun as channel_frame_begun, line_begun}
use Rattle.ppu_regs.specs.Picture.{Picture}
use Rattle.ppu_regs.specs.Writes.{after_write, after_over, after_frame, after_blank}
use Rattle.ppu_regs.specs.declared.registers.Over.{Over}
use Rattle.ppu_objects.specs.Objects.{passes_range}
use Rattle.ppu_objects.specs.Slivers.{passes_time}
use Rattle.ppu_line.specs.Line.{pixel}
use Rattle.console_bus.specs.Profiles.{reading_noted}
use Rattle.console_bus.specs.BusState.{BusState, with_io, with_pads, next_frame, channels_start}

-- a new frame: the NMI flag goes, the pads are those of the frame, the objects' flags are cleared, and a
-- reset is due where the script has one
unfoldable pub frame_begun : BusState → BusState
frame_begun r = record r {
  frame = next_frame r.frame;
  io = with_pads r.script (next_frame r.frame) r.io;
  picture = after_frame r.picture;
  reset = r.reset || is_reset r.script.resets (next_frame r.frame);
}

-- vertical blank: the NMI flag, auto-read, the address of OAM
unfoldable pub blank_begun : BusState → BusState
blank_begun r = record r {
  io = blanked (reading_noted r.script.profile r.beam.v r.io) (pads_at r.script.spans r.frame).0
      (pads_at r.script.spans r.frame).1;
  picture = after_blank r.picture;
}

-- Row V - 1 of the picture is shown on line V up to 224, and further down where overscan is on and vertical
-- blank hasn't begun. A row that isn't shown is black and adds no flags.
unfoldable pub is_shown : BusState → Bool
is_shown r = nat_le r.beam.v 224 || (r.picture.registers.settings.overscan && not r.beam.blank)

-- the flags that a row adds
abbrev pub row_over : Picture → ℕ → Over
row_over p row = record { range = passes_range p row; time = passes_time p row }

unfoldable pub row_drawn : BusState → BusState
row_drawn r =
    if is_shown r then (record r { picture = after_over r.picture (row_over r.picture (r.beam.v - 1)) }) else r

-- the numbers f 0, f 1, .. of a list of n
unfoldable pub list_of : ℕ → (ℕ → ℕ) → List ℕ
list_of zero f = []
list_of (suc n) f = list_of n f ++ (f n ∷ [])

-- byte k of a row of dots: two bytes each, the low one first
unfoldable pub byte_of_dots : (ℕ → ℕ) → ℕ → ℕ
byte_of_dots dot k = if k % 2 == 0 then dot (k / 2) % 256 else dot (k / 2) / 256

-- the dot e of the row, 0 to 511
unfoldable pub shown_dot : BusState → ℕ → ℕ
shown_dot r e = if is_shown r then pixel r.picture (r.beam.v - 1) e else 0

unfoldable pub row_bytes : BusState → List ℕ
row_bytes r = list_of 1024 (byte_of_dots (shown_dot r))

-- what an event does
abbrev pub happened : BusState → Event → BusState
happened r Line = if r.beam.v == 0 then frame_begun r else r
happened r Blank = blank_begun r
happened r HdmaFrame = record r { channels = map channel_frame_begun r.channels }
happened r Refresh = record r { refresh = true }
happened r Draw = row_drawn r
happened r HdmaLine = record r { channels = map line_begun r.channels }
happened r Timer = record r { io = timed r.io }

-- what an event emits
abbrev pub emitted_at : BusState → Event → List ℕ
emitted_at r Line = []
emitted_at r Blank = []
emitted_at r HdmaFrame = []
emitted_at r Refresh = []
emitted_at r Draw = row_bytes r
emitted_at r HdmaLine = []
emitted_at r Timer = []

-- A reset: the processor's registers and the channels are as at the start, with the pads of the frame; 2100
-- is 80. Memories, all else of the picture and the beam stay, and so does the address at 2181-3.
unfoldable pub was_reset : BusState → BusState
was_reset r =
    with_io (record r { channels = channels_start; picture = after_write r.picture 0 0x80; last = 0; reset = false })
    (with_pads r.script r.frame registers_start)
