-- What one channel does. Source: fullsnes, "SNES DMA and HDMA Channel 0..7 Registers"; the order of the bytes, and that a transfer
-- has no clocks beyond those of its bytes, is this project's own profile.
use Rattle.std.specs.Prelude.{ℕ, ◌+◌, ◌*◌, ◌/◌, ◌%◌, Bool, true, false, not, ◌&&◌, ◌||◌, nat_eq, nat_lt, if◌then◌else◌, Option, Some, None}
use Rattle.dma_hdma.specs.declared.channel_state.Channel.{Channel}
use Rattle.dma_hdma.specs.declared.channel_state.Work.{Work}
use Rattle.dma_hdma.specs.declared.channel_state.Work.TheVariants.{Idle, Send, Line, Low, High}
use Rattle.dma_hdma.specs.declared.moves.Move.{Move}
use Rattle.dma_hdma.specs.declared.moves.Move.TheVariants.{ToB, ToA, Load}
use Rattle.dma_hdma.specs.Pattern.{offset_of, length_of, address}

-- a channel at the start
abbrev pub first_channel : Channel
first_channel = record {
  mode = 0xff;
  port = 0xff;
  addr = 0xffff;
  bank = 0xff;
  count = 0xffff;
  indirect_bank = 0xff;
  table = 0xffff;
  line = 0xff;
  spare = 0xff;
  enabled = false;
  live = false;
  sending = false;
  work = Idle;
  running = false;
  position = 0;
}

-- whether the bit of a weight, 1 to 128, is set in a byte
abbrev pub is_set : ℕ → ℕ → Bool
is_set byte weight = nat_eq (byte / weight % 2) 1

-- the next offset and the one before, inside a bank
abbrev pub after : ℕ → ℕ
after offset = (offset + 1) % 65536

abbrev pub before : ℕ → ℕ
before offset = (offset + 65535) % 65536

-- ---- registers 43x0 to 43xF

-- the byte of a register; 43xC to 43xE give the byte last on the data bus
abbrev pub register_of : Channel → ℕ → ℕ → ℕ
register_of c number bus =
    if nat_eq number 0 then c.mode
    else (if nat_eq number 1 then c.port
    else (if nat_eq number 2 then c.addr % 256
    else (if nat_eq number 3 then c.addr / 256
    else (if nat_eq number 4 then c.bank
    else (if nat_eq number 5 then c.count % 256
    else (if nat_eq number 6 then c.count / 256
    else (if nat_eq number 7 then c.indirect_bank
    else (if nat_eq number 8 then c.table % 256
    else (if nat_eq number 9 then c.table / 256
    else (if nat_eq number 10 then c.line
    else (if nat_eq number 11 || nat_eq number 15 then c.spare
    else bus)))))))))))

-- a 16-bit register with a new low or high byte
abbrev pub with_low : ℕ → ℕ → ℕ
with_low word byte = word / 256 * 256 + byte

abbrev pub with_high : ℕ → ℕ → ℕ
with_high word byte = word % 256 + 256 * byte

-- the channel after a write of a register
abbrev pub written : Channel → ℕ → ℕ → Channel
written c number v =
    if nat_eq number 0 then record c { mode = v }
    else (if nat_eq number 1 then record c { port = v }
    else (if nat_eq number 2 then record c { addr = with_low c.addr v }
    else (if nat_eq number 3 then record c { addr = with_high c.addr v }
    else (if nat_eq number 4 then record c { bank = v }
    else (if nat_eq number 5 then record c { count = with_low c.count v }
    else (if nat_eq number 6 then record c { count = with_high c.count v }
    else (if nat_eq number 7 then record c { indirect_bank = v }
    else (if nat_eq number 8 then record c { table = with_low c.table v }
    else (if nat_eq number 9 then record c { table = with_high c.table v }
    else (if nat_eq number 10 then record c { line = v }
    else (if nat_eq number 11 || nat_eq number 15 then record c { spare = v }
    else c)))))))))))

-- the B register of a place in the channel's pattern
abbrev pub port_of : Channel → ℕ → ℕ
port_of c place = (c.port + offset_of c.mode place) % 256

-- ---- DMA

-- the byte that is due while the channel runs
unfoldable pub dma_move : Channel → Move
dma_move c =
    if is_set c.mode 128 then ToA (port_of c c.position) (address c.bank c.addr)
    else ToB (address c.bank c.addr) (port_of c c.position)

-- the A address after a byte: bit 3 keeps it, bit 4 lets it fall, and else it rises
abbrev pub addr_after : Channel → ℕ
addr_after c = if is_set c.mode 8 then c.addr else (if is_set c.mode 16 then before c.addr else after c.addr)

-- the channel after a byte: it runs until its count falls to 0
unfoldable pub run_on : Channel → Channel
run_on c = record c {
  addr = addr_after c;
  count = before c.count;
  running = not (nat_eq (before c.count) 0);
  position = (c.position % 4 + 1) % 4;
}

-- a start begins the pattern anew
unfoldable pub started : Channel → Bool → Channel
started c on = if on then record c { running = true; position = 0 } else c

-- ---- HDMA

-- the channel's bit of 420C
unfoldable pub enabled_as : Channel → Bool → Channel
enabled_as c on = record c { enabled = on }

-- the data lies in the table, or where the table says
abbrev pub source_of : Channel → ℕ
source_of c = if is_set c.mode 64 then address c.indirect_bank c.count else address c.bank c.table

-- one byte of the data further
abbrev pub stepped : Channel → Channel
stepped c = if is_set c.mode 64 then record c { count = after c.count } else record c { table = after c.table }

-- a line is counted: bit 7 of what is left says whether the next line sends, and none left in bits 6 to 0 asks for a load
abbrev pub counted : Channel → Channel
counted c = record c {
  line = (c.line + 255) % 256;
  sending = is_set ((c.line + 255) % 256) 128;
  work = (if nat_eq ((c.line + 255) % 256 % 128) 0 then Line else Idle);
}

-- a load is over: line byte 0 ends the channel for the frame, and any other sends
abbrev pub loaded : Channel → Channel
loaded c = if nat_eq c.line 0 then record c { live = false; work = Idle } else record c { sending = true; work = Idle }

-- a frame begins: every channel is live and not sending, and one that is enabled loads from the start of its table
unfoldable pub frame_begun : Channel → Channel
frame_begun c =
    if c.enabled then record c { live = true; sending = false; table = c.addr; work = Line }
    else record c { live = true; sending = false; work = Idle }

-- a line begins for an enabled live channel: it sends its pattern from the first byte on, or counts the line at once
unfoldable pub line_begun : Channel → Channel
line_begun c =
    if c.enabled && c.live then (if c.sending then record c { work = Send 0 } else counted c)
    else c

-- whether there is anything left to do
abbrev pub is_work : Work → Bool
is_work Idle = false
is_work (Send place) = true
is_work Line = true
is_work Low = true
is_work High = true

-- whether a byte of its HDMA is due
abbrev pub is_working : Channel → Bool
is_working c = is_work c.work

-- the byte that is due
abbrev pub move_for : Work → Channel → Option Move
move_for Idle c = None
move_for (Send place) c = Some (ToB (source_of c) (port_of c place))
move_for Line c = Some (Load (address c.bank c.table))
move_for Low c = Some (Load (address c.bank c.table))
move_for High c = Some (Load (address c.bank c.table))

unfoldable pub work_move : Channel → Option Move
work_move c = move_for c.work c

-- the channel after a byte of its HDMA:
--   a byte of the data:  the next of the pattern; after the last the line is counted
--   a line byte:         an indirect channel goes on to its address; else the load is over
--   the low byte:        then the high one
--   the high byte:       the load is over
abbrev pub worked_at : Work → Channel → ℕ → Channel
worked_at Idle c byte = c
worked_at (Send place) c byte =
    if nat_lt (place + 1) (length_of c.mode) then record (stepped c) { work = Send (place + 1) } else counted (stepped c)
worked_at Line c byte =
    if is_set c.mode 64 then record c { line = byte; table = after c.table; work = Low }
    else loaded (record c { line = byte; table = after c.table })
worked_at Low c byte = record c { count = with_low c.count byte; table = after c.table; work = High }
worked_at High c byte = loaded (record c { count = with_high c.count byte; table = after c.table })

unfoldable pub worked : Channel → ℕ → Channel
worked c byte = worked_at c.work c byte
