-- The eight channels together: which byte is next, and what the calls do to the channels. HDMA goes before DMA, and each from
-- channel 0 up. Source: fullsnes, "SNES DMA and HDMA Start/Enable Registers"; the order is this project's own profile.
use Rattle.std.specs.Prelude.{ℕ, ◌/◌, ◌%◌, ◌<◌, Bool, nat_eq, List, [], ◌∷◌, position, slice_set, Option, Some, None}
use Rattle.std.specs.List.{slice_index_or}
use Rattle.dma_hdma.specs.declared.channel_state.Channel.{Channel}
use Rattle.dma_hdma.specs.declared.moves.Move.{Move}
use Rattle.dma_hdma.specs.declared.whose.Turn.{Turn}
use Rattle.dma_hdma.specs.declared.whose.Turn.TheVariants.{Nobody, Hdma, Dma}
use Rattle.dma_hdma.specs.Channel.{first_channel, is_working, work_move, worked, dma_move, run_on}

-- a channel by its number
abbrev pub channel_at : List Channel → ℕ → Channel
channel_at channels x = slice_index_or channels x first_channel

-- the first channel whose DMA runs has the turn, if no HDMA does
abbrev pub turn_of_dma : Option ℕ → Turn
turn_of_dma None = Nobody
turn_of_dma (Some x) = Dma x

-- the first channel with HDMA to do has the turn
abbrev pub turn_of_hdma : Option ℕ → List Channel → Turn
turn_of_hdma None channels = turn_of_dma (position (λ c. c.running) channels)
turn_of_hdma (Some x) channels = Hdma x

-- whose byte is next
unfoldable pub turn_of : List Channel → Turn
turn_of channels = turn_of_hdma (position is_working channels) channels

-- the byte of the channel that has the turn
abbrev pub move_in : List Channel → Turn → Option Move
move_in channels Nobody = None
move_in channels (Hdma x) = work_move (channel_at channels x)
move_in channels (Dma x) = Some (dma_move (channel_at channels x))

-- the next byte, if one is due
abbrev pub due_of : List Channel → Option Move
due_of channels = move_in channels (turn_of channels)

-- the channels after that byte
abbrev pub after_in : List Channel → Turn → ℕ → List Channel
after_in channels Nobody byte = channels
after_in channels (Hdma x) byte = slice_set channels x (worked (channel_at channels x) byte)
after_in channels (Dma x) byte = slice_set channels x (run_on (channel_at channels x))

abbrev pub after_byte : List Channel → ℕ → List Channel
after_byte channels byte = after_in channels (turn_of channels) byte

-- each channel with its bit of a mask, from channel 0 and bit 0 on
abbrev pub by_bits : (Channel → Bool → Channel) → List Channel → ℕ → List Channel
by_bits f [] mask = []
by_bits f (c ∷ rest) mask = f c (nat_eq (mask % 2) 1) ∷ by_bits f rest (mask / 2)

-- the number of a channel, and that of a register in it, at 4300 to 437F
abbrev pub channel_number : ℕ → ℕ
channel_number addr = addr / 16 % 8

abbrev pub register_number : ℕ → ℕ
register_number addr = addr % 16

-- the channel that has the turn is one of the eight
abbrev pub IsInside : Turn → Type 0
IsInside Nobody = Unit {0}
IsInside (Hdma x) = x < 8
IsInside (Dma x) = x < 8
