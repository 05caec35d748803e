-- BRR: blocks of nine bytes that hold sixteen samples, each made from a digit of four bits and the two samples before (nocash fullsnes, "SNES APU DSP BRR Samples").
use Rattle.std.specs.Prelude.{ℕ, ℤ, pos, negsuc, true, ◌+◌, ◌-◌, ◌*◌, ◌/◌, ◌%◌, ◌^◌, ◌==◌, ◌+ℤ◌, ◌-ℤ◌, ◌*ℤ◌, neg_ℤ, nat_lt, nat_le, List, slice_index, zero, suc, if◌then◌else◌}
use Rattle.sdsp_voice.specs.Signed.{shifted, wrapped_15, clamped_16}
use Rattle.sdsp_voice.specs.Registers.{bit}
use Rattle.sdsp_voice.specs.declared.voice.Phase.TheVariants.{Release}
use Rattle.sdsp_voice.specs.declared.voice.Voice.{Voice}

-- a digit as a signed number, -8 to 7
abbrev pub signed_digit : ℕ → ℤ
signed_digit n = if nat_lt n 8 then pos n else negsuc (15 - n)

-- THE SHIFT (header bits 7-4): the digit times 2 to the power of the shift, halved; above 12 only the sign counts
unfoldable pub scaled_digit : ℕ → ℕ → ℤ
scaled_digit n shift =
    if nat_le shift 12 then shifted (signed_digit n *ℤ pos (2 ^ shift)) 1
    else (if nat_lt n 8 then pos 0 else negsuc 2047)

-- THE FILTER (header bits 3-2): what it adds, from the sample before, p, and the one before that, q
unfoldable pub filter_part : ℕ → ℤ → ℤ → ℤ
filter_part filter p q =
    if filter == 0 then pos 0
    else (if filter == 1 then p +ℤ shifted (neg_ℤ p) 4
    else (if filter == 2 then pos 2 *ℤ p +ℤ shifted (negsuc 2 *ℤ p) 5 -ℤ q +ℤ shifted q 4
    else pos 2 *ℤ p +ℤ shifted (negsuc 12 *ℤ p) 6 -ℤ q +ℤ shifted (pos 3 *ℤ q) 4))

-- A SAMPLE: held at the ends of 16 bits, then cut to 15
unfoldable pub sample_of : ℕ → ℕ → ℤ → ℤ → ℤ
sample_of header n p q = wrapped_15 (clamped_16 (scaled_digit n (header / 16) +ℤ filter_part (header / 4 % 4) p q))

-- digit k of a byte: the high one first
abbrev pub digit : ℕ → ℕ → ℕ
digit byte k = if k % 2 == 0 then byte / 16 else byte % 16

-- a byte of RAM, at an address modulo 10000
abbrev pub at : List ℕ → ℕ → ℕ
at ram address = slice_index ram (address % 65536)

-- two bytes of RAM, the low one first
abbrev pub word_at : List ℕ → ℕ → ℕ
word_at ram address = at ram address + 256 * at ram (address + 1)

-- a voice with one sample more, the oldest of its four dropped
unfoldable pub with_sample : Voice → ℤ → Voice
with_sample w x = record w { oldest = w.older; older = w.newer; newer = w.newest; newest = x }

-- the sample at the voice's place: its header and byte are read anew for each sample
unfoldable pub next_sample : List ℕ → Voice → ℤ
next_sample ram w = sample_of (at ram w.address) (digit (at ram (w.address + 1 + w.place / 2)) w.place) w.newest w.newer

-- After the sixteenth sample. Header bit 0: the end, which shows in ENDX and goes on at the source's second word; without bit 1, the loop, the voice also falls silent. Else the next block is nine bytes on.
unfoldable pub after_block : List ℕ → ℕ → Voice → Voice
after_block ram entry w =
    let header = at ram w.address in
    if bit header 0 then
    (if bit header 1 then record w { place = 0; ended = true; address = word_at ram (entry + 2) }
    else record w { place = 0; ended = true; address = word_at ram (entry + 2); envelope = 0; phase = Release })
    else record w { place = 0; address = (w.address + 9) % 65536 }

-- the voice's place goes on
unfoldable pub placed_on : List ℕ → ℕ → Voice → Voice
placed_on ram entry w = if nat_le 15 w.place then after_block ram entry w else record w { place = w.place + 1 }

-- ONE SAMPLE DECODED
unfoldable pub decoded : List ℕ → ℕ → Voice → Voice
decoded ram entry w = placed_on ram entry (with_sample w (next_sample ram w))

-- n samples decoded
unfoldable pub decoded_times : List ℕ → ℕ → ℕ → Voice → Voice
decoded_times ram entry zero w = w
decoded_times ram entry (suc n) w = decoded ram entry (decoded_times ram entry n w)
