-- A voice's value between its four samples, by the interpolation table of 512 numbers (nocash fullsnes, "SNES APU DSP BRR Pitch").
use Rattle.std.specs.Prelude.{ℕ, ℤ, pos, ◌+◌, ◌-◌, ◌/◌, ◌%◌, ◌+ℤ◌, ◌*ℤ◌, List, slice_index}
use Rattle.sdsp_voice.specs.Signed.{shifted, wrapped_16, clamped_16}
use Rattle.sdsp_voice.specs.declared.voice.Voice.{Voice}

-- a sample by a number of the table
unfoldable pub weighted : ℕ → ℤ → ℤ
weighted t x = shifted (x *ℤ pos t) 10

-- the first three parts, at bits 11-4 of the position
unfoldable pub three_parts : List ℕ → ℕ → Voice → ℤ
three_parts table i w =
    weighted (slice_index table (255 - i)) w.oldest +ℤ weighted (slice_index table (511 - i)) w.older +ℤ weighted (slice_index table (256 + i)) w.newer

-- THE VALUE at the position's bits 11-4: the first three parts wrap, the last one is held
unfoldable pub interpolated : List ℕ → Voice → ℤ
interpolated table w =
    let i = w.position / 16 % 256 in
    shifted (clamped_16 (wrapped_16 (three_parts table i w) +ℤ weighted (slice_index table i) w.newest)) 1
