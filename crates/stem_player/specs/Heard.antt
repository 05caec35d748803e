-- What is heard of a sound file: the samples of a stem, of which the last ones fade out.
use Rattle.std.specs.Prelude.{ℕ, ℤ, pos, zero, suc, ◌+◌, ◌-◌, ◌*◌, ◌/◌, ◌*ℤ◌, nat_le, List, [], ◌++◌, slice_index, if◌then◌else◌}
use Rattle.std.specs.Int.{w16, cast_signed, cast_unsigned}
use Rattle.sdsp_voice.specs.Signed.{shifted}
use Rattle.audio_side.specs.Effect.{pair_bytes}
use Rattle.spc_player.specs.Apart.{stem_sample}
use Rattle.spc_player.specs.Play.{Playing, after_steps, steps_of}
use Rattle.stem_player.specs.declared.heard.Heard.{Heard}

-- THE LEVEL of a sample in parts of 65,536, by how many samples remain, this one included: the last `fade` samples fade out
unfoldable pub level : ℕ → ℕ → ℕ
level fade left = if nat_le fade left then 65536 else 65536 * left / fade

-- a number at a level: the product, rounded down
unfoldable pub faded : ℕ → ℤ → ℤ
faded level' z = shifted (z *ℤ pos level') 16

-- one of the two signed numbers of a sample, by its first byte, the low one
abbrev pub number_at : List ℕ → ℕ → ℤ
number_at bytes at = cast_signed w16 (slice_index bytes at + 256 * slice_index bytes (at + 1))

-- the four bytes of a sample at a level
unfoldable pub at_level : ℕ → List ℕ → List ℕ
at_level level' bytes =
    pair_bytes (cast_unsigned w16 (faded level' (number_at bytes 0))) (cast_unsigned w16 (faded level' (number_at bytes 2)))

-- the next sample from a place, when `left` samples remain, this one included
abbrev pub heard_sample : Heard → Playing → ℕ → List ℕ
heard_sample h w left = at_level (level h.fade left) (stem_sample h.stem w)

-- THE FIRST k OF n SAMPLES from a place, joined in order: 4k bytes
unfoldable pub heard_pairs : Heard → Playing → ℕ → ℕ → List ℕ
heard_pairs h w n zero = []
heard_pairs h w n (suc k) = heard_pairs h w n k ++ heard_sample h (after_steps w (steps_of w k)) (n - k)
