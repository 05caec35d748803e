-- WAV files: 32,000 samples a second, left and right, 16 bits each.
use Rattle.std.specs.Prelude.{ℕ, ◌+◌, List, ◌++◌, codes}
use Rattle.film_formats.specs.Numbers.{little2, little4}

-- what stands before so many bytes of samples
abbrev pub wav_header_of : ℕ → List ℕ
wav_header_of bytes =
    codes "RIFF" ++ little4 (36 + bytes) ++ codes "WAVEfmt "
    -- the length of the format; plain numbers; two channels; samples a second; bytes a second; bytes a sample; bits
    ++ little4 16 ++ little2 1 ++ little2 2 ++ little4 32000 ++ little4 128000 ++ little2 4 ++ little2 16
    ++ codes "data" ++ little4 bytes
