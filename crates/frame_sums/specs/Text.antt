-- The text of the sums of a run: SHA-256 of the picture and of the samples of each frame, then of all video and of all audio.
-- Comma-separated values, whose lines end with LF.
use Rattle.std.specs.Prelude.{ℕ, zero, suc, ◌+◌, ◌/◌, ◌%◌, List, [], ◌∷◌, ◌++◌, codes, decimal, nat_lt, if◌then◌else◌}
use Rattle.sha2.specs.Sha256.{sha256}
use Rattle.snes_defs.specs.declared.region.Region.{Region}
use Rattle.snes_defs.specs.declared.ports.Side.TheVariants.{Console, Sound}
use Rattle.frame_sums.specs.Pieces.{piece_of}

-- one small hexadecimal digit of a number below 16
abbrev pub hex_digit : ℕ → ℕ
hex_digit n = if nat_lt n 10 then 48 + n else 87 + n

-- bytes in hexadecimal digits, two for each
abbrev pub hex_text : List ℕ → List ℕ
hex_text [] = []
hex_text (byte ∷ rest) = hex_digit (byte / 16) ∷ (hex_digit (byte % 16) ∷ hex_text rest)

-- the first line: the names of the columns
abbrev pub head_text : List ℕ
head_text = codes "frame,picture,sound" ++ 10 ∷ []

-- a line: what it is of, and two sums
unfoldable pub line_text : List ℕ → List ℕ → List ℕ → List ℕ
line_text name picture sound = name ++ 44 ∷ (hex_text picture ++ 44 ∷ (hex_text sound ++ 10 ∷ []))

-- the lines of the first frames, from 0, by the sums of each
unfoldable pub frames_text : (picture sound : ℕ → List ℕ) → ℕ → List ℕ
frames_text picture sound zero = []
frames_text picture sound (suc frames) = frames_text picture sound frames ++ line_text (decimal frames) (picture frames) (sound frames)

-- the whole text of so many frames, by the sums of each and those of all video and all audio
abbrev pub text_of : (picture sound : ℕ → List ℕ) → (video audio : List ℕ) → ℕ → List ℕ
text_of picture sound video audio frames = head_text ++ (frames_text picture sound frames ++ line_text (codes "all") video audio)

-- the sums of a run of so many frames that emits this video and this audio
abbrev pub sums_text : Region → ℕ → (video audio : List ℕ) → List ℕ
sums_text region frames video audio =
    text_of (λ frame. sha256 (piece_of region Console frame video)) (λ frame. sha256 (piece_of region Sound frame audio)) (sha256 video) (sha256 audio) frames
