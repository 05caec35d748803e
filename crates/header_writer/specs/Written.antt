-- What is written into a file. The fields of a header are those of the Super Nintendo Development Manual and of
-- fullsnes, "SNES Cartridge ROM Header".
use Rattle.std.specs.Prelude.{ℕ, ◌+◌, ◌-◌, ◌/◌, ◌%◌, nat_eq, if◌then◌else◌, List, [], ◌∷◌, length}
use Rattle.std.specs.List.{splice}
use Rattle.cart_map.specs.Accept.{image_of}
use Rattle.header_writer.specs.Checksum.{size_byte, checksum}

-- how many bytes of a copier are in front of the image in a file
abbrev pub front_of : List ℕ → ℕ
front_of file = if nat_eq (length file % 1024) 512 then 512 else 0

-- a file in which the bytes at a place of its image are replaced
abbrev pub with_bytes : ℕ → List ℕ → List ℕ → List ℕ
with_bytes place bytes file = splice file (front_of file + place) (front_of file + place + length bytes) bytes

-- the four bytes from 7FD5 on: map 20 (LoROM), chips 00 (ROM alone), the ROM's size, RAM 00 (none)
abbrev pub with_kind : List ℕ → List ℕ
with_kind file = with_bytes 0x7fd5 (0x20 ∷ 0x00 ∷ size_byte (length (image_of file)) ∷ 0x00 ∷ []) file

-- the seven behind them: country 01 (NTSC), maker 00, version 00, then complement FFFF and checksum 0000
abbrev pub with_rest : List ℕ → List ℕ
with_rest file = with_bytes 0x7fd9 (0x01 ∷ 0x00 ∷ 0x00 ∷ 0xff ∷ 0xff ∷ 0x00 ∷ 0x00 ∷ []) file

-- all of a header but its sums
abbrev pub with_fields : List ℕ → List ℕ → List ℕ
with_fields title file = with_rest (with_kind (with_bytes 0x7fc0 title file))

-- a complement and a checksum, low byte first
abbrev pub sums : ℕ → List ℕ
sums sum = (65535 - sum) % 256 ∷ (65535 - sum) / 256 ∷ sum % 256 ∷ sum / 256 ∷ []

-- THE FILE WITH A HEADER: the checksum is of the image with all other fields of the header
abbrev pub with_sums : List ℕ → List ℕ
with_sums file = with_bytes 0x7fdc (sums (checksum (image_of file))) file

abbrev pub with_header : List ℕ → List ℕ → List ℕ
with_header title file = with_sums (with_fields title file)
