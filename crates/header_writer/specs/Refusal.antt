-- Into which files a header is written, and why not into the others: this project's own rule.
use Rattle.std.specs.Prelude.{ℕ, Bool, true, false, nat_lt, nat_eq, if◌then◌else◌, ◌||◌, List, length, drop, take}
use Rattle.std.specs.Prelude.{slice_index, Option, Some, None}
use Rattle.std.specs.List.{list_all}
use Rattle.snes_defs.specs.declared.cart.MapKind.TheVariants.{LoRom, HiRom}
use Rattle.cart_map.specs.Accept.{rom_of, stands}
use Rattle.header_writer.specs.declared.refused.HeaderRefused.{HeaderRefused}
use Rattle.header_writer.specs.declared.refused.HeaderRefused.TheVariants.{TooShort, TooLong, HasHeader, Reset, InUse}

-- whether a header of either map is in a ROM
abbrev pub has_header : List ℕ → Bool
has_header rom = stands LoRom rom || stands HiRom rom

-- why no header is written into an image, or none: the first rule that fails
unfoldable pub refusal : List ℕ → Option HeaderRefused
refusal image =
    if nat_lt (length image) 32768 then Some TooShort
    else (if nat_lt 4194304 (length image) then Some TooLong
    else (if has_header (rom_of image) then Some HasHeader
    else (if nat_lt (slice_index image 0x7ffd) 0x80 then Some (Reset (slice_index image 0x7ffd))
    else None)))

-- whether the 32 bytes of the header are all 00 or all FF
unfoldable pub is_unused : List ℕ → Bool
is_unused bytes = list_all (λ byte. nat_eq byte 0) bytes || list_all (λ byte. nat_eq byte 255) bytes

-- a whole header is refused as well where its bytes are in use
abbrev pub also_in_use : Option HeaderRefused → Bool → Option HeaderRefused
also_in_use (Some cause) unused = Some cause
also_in_use None true = None
also_in_use None false = Some InUse

abbrev pub whole_refusal : List ℕ → Option HeaderRefused
whole_refusal image = also_in_use (refusal image) (is_unused (take 32 (drop 0x7fc0 image)))
