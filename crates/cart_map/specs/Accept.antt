-- Which files are cartridges. The headers' fields are those of the Super Nintendo Development Manual and of fullsnes, "SNES
-- Cartridge ROM Header"; the front, the limits, the choice of a header and the refusals are this project's own profile.
use Rattle.std.specs.Prelude.{ℕ, ◌+◌, ◌-◌, ◌*◌, ◌%◌, ◌^◌, Bool, true, false, not, ◌&&◌, ◌||◌, nat_lt, nat_le, nat_eq, if◌then◌else◌}
use Rattle.std.specs.Prelude.{List, ◌++◌, length, drop, replicate, slice_index, Option, Some, None, Result, Ok, Err}
use Rattle.snes_defs.specs.declared.cart.MapKind.{MapKind}
use Rattle.snes_defs.specs.declared.cart.MapKind.TheVariants.{LoRom, HiRom}
use Rattle.cart_map.specs.declared.refused.CartRefused.{CartRefused}
use Rattle.cart_map.specs.declared.refused.CartRefused.TheVariants.{TooShort, TooLong, NoHeader, Coprocessor, RamSize}
use Rattle.cart_map.specs.declared.header.Header.{Header}

-- the image in a file: where a file has 512 bytes more than whole KiB, these stand in front of the image
unfoldable pub image_of : List ℕ → List ℕ
image_of file = if nat_eq (length file % 1024) 512 then drop 512 file else file

-- how many bytes an image lacks to whole pages of 32 KiB
abbrev pub missing : ℕ → ℕ
missing size = (32768 - size % 32768) % 32768

-- the ROM that an image fills, with zeros up to a whole page
unfoldable pub rom_of : List ℕ → List ℕ
rom_of image = image ++ replicate (missing (length image)) 0

-- where each map's header begins
abbrev pub header_at : MapKind → ℕ
header_at LoRom = 0x7fc0
header_at HiRom = 0xffc0

-- the fields of the header that begins at a place: +15 map, +16 chip, +18 RAM size, +1C complement, +1E checksum
abbrev pub map_byte : List ℕ → ℕ → ℕ
map_byte rom header = slice_index rom (header + 0x15)

abbrev pub chip_byte : List ℕ → ℕ → ℕ
chip_byte rom header = slice_index rom (header + 0x16)

abbrev pub ram_size_byte : List ℕ → ℕ → ℕ
ram_size_byte rom header = slice_index rom (header + 0x18)

-- a number of 16 bits, low byte first
abbrev pub word_at : List ℕ → ℕ → ℕ
word_at rom place = slice_index rom place + 256 * slice_index rom (place + 1)

-- whether complement and checksum add to FFFF
abbrev pub sums_add : List ℕ → ℕ → Bool
sums_add rom header = nat_eq (word_at rom (header + 0x1c) + word_at rom (header + 0x1e)) 0xffff

-- whether a map byte is 20 or 30 (LoROM), 21 or 31 (HiROM)
abbrev pub is_map_byte : MapKind → ℕ → Bool
is_map_byte LoRom byte = nat_eq byte 0x20 || nat_eq byte 0x30
is_map_byte HiRom byte = nat_eq byte 0x21 || nat_eq byte 0x31

-- whether a map's header stands in a ROM
abbrev pub stands : MapKind → List ℕ → Bool
stands LoRom rom = is_map_byte LoRom (map_byte rom 0x7fc0)
stands HiRom rom = nat_le 0x10000 (length rom) && is_map_byte HiRom (map_byte rom 0xffc0)

-- the map of a ROM: that whose header stands, or if both do HiROM where its sums alone add, and else LoROM
abbrev pub chosen : List ℕ → Option MapKind
chosen rom =
    if stands HiRom rom
    then (if stands LoRom rom && not (sums_add rom 0xffc0 && not (sums_add rom 0x7fc0)) then Some LoRom else Some HiRom)
    else (if stands LoRom rom then Some LoRom else None)

-- the bytes of RAM that a size byte of 0 to 7 asks for
abbrev pub ram_of : ℕ → ℕ
ram_of size = if nat_eq size 0 then 0 else 1024 * 2 ^ size

-- what a header's chip and RAM size ask for
abbrev pub asks_for : MapKind → ℕ → ℕ → Result Header CartRefused
asks_for map chip size =
    if nat_lt 2 chip then Err (Coprocessor chip)
    else (if nat_lt 7 size then Err (RamSize size)
    else Ok (record { map = map; ram = ram_of size }))

-- the verdict on a ROM, whose map was chosen
abbrev pub judged_by : Option MapKind → List ℕ → Result Header CartRefused
judged_by None rom = Err NoHeader
judged_by (Some map) rom = asks_for map (chip_byte rom (header_at map)) (ram_size_byte rom (header_at map))

unfoldable pub judged : List ℕ → Result Header CartRefused
judged rom = judged_by (chosen rom) rom

-- the verdict on an image: its length first, then its header
abbrev pub judged_image : List ℕ → Result Header CartRefused
judged_image image =
    if nat_lt (length image) 32768 then Err TooShort
    else (if nat_lt 4194304 (length image) then Err TooLong
    else judged (rom_of image))

-- the verdict on a file
abbrev pub verdict : List ℕ → Result Header CartRefused
verdict file = judged_image (image_of file)
