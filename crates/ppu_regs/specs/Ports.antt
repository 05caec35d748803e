-- The ports to the picture memories (OAM, VRAM, CGRAM): what a byte that is written or read there makes of
-- memory and port. After nocash fullsnes; that memories take writes at any time, and what the first and
-- second bytes keep, are this project's own profile.
use Rattle.std.specs.Prelude.{ℕ, Bool, true, false, ◌+◌, ◌-◌, ◌*◌, ◌/◌, ◌%◌, ◌==◌, ltb, List, slice_index, slice_set}
use Rattle.std.specs.Prelude.{if◌then◌else◌}
use Rattle.ppu_regs.specs.declared.registers.OamPort.{OamPort}
use Rattle.ppu_regs.specs.declared.registers.VramPort.{VramPort}
use Rattle.ppu_regs.specs.declared.registers.CgramPort.{CgramPort}

-- OAM

-- the place in OAM of a byte address: 512 bytes, then 32 over and over
unfoldable pub oam_place : ℕ → ℕ
oam_place address = if ltb address 512 then address else 512 + address % 32

abbrev pub oam_stepped : OamPort → OamPort
oam_stepped port = record port { address = (port.address + 1) % 1024 }

-- 2104 OAMDATA: below 200h a byte at an even address is kept, and one at an odd address writes both; from
-- 200h each is written
unfoldable pub oam_bytes_written : List ℕ → OamPort → ℕ → List ℕ
oam_bytes_written oam port v =
    if ltb port.address 512
    then (if port.address % 2 == 0 then oam
    else slice_set (slice_set oam (port.address - 1) port.kept) port.address v)
    else slice_set oam (oam_place port.address) v

unfoldable pub oam_port_written : OamPort → ℕ → OamPort
oam_port_written port v =
    if ltb port.address 512
    then (if port.address % 2 == 0 then record (oam_stepped port) { kept = v } else oam_stepped port)
    else oam_stepped port

-- VRAM

-- the low bits of an address, as many as `size` counts (256, 512, 1024), moved left by 3 in rotation
unfoldable pub rotated : ℕ → ℕ → ℕ
rotated size address = address / size * size + address % (size / 8) * 8 + address % size / (size / 8)

-- remap 0 to 3 of 2115
unfoldable pub remapped : ℕ → ℕ → ℕ
remapped remap address =
    if remap == 1 then rotated 256 address
    else if remap == 2 then rotated 512 address
    else if remap == 3 then rotated 1024 address
    else address

-- the word of VRAM that a port stands at
unfoldable pub vram_place : VramPort → ℕ
vram_place port = remapped port.remap port.address % 32768

unfoldable pub vram_stepped : VramPort → VramPort
vram_stepped port = record port { address = (port.address + port.step) % 65536 }

-- an address that is set fetches the word there
abbrev pub vram_aimed : List ℕ → VramPort → ℕ → VramPort
vram_aimed vram port address =
    let aimed : VramPort = record port { address = address } in
    record aimed { fetched = slice_index vram (vram_place aimed) }

-- 2116 VMADDL, 2117 VMADDH
unfoldable pub vram_low_aimed : List ℕ → VramPort → ℕ → VramPort
vram_low_aimed vram port v = vram_aimed vram port (port.address / 256 * 256 + v)

unfoldable pub vram_high_aimed : List ℕ → VramPort → ℕ → VramPort
vram_high_aimed vram port v = vram_aimed vram port (256 * v + port.address % 256)

-- 2118 VMDATAL, 2119 VMDATAH: the low or high byte of the word
unfoldable pub vram_low_written : List ℕ → VramPort → ℕ → List ℕ
vram_low_written vram port v =
    slice_set vram (vram_place port) (slice_index vram (vram_place port) / 256 * 256 + v)

unfoldable pub vram_high_written : List ℕ → VramPort → ℕ → List ℕ
vram_high_written vram port v =
    slice_set vram (vram_place port) (256 * v + slice_index vram (vram_place port) % 256)

-- after the low byte the address steps where bit 7 of 2115 is clear, after the high one where it is set
unfoldable pub vram_port_after : VramPort → Bool → VramPort
vram_port_after port high =
    if port.steps_at_high then (if high then vram_stepped port else port)
    else (if high then port else vram_stepped port)

-- 2139 RDVRAML, 213A RDVRAMH: on the stepping byte the word at the address is fetched, then the address
-- steps
unfoldable pub vram_fetched : List ℕ → VramPort → VramPort
vram_fetched vram port = vram_stepped (record port { fetched = slice_index vram (vram_place port) })

unfoldable pub vram_port_read : List ℕ → VramPort → Bool → VramPort
vram_port_read vram port high =
    if port.steps_at_high then (if high then vram_fetched vram port else port)
    else (if high then port else vram_fetched vram port)

-- CGRAM

abbrev pub cgram_low_done : CgramPort → CgramPort
cgram_low_done port = record port { high = true }

abbrev pub cgram_stepped : CgramPort → CgramPort
cgram_stepped port = record port { high = false; index = (port.index + 1) % 256 }

-- 2122 CGDATA: the first byte is kept, the second writes 15 bits
unfoldable pub cgram_written : List ℕ → CgramPort → ℕ → List ℕ
cgram_written cgram port v =
    if port.high then slice_set cgram port.index (port.kept + 256 * (v % 128)) else cgram

unfoldable pub cgram_port_written : CgramPort → ℕ → CgramPort
cgram_port_written port v =
    if port.high then cgram_stepped port else record (cgram_low_done port) { kept = v }

-- 213B RDCGRAM: the low byte, then the high one
unfoldable pub cgram_byte : List ℕ → CgramPort → ℕ
cgram_byte cgram port =
    if port.high then slice_index cgram port.index / 256 else slice_index cgram port.index % 256

unfoldable pub cgram_port_read : CgramPort → CgramPort
cgram_port_read port = if port.high then cgram_stepped port else cgram_low_done port
