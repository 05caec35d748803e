-- Addresses, transfers and the cartridge's header. After fullsnes ("SNES Memory Map", "SNES DMA Transfers", "SNES Cartridge ROM Header").
use Rattle.std.specs.Prelude.{ℕ, ◌+◌, ◌-◌, ◌*◌, ◌/◌, ◌%◌, Option, Some, None, Bool, true, false, not, ◌&&◌, ◌||◌, ◌==◌, nat_le, nat_lt, if◌then◌else◌}
use Rattle.lint_rules.specs.declared.addresses.At.{At}
use Rattle.lint_rules.specs.declared.addresses.At.TheVariants as at
use Rattle.lint_rules.specs.declared.addresses.Access.{Access}
use Rattle.lint_rules.specs.declared.addresses.Access.TheVariants as access
use Rattle.lint_rules.specs.declared.file.MapPlace.{MapPlace}
use Rattle.lint_rules.specs.declared.file.MapPlace.TheVariants as map
use Rattle.lint_rules.specs.declared.moment.Moment.{Moment}
use Rattle.lint_rules.specs.declared.rule.Rule.{Rule}
use Rattle.lint_rules.specs.declared.rule.Rule.TheVariants as rule
use Rattle.lint_rules.specs.Picture.{lies, is_blank}

-- the addresses of registers, which the A side of a transfer doesn't reach
abbrev pub is_of_registers : ℕ → Bool
is_of_registers address =
    nat_lt (address / 65536 % 128) 64 && (lies 0x2100 0x21ff (address % 65536) || lies 0x4000 0x43ff (address % 65536))

abbrev pub transfer_broken : ℕ → Bool → ℕ → Option Rule
transfer_broken address is_wram port =
    if is_of_registers address then Some rule.TransferOfRegisters
    else if is_wram && port == 0x80 then Some rule.WramToWram
    else None

-- whether the bit of a weight is set in both bytes, and whether any bit is
abbrev pub share_bit : ℕ → ℕ → ℕ → Bool
share_bit a b weight = a / weight % 2 == 1 && b / weight % 2 == 1

abbrev pub shares : ℕ → ℕ → Bool
shares a b =
    share_bit a b 1 || (share_bit a b 2 || (share_bit a b 4 || (share_bit a b 8
    || (share_bit a b 16 || (share_bit a b 32 || (share_bit a b 64 || share_bit a b 128))))))

abbrev pub channel_broken : ℕ → ℕ → Option Rule
channel_broken started enabled = if shares started enabled then Some rule.DmaOnHdmaChannel else None

abbrev pub enable_broken : ℕ → ℕ → Moment → Option Rule
enable_broken before byte m = if not (is_blank m) && shares byte (255 - before) then Some rule.HdmaOnInPicture else None

abbrev pub is_memory : At → Bool
is_memory at.Wram = true
is_memory at.Rom = true
is_memory at.Ram = true
is_memory at.Register = false
is_memory at.Nothing = false

abbrev pub address_broken : Access → At → Option Rule
address_broken access.Fetch place = if is_memory place then None else Some rule.RunsOutsideMemory
address_broken access.Read at.Nothing = Some rule.OpenBus
address_broken access.Read _ = None
address_broken access.Write at.Nothing = Some rule.WriteToNothing
address_broken access.Write at.Rom = Some rule.WriteToRom
address_broken access.Write _ = None

abbrev pub opcode_broken : ℕ → Option Rule
opcode_broken opcode =
    if opcode == 0x00 then Some rule.Brk
    else if opcode == 0x02 then Some rule.Cop
    else if opcode == 0x42 then Some rule.Wdm
    else if opcode == 0xdb then Some rule.Stp
    else None

abbrev pub stack_broken : ℕ → Option Rule
stack_broken pointer = if nat_le 0x2000 pointer then Some rule.StackOutsideWram else None

-- the checksum, and its complement to FFFF
abbrev pub checksum_broken : ℕ → ℕ → ℕ → Option Rule
checksum_broken checksum complement right = if checksum == right && complement == 65535 - right then None else Some rule.Checksum

-- the size byte n stands for 2^n KiB, from 32 KiB (5) to 4 MiB (12)
abbrev pub size_holds : ℕ → ℕ → Bool
size_holds size bytes =
    if size == 5 then nat_le bytes 32768
    else if size == 6 then lies 32769 65536 bytes
    else if size == 7 then lies 65537 131072 bytes
    else if size == 8 then lies 131073 262144 bytes
    else if size == 9 then lies 262145 524288 bytes
    else if size == 10 then lies 524289 1048576 bytes
    else if size == 11 then lies 1048577 2097152 bytes
    else if size == 12 then lies 2097153 4194304 bytes
    else false

abbrev pub size_broken : ℕ → ℕ → Option Rule
size_broken size bytes = if size_holds size bytes then None else Some rule.SizeByte

-- the map bytes of the other place: 20 and 30 are LoROM, 21 and 31 HiROM
abbrev pub is_other_map : MapPlace → ℕ → Bool
is_other_map map.LoRom byte = byte == 0x21 || byte == 0x31
is_other_map map.HiRom byte = byte == 0x20 || byte == 0x30

abbrev pub map_broken : MapPlace → ℕ → Bool → Option Rule
map_broken place byte adds = if adds && is_other_map place byte then Some rule.MapByte else None

-- 3.58 MHz are turned on by bit 0 of 420D, and bit 4 of the map byte does not allow it
abbrev pub speed_broken : ℕ → ℕ → Option Rule
speed_broken map_byte written = if written % 2 == 1 && map_byte / 16 % 2 == 0 then Some rule.MapByte else None

abbrev pub reset_broken : At → Option Rule
reset_broken at.Rom = None
reset_broken _ = Some rule.ResetVector

abbrev pub interrupt_broken : At → Option Rule
interrupt_broken place = if is_memory place then None else Some rule.InterruptVector
