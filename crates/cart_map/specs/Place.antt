-- What lies at each of the 2^24 addresses. Source: fullsnes, "SNES Memory Map"; which of the cartridge's banks show its RAM
-- is this project's own profile.
use Rattle.std.specs.Prelude.{ℕ, ◌+◌, ◌*◌, ◌/◌, ◌%◌, ◌<◌, Bool, nat_le, nat_lt, nat_eq, ◌||◌, ◌&&◌, if◌then◌else◌, length}
use Rattle.snes_defs.specs.declared.cart.Cart.{Cart}
use Rattle.snes_defs.specs.declared.cart.MapKind.{MapKind}
use Rattle.snes_defs.specs.declared.cart.MapKind.TheVariants.{LoRom, HiRom}
use Rattle.cart_map.specs.Fold.{fold}
use Rattle.cart_map.specs.declared.places.Place.{Place}
use Rattle.cart_map.specs.declared.places.Place.TheVariants.{Wram, Rom, Ram, BBus, Cpu, Open}

-- whether a number lies from a first to a last one
abbrev pub lies : ℕ → ℕ → ℕ → Bool
lies first last n = nat_le first n && nat_le n last

-- the offsets at which the processor's chip has registers
abbrev pub is_cpu_register : ℕ → Bool
is_cpu_register offset = lies 0x4016 0x4017 offset || (lies 0x4200 0x421f offset || lies 0x4300 0x437f offset)

-- the banks whose lower half has the console's own places: 00 to 3F and 80 to BF
abbrev pub is_system_bank : ℕ → Bool
is_system_bank bank = lies 0 0x3f bank || lies 0x80 0xbf bank

-- what lies at an offset below 6000 of those banks
abbrev pub system_place_of : ℕ → Place
system_place_of offset =
    if lies 0 0x1fff offset then Wram offset
    else (if lies 0x2100 0x21ff offset then BBus (offset % 256)
    else (if is_cpu_register offset then Cpu offset
    else Open))

-- a byte of the cartridge's RAM, which is seen over and over
abbrev pub ram_place_of : ℕ → ℕ → Place
ram_place_of ram index = if nat_eq ram 0 then Open else Ram (index % ram)

-- LoROM: ROM in the upper half of each bank, RAM in the lower half of banks 70 to 7D and F0 to FF
abbrev pub lorom_place_of : ℕ → ℕ → ℕ → ℕ → Place
lorom_place_of rom ram bank offset =
    if lies 0x8000 0xffff offset then Rom (fold rom (bank % 128 * 0x8000 + offset % 0x8000))
    else (if lies 0x70 0x7d bank || lies 0xf0 0xff bank then ram_place_of ram (bank % 16 * 0x8000 + offset)
    else Open)

-- HiROM: ROM in the whole of banks 40 to 7D and C0 to FF and in the upper half of the system's banks, RAM at 6000 to 7FFF of
-- banks 20 to 3F and A0 to BF
abbrev pub hirom_place_of : ℕ → ℕ → ℕ → ℕ → Place
hirom_place_of rom ram bank offset =
    if lies 0x40 0x7d bank || (lies 0xc0 0xff bank || lies 0x8000 0xffff offset) then Rom (fold rom (bank % 64 * 0x10000 + offset))
    else (if (lies 0x20 0x3f bank || lies 0xa0 0xbf bank) && lies 0x6000 0x7fff offset then ram_place_of ram (bank % 32 * 0x2000 + offset % 0x2000)
    else Open)

-- what the cartridge shows at an offset of a bank, where the console has nothing of its own
abbrev pub cart_place_of : MapKind → ℕ → ℕ → ℕ → ℕ → Place
cart_place_of LoRom rom ram bank offset = lorom_place_of rom ram bank offset
cart_place_of HiRom rom ram bank offset = hirom_place_of rom ram bank offset

-- what lies at an offset of a bank, with so many bytes of ROM and of RAM: work RAM in banks 7E and 7F, the console's own
-- places at 0000 to 5FFF of the system's banks, and the cartridge elsewhere
abbrev pub bank_place_of : MapKind → ℕ → ℕ → ℕ → ℕ → Place
bank_place_of map rom ram bank offset =
    if lies 0x7e 0x7f bank then Wram (bank % 2 * 0x10000 + offset)
    else (if is_system_bank bank && lies 0 0x5fff offset then system_place_of offset
    else cart_place_of map rom ram bank offset)

-- what lies at a 24-bit address of a console with this cartridge
abbrev pub place_of : Cart → ℕ → Place
place_of cart addr = bank_place_of cart.map (length cart.rom) cart.ram (addr / 0x10000) (addr % 0x10000)

-- the index of a place lies inside its memory: 128 KiB of work RAM, so many bytes of ROM and of RAM
abbrev pub IsInside : ℕ → ℕ → Place → Type 0
IsInside rom ram (Wram i) = i < 131072
IsInside rom ram (Rom i) = i < rom
IsInside rom ram (Ram i) = i < ram
IsInside rom ram (BBus register) = register < 256
IsInside rom ram (Cpu register) = register < 65536
IsInside rom ram Open = Unit {0}
