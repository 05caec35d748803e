-- Where in the memory the byte at an address lies, and how long an access there lasts.
use Rattle.std.specs.Prelude.{◌≡◌, ℕ, ◌+◌, ◌*◌, ◌<◌, ◌≤◌, ◌%◌, nat_lt, nat_le, slice_set, if◌then◌else◌, Bool}
use Rattle.std.specs.Prelude.{Option, Some, None, List, length, slice_index_or}
use Rattle.cart_map.specs.declared.places.Place.{Place}
use Rattle.cart_map.specs.declared.places.Place.TheVariants.{Wram, Rom, Ram, BBus, Cpu, Open}
use Rattle.cart_map.specs.Place.{IsInside}
use Rattle.cart_map.specs.Clocks.{clocks_of}
use Rattle.console_bus.specs.declared.cart_board.CartBoard.{CartBoard}
use Rattle.console_bus.specs.declared.address_map.Page.{Page}
use Rattle.console_bus.specs.Places.{place_at}
use Rattle.console_bus.specs.BusState.{BusState}

-- the byte of the memory that lies at a place: of work RAM, of the cartridge's RAM behind it, or of the ROM behind both
abbrev pub index_of : CartBoard → Place → Option ℕ
index_of board (Wram i) = Some i
index_of board (Ram i) = Some (131072 + i)
index_of board (Rom i) = Some (131072 + board.ram + i)
index_of board (BBus register) = None
index_of board (Cpu register) = None
index_of board Open = None

-- a write of a byte of the memory, of which ROM stays as it is
abbrev pub stored : BusState → ℕ → ℕ → BusState
stored r at v = if nat_lt at (131072 + r.board.ram) then (record r { memory = slice_set r.memory at v }) else r

-- the memory of a place has a page of 8 KiB from there on, and is made of whole pages
abbrev pub IsWhole : CartBoard → Place → Type 0
IsWhole board (Wram i) = i + 8192 ≤ 131072
IsWhole board (Ram i) = (board.ram % 8192 ≡ 0) × (i + 8192 ≤ board.ram)
IsWhole board (Rom i) = (board.rom % 8192 ≡ 0) × (i + 8192 ≤ board.rom)
IsWhole board (BBus register) = Unit {0}
IsWhole board (Cpu register) = Unit {0}
IsWhole board Open = Unit {0}

-- at an address lies this byte of the memory, and an access there lasts so many clocks; `fast` is bit 0 of MEMSEL
pub record IsMemoryAt (board : CartBoard) (fast : Bool) (addr at clocks : ℕ) : Type 0 where
  pub place : index_of board (place_at board addr) ≡ Some at
  pub lasts : clocks ≡ clocks_of addr fast
  pub few : clocks < 256
  pub lies : IsInside board.rom board.ram (place_at board addr)
  pub inside : at < 131072 + board.ram + board.rom

-- from an address on lie the bytes of the memory from this one on, at the same clocks, as far as its page of 8 KiB goes
pub record IsStretch (board : CartBoard) (fast : Bool) (addr at clocks : ℕ) : Type 0 where
  pub bytes : (k : ℕ) → addr % 8192 + k < 8192 → IsMemoryAt board fast (addr + k) (at + k) clocks

-- the map as contracts see it: the cartridge's board, and whether ROM is fast
pub record MapState : Type 0 where
  pub board : CartBoard
  pub fast : Bool

-- the addresses of a page of 8 KiB are memory, one byte after another, where its clocks are fewer than those of a page
-- that is none
abbrev pub IsPageOf : CartBoard → Bool → ℕ → Page → Type 0
IsPageOf board fast number page = page.clocks < 2000
    → (o : ℕ) → o < 8192 → IsMemoryAt board fast (8192 * number + o) (page.at + o) page.clocks

-- the first 2,048 pages are those of slow ROM, in the order of their addresses, and the others those of fast ROM
abbrev pub ArePages : CartBoard → List Page → Type 0
ArePages board pages = (number : ℕ) (d : Page) → number < length pages
    → IsPageOf board (nat_le 2048 number) (number % 2048) (slice_index_or pages number d)

-- all pages are there, and those of the speed of now begin at `first`, which is 0 or 2048
pub record HasPages (board : CartBoard) (pages : List Page) (first : ℕ) : Type 0 where
  pub count : length pages ≡ 4096
  pub are : ArePages board pages
  pub whole : first % 2048 ≡ 0
  pub few : first ≤ 2048
