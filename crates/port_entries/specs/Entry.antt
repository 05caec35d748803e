-- The entries of a side's list: each write and each clear that it made, in order. What a write writes
-- is a byte: lists of which that holds `CarryBytes`. This project's own profile.
use Rattle.std.specs.Prelude.{ℕ, ◌^◌, ◌/◌, ◌%◌, ◌<◌, ◌==◌, Bool, List}
use Rattle.std.specs.List.{AllByRecursion}

-- a write of a byte to the outgoing port, or a clear of the own incoming ports of a mask, each at
-- the stamp of its step
pub data Entry : Type 0 where
  WriteAt : (at port byte : ℕ) → Entry
  ClearAt : (at mask : ℕ) → Entry

abbrev pub entry_stamp : Entry → ℕ
entry_stamp (WriteAt at port byte) = at
entry_stamp (ClearAt at mask) = at

-- what a write writes is a byte
abbrev pub CarriesByte : Entry → Type 0
CarriesByte (WriteAt at port byte) = byte < 256
CarriesByte (ClearAt at mask) = Unit {0}

abbrev pub CarryBytes : List Entry → Type 0
CarryBytes entries = AllByRecursion CarriesByte entries

-- bit p of a mask stands for port p
abbrev pub covers : ℕ → ℕ → Bool
covers mask port = mask / 2 ^ port % 2 == 1
