-- Where the words of each side lie in the table, and what an entry word holds. This project's own profile.
use Rattle.std.specs.Prelude.{ℕ, ◌+◌, ◌*◌, ◌^◌, ◌/◌, ◌%◌, ◌<◌, nat_lt, if◌then◌else◌}
use Rattle.snes_defs.specs.declared.ports.Side.{Side}
use Rattle.snes_defs.specs.declared.ports.Side.TheVariants.{Console, Sound}
use Rattle.port_entries.specs.Entry.{Entry, WriteAt, ClearAt}

-- the first word of a side: its clock. Its count and its entries follow, each on cache lines of its own
abbrev pub first_word : Side → ℕ
first_word Console = 0
first_word Sound = 8224

-- how many words there are
abbrev pub all_words : ℕ
all_words = 16448

-- how many entry words a side has
abbrev pub ring : ℕ
ring = 8192

-- the word in which a side publishes its clock
abbrev pub clock_word : Side → ℕ
clock_word side = first_word side

-- the word that counts its writes
abbrev pub count_word : Side → ℕ
count_word side = first_word side + 16

-- the word that its write of a number goes to, the first one being number 0
abbrev pub entry_word : Side → ℕ → ℕ
entry_word side k = first_word side + 32 + k % ring

-- whose words these are
abbrev pub owner_of : ℕ → Side
owner_of word = if nat_lt word 8224 then Console else Sound

-- what an entry word holds of a write: its stamp above ten bits for the port and the byte
abbrev pub entry_number : Entry → ℕ
entry_number (WriteAt at port byte) = at * 1024 + port * 256 + byte
entry_number (ClearAt at mask) = 0

-- the write that an entry word holds
abbrev pub entry_in : ℕ → Entry
entry_in n = WriteAt (n / 1024) (n / 256 % 4) (n % 256)

-- stamps below this fit an entry word
abbrev pub end_of_stamps : ℕ
end_of_stamps = 2 ^ 52

-- a write that fits an entry word. A clear stands in none
abbrev pub FitsWord : Entry → Type 0
FitsWord (WriteAt at port byte) = (at < end_of_stamps) × (port < 4) × (byte < 256)
FitsWord (ClearAt at mask) = Unit {0}
