-- The checksum and the size in a header: those of fullsnes, "SNES Cartridge ROM Header".
use Rattle.std.specs.Prelude.{◌≡◌, ℕ, zero, suc, ◌+◌, ◌-◌, ◌*◌, ◌/◌, ◌%◌, ◌^◌, nat_le, if◌then◌else◌}
use Rattle.std.specs.Prelude.{List, length, take, drop, sum}
use Rattle.cart_map.specs.Accept.{word_at}

-- how often 32 KiB are doubled until an image fits in
unfoldable pub doublings : ℕ → ℕ
doublings size =
    if nat_le size 0x8000 then 0
    else (if nat_le size 0x10000 then 1
    else (if nat_le size 0x20000 then 2
    else (if nat_le size 0x40000 then 3
    else (if nat_le size 0x80000 then 4
    else (if nat_le size 0x100000 then 5
    else (if nat_le size 0x200000 then 6
    else 7))))))

-- the ROM size byte n: the least of 5 to 12 for which an image fits into 2^n KiB
abbrev pub size_byte : ℕ → ℕ
size_byte size = 5 + doublings size

-- The sum of all bytes that are seen through a window of 32 KiB, doubled so many times. An image that half of the
-- window has room for is seen twice. Else the first half shows as much of the image as it has room for, and the rest
-- is seen through the second half.
unfoldable pub seen_sum : ℕ → ℕ → List ℕ → ℕ
seen_sum zero window bytes = sum bytes
seen_sum (suc doubled) window bytes =
    if nat_le (length bytes) (window / 2) then 2 * seen_sum doubled (window / 2) bytes
    else sum (take (window / 2) bytes) + seen_sum doubled (window / 2) (drop (window / 2) bytes)

-- the checksum of an image: the sum of what is seen of it through the smallest window that has room for it
unfoldable pub checksum : List ℕ → ℕ
checksum image =
    let doubled = doublings (length image) in
    seen_sum doubled (32768 * 2 ^ doubled) image % 65536

-- an image whose header, at 7FC0, states its checksum and the complement of it
pub record StatesChecksum (image : List ℕ) : Type 0 where
  pub is_stated : word_at image 0x7fde ≡ checksum image
  pub is_complemented : word_at image 0x7fdc ≡ 65535 - checksum image
