-- Lemmas on the headers in a ROM, by the bytes of its image.
use Rattle.std.proofs.Common.{◌≡◌, ℕ, ◌+◌, ◌-◌, ◌<◌, ◌≤◌, List, length, arith, sym, ◌∙◌, ap, inl, inr, length-append}
use Rattle.std.specs.Prelude.{slice_index, replicate, nat_le, ◌&&◌}
use Rattle.std.proofs.Math.ListN.{get_or-eq_default, get_or-append}
use Rattle.std.proofs.Math.Seq.{get_or-append_right}
use Rattle.std.proofs.lemmas.List.{get_or-replicate, length-replicate}
use Rattle.std.proofs.lemmas.Bool.{cases_lt, le-leb, and_right}
use Rattle.snes_defs.specs.declared.cart.MapKind.TheVariants.{LoRom, HiRom}
use Rattle.cart_map.specs.Accept.{missing, rom_of, stands, is_map_byte}

-- a list of zeros reads 0 everywhere
zeros : (n i : ℕ) → slice_index (replicate n 0) i ≡ 0
zeros n i = elim (cases_lt i n) [
  | inl inside ↦ get_or-replicate n i 0 0 inside
  | inr behind ↦
      let zero : ℕ = 0 in
      let past : length (replicate n zero) ≤ i = omega (arith, length-replicate n zero) in
      get_or-eq_default (replicate n zero) zero past
]

-- a byte of a ROM is that of its image, and 0 behind it
pub rom_byte : (image : List ℕ) (i : ℕ) → slice_index (rom_of image) i ≡ slice_index image i
unfolding rom_of
rom_byte image i = elim (cases_lt i (length image)) [
  | inl inside ↦ get_or-append image (replicate (missing (length image)) 0) 0 i inside
  | inr behind ↦
      get_or-append_right image (replicate (missing (length image)) 0) i 0 behind
      ∙ zeros (missing (length image)) (i - length image)
      ∙ sym (get_or-eq_default image 0 behind)
]

-- a ROM has the bytes of its image, and those that it lacks to whole pages
rom_length : (image : List ℕ) → length (rom_of image) ≡ length image + missing (length image)
unfolding rom_of
rom_length image =
    length-append image (replicate (missing (length image)) 0)
    ∙ ap (λ n. length image + n) (length-replicate (missing (length image)) 0)

-- whether a LoROM header is in a ROM
pub lorom_stands : (image : List ℕ) → stands LoRom (rom_of image) ≡ is_map_byte LoRom (slice_index image 0x7fd5)
lorom_stands image = ap (λ byte. is_map_byte LoRom byte) (rom_byte image 0x7fd5)

-- more than 65,493 bytes are filled to two pages at least
two_pages : (size : ℕ) → 65493 < size → 65536 ≤ size + missing size
two_pages size more = omega arith

-- whether a HiROM header is in a ROM: a shorter ROM has none
pub hirom_stands : (image : List ℕ) → stands HiRom (rom_of image) ≡ is_map_byte HiRom (slice_index image 0xffd5)
hirom_stands image = elim (cases_lt 65493 (length image)) [
  | inl inside ↦
      let long : 65536 ≤ length (rom_of image) = omega (arith, rom_length image, two_pages (length image) inside) in
      ap (λ b. b && is_map_byte HiRom (slice_index (rom_of image) 0xffd5)) (le-leb 65536 (length (rom_of image)) long)
      ∙ ap (λ byte. is_map_byte HiRom byte) (rom_byte image 0xffd5)
  | inr behind ↦
      let none : slice_index image 0xffd5 ≡ 0 = get_or-eq_default image 0 behind in
      and_right (nat_le 65536 (length (rom_of image))) (is_map_byte HiRom (slice_index (rom_of image) 0xffd5))
      (ap (λ byte. is_map_byte HiRom byte) (rom_byte image 0xffd5 ∙ none))
      ∙ sym (ap (λ byte. is_map_byte HiRom byte) none)
]
