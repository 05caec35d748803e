-- The image of a number is a cartridge: LoROM without RAM, and whole pages, so that nothing is filled up.
use Rattle.std.proofs.Common.{◌≡◌, ℕ, Bool, true, false, not, ◌&&◌, if◌then◌else◌, List, ◌++◌, replicate, slice_index, Some, None, Ok, refl, sym, ap, ◌∙◌, arith}
use Rattle.std.proofs.lemmas.List.{append-nil}
use Rattle.snes_defs.specs.declared.cart.Cart.{Cart}
use Rattle.snes_defs.specs.declared.cart.MapKind.TheVariants.{LoRom, HiRom}
use Rattle.cart_map.specs.Accept.{image_of, missing, rom_of, is_map_byte, sums_add, stands, chosen, judged, verdict}
use Rattle.demo_files.specs.Image.{head_of, header}
use Rattle.snes_commands.specs.Kinds.{IsCartIn}
use Rattle.snes_commands.specs.Make.{IsImage}

-- where LoROM's header stands and its sums add, LoROM is chosen, whatever stands at HiROM's place
choice : (hi sums : Bool) → (if hi then (if true && not (sums && not true) then Some LoRom else Some HiRom) else (if true then Some LoRom else None)) ≡ Some LoRom
choice true true = refl
choice true false = refl
choice false true = refl
choice false false = refl

module _ (number : ℕ) (image : List ℕ) (h : IsImage number image) where
  -- the bytes of the header that say what the cartridge is
  map : slice_index image 0x7fd5 ≡ 0x20
  unfolding head_of header
  map = h.bytes_are 0x7fd5 (omega arith)

  chip : slice_index image 0x7fd6 ≡ 0
  unfolding head_of header
  chip = h.bytes_are 0x7fd6 (omega arith)

  ram_size : slice_index image 0x7fd8 ≡ 0
  unfolding head_of header
  ram_size = h.bytes_are 0x7fd8 (omega arith)

  complement_low : slice_index image 0x7fdc ≡ 0xff
  unfolding head_of header
  complement_low = h.bytes_are 0x7fdc (omega arith)

  complement_high : slice_index image 0x7fdd ≡ 0xff
  unfolding head_of header
  complement_high = h.bytes_are 0x7fdd (omega arith)

  checksum_low : slice_index image 0x7fde ≡ 0
  unfolding head_of header
  checksum_low = h.bytes_are 0x7fde (omega arith)

  checksum_high : slice_index image 0x7fdf ≡ 0
  unfolding head_of header
  checksum_high = h.bytes_are 0x7fdf (omega arith)

  stands_low : stands LoRom image ≡ true
  stands_low = ap (is_map_byte LoRom) map

  adds : sums_add image 0x7fc0 ≡ true
  adds = rw (complement_low, complement_high, checksum_low, checksum_high) refl

  is_chosen : chosen image ≡ Some LoRom
  is_chosen = rw (stands_low, adds) (choice (stands HiRom image) (sums_add image 0xffc0))

  is_judged : judged image ≡ Ok (record { map = LoRom; ram = 0 })
  unfolding judged
  is_judged = rw (is_chosen, chip, ram_size) refl

  -- the image lacks no front and no end
  no_front : image_of image ≡ image
  unfolding image_of
  no_front = rw h.size refl

  no_end : rom_of image ≡ image
  unfolding rom_of
  no_end = ap (λ n. image ++ replicate (missing n) 0) h.size ∙ append-nil image

  is_accepted : verdict image ≡ Ok (record { map = LoRom; ram = 0 })
  is_accepted = rw (no_front, h.size, no_end) is_judged

  pub image_is_cartridge : (cart : Cart) → cart.map ≡ LoRom → cart.rom ≡ image → cart.ram ≡ 0 → IsCartIn image cart
  image_is_cartridge cart is_low whole none = record {
    header = rw (is_low, none) is_accepted;
    rom = whole ∙ sym (ap rom_of no_front ∙ no_end);
  }
