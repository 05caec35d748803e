-- A file into which a header was written is a cartridge.
use Rattle.std.proofs.Common.{◌≡◌, ℕ, ◌+◌, ◌-◌, ◌%◌, ◌≤◌, Bool, true, false, List, [], ◌∷◌, length, arith, refl, sym, ◌∙◌, ap, inl, inr, length-drop, Some, None, Ok, Err}
use Rattle.std.specs.Prelude.{slice_index, nat_lt, nat_eq, if◌then◌else◌, ◌||◌}
use Rattle.std.proofs.lemmas.Bool.{ltb-false, le-ltb}
use Rattle.snes_defs.specs.declared.cart.MapKind.TheVariants.{LoRom, HiRom}
use Rattle.cart_map.specs.declared.refused.CartRefused.TheVariants.{NoHeader}
use Rattle.cart_map.specs.Accept.{image_of, rom_of, stands, is_map_byte, judged, verdict}
use Rattle.header_writer.specs.declared.refused.HeaderRefused.TheVariants.{TooShort, TooLong, HasHeader, Reset}
use Rattle.header_writer.specs.Refusal.{has_header, refusal}
use Rattle.header_writer.specs.Checksum.{size_byte, checksum, StatesChecksum}
use Rattle.header_writer.specs.Written.{front_of, with_bytes, with_kind, with_header, sums}
use Rattle.header_writer.proofs.Puts.{image_is, Fits_in, put_size, put_front, byte_in, byte_outside}
use Rattle.header_writer.proofs.Seen.{stated}
use Rattle.header_writer.proofs.Stands.{rom_byte, lorom_stands, hirom_stands}

-- an image that is not refused
pub record Taken (image : List ℕ) : Type 0 where
  pub long : 32768 ≤ length image
  pub short : length image ≤ 4194304
  pub none : has_header (rom_of image) ≡ false

-- what is known of an image that is not refused
taken_by : (image : List ℕ) (a b c d : Bool) (byte : ℕ) → nat_lt (length image) 32768 ≡ a → nat_lt 4194304 (length image) ≡ b → has_header (rom_of image) ≡ c
    → (if a then Some TooShort else (if b then Some TooLong else (if c then Some HasHeader else (if d then Some (Reset byte) else None)))) ≡ None → Taken image
taken_by image true b c d byte ha hb hc h = absurd (cc)
taken_by image false true c d byte ha hb hc h = absurd (cc)
taken_by image false false true d byte ha hb hc h = absurd (cc)
taken_by image false false false d byte ha hb hc h = record { long = ltb-false (length image) 32768 ha; short = ltb-false 4194304 (length image) hb; none = hc }

pub taken : (image : List ℕ) → refusal image ≡ None → Taken image
unfolding refusal
taken image h =
    taken_by image (nat_lt (length image) 32768) (nat_lt 4194304 (length image)) (has_header (rom_of image)) (nat_lt (slice_index image 0x7ffd) 0x80) (slice_index image 0x7ffd) refl refl refl h

-- such an image has room for a header in its file
pub room : (file : List ℕ) → Taken (image_of file) → front_of file + 32768 ≤ length file
room file h =
    let size : length (image_of file) ≡ length file - front_of file = ap length (image_is file) ∙ length-drop (front_of file) file in
    let long = h.long in
    omega (arith, size, long)

-- two tests of which neither holds
both_false : (a b : Bool) → (a || b) ≡ false → (a ≡ false) × (b ≡ false)
both_false true b h = absurd (cc)
both_false false b h = (refl, h)

-- the verdict on a file whose image has a right length
right_length : (file : List ℕ) → 32768 ≤ length (image_of file) → length (image_of file) ≤ 4194304 → verdict file ≡ judged (rom_of (image_of file))
right_length file long short =
    rw (le-ltb (length (image_of file)) 32768 long, le-ltb 4194304 (length (image_of file)) short) refl

-- the verdict on a ROM without a header
judged_none : (rom : List ℕ) → stands LoRom rom ≡ false → stands HiRom rom ≡ false → judged rom ≡ Err NoHeader
unfolding judged
judged_none rom lorom hirom = rw (hirom, lorom) refl

-- a file that is not refused had no header
pub lacked : (file : List ℕ) → Taken (image_of file) → verdict file ≡ Err NoHeader
lacked file h =
    let none = both_false (stands LoRom (rom_of (image_of file))) (stands HiRom (rom_of (image_of file))) h.none in
    right_length file h.long h.short ∙ judged_none (rom_of (image_of file)) none.0 none.1

-- the verdict on a ROM with a LoROM header alone, which asks for nothing
judged_lorom : (rom : List ℕ) → stands LoRom rom ≡ true → stands HiRom rom ≡ false → slice_index rom 0x7fd6 ≡ 0 → slice_index rom 0x7fd8 ≡ 0
    → judged rom ≡ Ok (record { map = LoRom; ram = 0 })
unfolding judged
judged_lorom rom lorom hirom chips ram = rw (hirom, lorom, chips, ram) refl

-- what is known of a file after a header was written, whole or in part
pub record HasKind (old new : List ℕ) : Type 0 where
  pub size : length new ≡ length old
  pub map : slice_index (image_of new) 0x7fd5 ≡ 0x20
  pub chips : slice_index (image_of new) 0x7fd6 ≡ 0
  pub ram : slice_index (image_of new) 0x7fd8 ≡ 0
  pub high : slice_index (image_of new) 0xffd5 ≡ slice_index (image_of old) 0xffd5

-- an image is as long as another if their files are
same_image_size : (old new : List ℕ) → length new ≡ length old → length (image_of new) ≡ length (image_of old)
same_image_size old new size =
    ap length (image_is new) ∙ length-drop (front_of new) new
    ∙ ap (λ n. n - (if nat_eq (n % 1024) 512 then 512 else 0)) size
    ∙ sym (ap length (image_is old) ∙ length-drop (front_of old) old)

-- then it is a cartridge
pub accepted : (old new : List ℕ) → Taken (image_of old) → HasKind old new → verdict new ≡ Ok (record { map = LoRom; ram = 0 })
accepted old new h k =
    let image = image_of new in
    let same = same_image_size old new k.size in
    let none = both_false (stands LoRom (rom_of (image_of old))) (stands HiRom (rom_of (image_of old))) h.none in
    let long : 32768 ≤ length image = omega (arith, same, h.long) in
    let short : length image ≤ 4194304 = omega (arith, same, h.short) in
    right_length new long short
    ∙ judged_lorom (rom_of image)
    (lorom_stands image ∙ ap (λ byte. is_map_byte LoRom byte) k.map)
    (hirom_stands image ∙ ap (λ byte. is_map_byte HiRom byte) k.high ∙ sym (hirom_stands (image_of old)) ∙ none.1)
    (rom_byte image 0x7fd6 ∙ k.chips)
    (rom_byte image 0x7fd8 ∙ k.ram)

-- the four bytes make it so
pub kind_put : (file : List ℕ) → front_of file + 32768 ≤ length file → HasKind file (with_kind file)
kind_put file long =
    let bytes : List ℕ = 0x20 ∷ 0x00 ∷ size_byte (length (image_of file)) ∷ 0x00 ∷ [] in
    let fits : Fits_in 0x7fd5 bytes file = omega arith in
    record {
      size = put_size 0x7fd5 bytes file fits;
      map = byte_in 0x7fd5 bytes file 0 0x7fd5 fits (omega arith) (omega arith);
      chips = byte_in 0x7fd5 bytes file 1 0x7fd6 fits (omega arith) (omega arith);
      ram = byte_in 0x7fd5 bytes file 3 0x7fd8 fits (omega arith) (omega arith);
      high = byte_outside 0x7fd5 bytes file 0xffd5 fits (inr (omega arith));
    }

-- what is written behind them within the header does not change it
pub kind_stays : (old file : List ℕ) (place : ℕ) (bytes : List ℕ) → HasKind old file → 0x7fd9 ≤ place → place + length bytes ≤ 0x8000
    → Fits_in place bytes file → HasKind old (with_bytes place bytes file)
kind_stays old file place bytes k behind within fits = record {
  size = put_size place bytes file fits ∙ k.size;
  map = byte_outside place bytes file 0x7fd5 fits (inl (omega arith)) ∙ k.map;
  chips = byte_outside place bytes file 0x7fd6 fits (inl (omega arith)) ∙ k.chips;
  ram = byte_outside place bytes file 0x7fd8 fits (inl (omega arith)) ∙ k.ram;
  high = byte_outside place bytes file 0xffd5 fits (inr (omega arith)) ∙ k.high;
}

-- nor does a title in front of them
title_put : (old file title : List ℕ) → length title ≡ 21 → Fits_in 0x7fc0 title old → HasKind (with_bytes 0x7fc0 title old) file → HasKind old file
title_put old file title size fits k = record {
  size = k.size ∙ put_size 0x7fc0 title old fits;
  map = k.map;
  chips = k.chips;
  ram = k.ram;
  high = k.high ∙ byte_outside 0x7fc0 title old 0xffd5 fits (inr (omega arith));
}

-- a file has room for a header after a write as before
room_stays : (place : ℕ) (bytes file : List ℕ) → Fits_in place bytes file → front_of file + 32768 ≤ length file
    → front_of (with_bytes place bytes file) + 32768 ≤ length (with_bytes place bytes file)
room_stays place bytes file fits long = omega (arith, put_size place bytes file fits, put_front place bytes file fits)

-- a whole header
pub header_put : (title old : List ℕ) → length title ≡ 21 → front_of old + 32768 ≤ length old → HasKind old (with_header title old)
header_put title old size long =
    let titled = with_bytes 0x7fc0 title old in
    let kind : List ℕ = 0x20 ∷ 0x00 ∷ size_byte (length (image_of titled)) ∷ 0x00 ∷ [] in
    let rest : List ℕ = 0x01 ∷ 0x00 ∷ 0x00 ∷ 0xff ∷ 0xff ∷ 0x00 ∷ 0x00 ∷ [] in
    let file1 = with_bytes 0x7fd5 kind titled in
    let file2 = with_bytes 0x7fd9 rest file1 in
    let last : List ℕ = sums (checksum (image_of file2)) in
    let fits0 : Fits_in 0x7fc0 title old = omega arith in
    let long0 = room_stays 0x7fc0 title old fits0 long in
    let fits1 : Fits_in 0x7fd5 kind titled = omega arith in
    let long1 = room_stays 0x7fd5 kind titled fits1 long0 in
    let fits2 : Fits_in 0x7fd9 rest file1 = omega arith in
    let long2 = room_stays 0x7fd9 rest file1 fits2 long1 in
    let fits3 : Fits_in 0x7fdc last file2 = omega arith in
    title_put old (with_header title old) title size fits0
    (kind_stays titled file2 0x7fdc last
    (kind_stays titled file1 0x7fd9 rest (kind_put titled long0) (omega arith) (omega arith) fits2)
    (omega arith) (omega arith) fits3)

-- and it states its checksum
pub header_stated : (title old : List ℕ) → length title ≡ 21 → front_of old + 32768 ≤ length old → StatesChecksum (image_of (with_header title old))
header_stated title old size long =
    let titled = with_bytes 0x7fc0 title old in
    let kind : List ℕ = 0x20 ∷ 0x00 ∷ size_byte (length (image_of titled)) ∷ 0x00 ∷ [] in
    let fits0 : Fits_in 0x7fc0 title old = omega arith in
    let long0 = room_stays 0x7fc0 title old fits0 long in
    let fits1 : Fits_in 0x7fd5 kind titled = omega arith in
    stated (with_kind titled) (room_stays 0x7fd5 kind titled fits1 long0)
