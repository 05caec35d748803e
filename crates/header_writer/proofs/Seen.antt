-- The checksum that a header states is that of the file with this header: bytes that are exchanged for others of the same
-- sum, within the first page, do not change it.
use Rattle.std.proofs.Common.{◌≡◌, ℕ, zero, suc, ◌+◌, ◌-◌, ◌*◌, ◌/◌, ◌%◌, ◌^◌, ◌<◌, ◌≤◌, List, [], ◌∷◌, ◌++◌, length, take, drop, arith, refl, sym, ◌∙◌, ap, append_assoc, length-append, length-drop, length-take-le}
use Rattle.std.specs.Prelude.{slice_index, nat_le, if◌then◌else◌, sum}
use Rattle.std.proofs.Math.Nat.{pow-succ'}
use Rattle.std.proofs.Math.Seq.{take-append-add, drop-append-add}
use Rattle.std.proofs.lemmas.Nat.{pow_pos}
use Rattle.std.proofs.lemmas.List.{drop-append-le, drop-take, drop-drop, take_at}
use Rattle.std.proofs.lemmas.List.Sums.{sum_by-append}
use Rattle.cart_map.specs.Accept.{image_of}
use Rattle.header_writer.specs.Checksum.{doublings, seen_sum, checksum, StatesChecksum}
use Rattle.header_writer.specs.Written.{front_of, with_bytes, with_rest, with_sums, sums}
use Rattle.header_writer.proofs.Puts.{image_is, Fits_in, put_size, put_front, byte_in}

-- a list with a part in it
abbrev pub with_part : List ℕ → List ℕ → List ℕ → List ℕ
with_part before part behind = before ++ (part ++ behind)

-- its sum, its length, and what is before and behind a place that is not before the end of the part
part_sum : (before part behind : List ℕ) → sum (with_part before part behind) ≡ sum before + (sum part + sum behind)
part_sum before part behind =
    sum_by-append (λ x. x) before (part ++ behind) ∙ ap (λ n. sum before + n) (sum_by-append (λ x. x) part behind)

part_length : (before part behind : List ℕ) → length (with_part before part behind) ≡ length before + (length part + length behind)
part_length before part behind = length-append before (part ++ behind) ∙ ap (λ n. length before + n) (length-append part behind)

take_part : (before part behind : List ℕ) (n k : ℕ) → n ≡ length before + (length part + k)
    → take n (with_part before part behind) ≡ with_part before part (take k behind)
take_part before part behind n k at =
    ap (λ m. take m (with_part before part behind)) at
    ∙ take-append-add before (part ++ behind) (length part + k) ∙ ap (λ l. before ++ l) (take-append-add part behind k)

drop_part : (before part behind : List ℕ) (n k : ℕ) → n ≡ length before + (length part + k)
    → drop n (with_part before part behind) ≡ drop k behind
drop_part before part behind n k at =
    ap (λ m. drop m (with_part before part behind)) at
    ∙ drop-append-add before (part ++ behind) (length part + k) ∙ drop-append-add part behind k

same_length : (before x y behind : List ℕ) → length x ≡ length y → length (with_part before x behind) ≡ length (with_part before y behind)
same_length before x y behind size = omega (arith, part_length before x behind, part_length before y behind)

same_sum : (before x y behind : List ℕ) → sum x ≡ sum y → sum (with_part before x behind) ≡ sum (with_part before y behind)
same_sum before x y behind same = part_sum before x behind ∙ ap (λ s. sum before + (s + sum behind)) same ∙ sym (part_sum before y behind)

-- half of a window that is doubled once more
half_window : (n window : ℕ) → 32768 * 2 ^ suc n ≤ window → 32768 * 2 ^ n ≤ window / 2
half_window n window wide = let twice = pow-succ' 2 n in omega (arith, twice, wide)

-- the sum that is seen stays if a part of the first page is exchanged for one of the same sum
pub same_seen : (n window : ℕ) (before x y behind : List ℕ) → 32768 * 2 ^ n ≤ window → length before + length x ≤ 32768 → length x ≡ length y → sum x ≡ sum y
    → seen_sum n window (with_part before x behind) ≡ seen_sum n window (with_part before y behind)
unfolding seen_sum
same_seen zero window before x y behind wide deep size same = same_sum before x y behind same
same_seen (suc n) window before x y behind wide deep size same =
    let half = window / 2 in
    let narrower : 32768 * 2 ^ n ≤ half = half_window n window wide in
    let page : 32768 ≤ half = let some = pow_pos n in omega (arith, narrower, some) in
    let k = half - (length before + length x) in
    let at_x : half ≡ length before + (length x + k) = omega (arith, page, deep) in
    let at_y : half ≡ length before + (length y + k) = omega (arith, at_x, size) in
    let old = with_part before x behind in
    let new = with_part before y behind in
    let first : sum (take half old) ≡ sum (take half new) =
    ap sum (take_part before x behind half k at_x) ∙ same_sum before x y (take k behind) same ∙ sym (ap sum (take_part before y behind half k at_y)) in
    let rest : drop half old ≡ drop half new = drop_part before x behind half k at_x ∙ sym (drop_part before y behind half k at_y) in
    ap (λ l. if nat_le l half then 2 * seen_sum n half old else sum (take half old) + seen_sum n half (drop half old)) (same_length before x y behind size)
    ∙ ap (λ s. if nat_le (length new) half then 2 * s else sum (take half old) + seen_sum n half (drop half old)) (same_seen n half before x y behind narrower deep size same)
    ∙ ap (λ s. if nat_le (length new) half then 2 * seen_sum n half new else s + seen_sum n half (drop half old)) first
    ∙ ap (λ l. if nat_le (length new) half then 2 * seen_sum n half new else sum (take half new) + seen_sum n half l) rest

same_checksum : (before x y behind : List ℕ) → length before + length x ≤ 32768 → length x ≡ length y → sum x ≡ sum y
    → checksum (with_part before x behind) ≡ checksum (with_part before y behind)
unfolding checksum
same_checksum before x y behind deep size same =
    let old = with_part before x behind in
    let new = with_part before y behind in
    let n = doublings (length old) in
    ap (λ s. s % 65536) (same_seen n (32768 * 2 ^ n) before x y behind (omega arith) deep size same)
    ∙ ap (λ l. seen_sum (doublings l) (32768 * 2 ^ doublings l) new % 65536) (same_length before x y behind size)

checksum_small : (image : List ℕ) → checksum image < 65536
unfolding checksum
checksum_small image = omega arith

-- an image after a write
image_parts : (place : ℕ) (bytes file : List ℕ) → Fits_in place bytes file
    → image_of (with_bytes place bytes file) ≡ with_part (take place (image_of file)) bytes (drop (place + length bytes) (image_of file))
image_parts place bytes file fits =
    let front = front_of file in
    let end = place + length bytes in
    let behind = drop (front + place + length bytes) file in
    let inside : front ≤ length (take (front + place) file) = omega (arith, fits, length-take-le (front + place) file (omega (arith, fits))) in
    image_is (with_bytes place bytes file)
    ∙ ap (λ n. drop n (with_bytes place bytes file)) (put_front place bytes file fits)
    ∙ drop-append-le front (take (front + place) file) (bytes ++ behind) inside
    ∙ ap (λ l. l ++ (bytes ++ behind)) (drop-take front place file)
    ∙ ap (λ n. take place (drop front file) ++ (bytes ++ drop n file)) {x = front + place + length bytes} {y = front + end} (omega arith)
    ∙ ap (λ l. take place (drop front file) ++ (bytes ++ l)) (sym (drop-drop end front file))
    ∙ ap (λ image. take place image ++ (bytes ++ drop end image)) (sym (image_is file))

-- sums and the bytes FF, FF, 00, 00 add to the same
sums_add : (c : ℕ) → c < 65536 → sum (0xff ∷ 0xff ∷ 0x00 ∷ 0x00 ∷ []) ≡ sum (sums c)
sums_add c small = omega arith

-- the sums that are written last are those of the file in which they are
pub stated : (file : List ℕ) → front_of file + 32768 ≤ length file → StatesChecksum (image_of (with_sums (with_rest file)))
stated file long =
    let rest : List ℕ = 0x01 ∷ 0x00 ∷ 0x00 ∷ 0xff ∷ 0xff ∷ 0x00 ∷ 0x00 ∷ [] in
    let fields : List ℕ = 0x01 ∷ 0x00 ∷ 0x00 ∷ [] in
    let blank : List ℕ = 0xff ∷ 0xff ∷ 0x00 ∷ 0x00 ∷ [] in
    let file2 = with_bytes 0x7fd9 rest file in
    let c = checksum (image_of file2) in
    let last : List ℕ = sums c in
    let file3 = with_bytes 0x7fdc last file2 in
    let fits2 : Fits_in 0x7fd9 rest file = omega arith in
    let fits3 : Fits_in 0x7fdc last file2 = omega (arith, put_size 0x7fd9 rest file fits2, put_front 0x7fd9 rest file fits2) in
    let size : length (image_of file) ≡ length file - front_of file = ap length (image_is file) ∙ length-drop (front_of file) file in
    let before = take 0x7fd9 (image_of file) ++ fields in
    let behind = drop 0x7fe0 (image_of file) in
    let start : length before ≡ 0x7fdc = omega (arith, length-append (take 0x7fd9 (image_of file)) fields, length-take-le 0x7fd9 (image_of file) (omega (arith, size))) in
    let shape2 : image_of file2 ≡ with_part before blank behind =
    image_parts 0x7fd9 rest file fits2 ∙ sym (append_assoc (take 0x7fd9 (image_of file)) fields (blank ++ behind)) in
    let shape3 : image_of file3 ≡ with_part before last behind =
    image_parts 0x7fdc last file2 fits3
    ∙ ap (λ image. take 0x7fdc image ++ (last ++ drop 0x7fe0 image)) shape2
    ∙ ap (λ l. l ++ (last ++ drop 0x7fe0 (with_part before blank behind))) (take_at before (blank ++ behind) 0x7fdc start)
    ∙ ap (λ l. before ++ (last ++ l)) (drop_part before blank behind 0x7fe0 0 (omega (arith, start))) in
    let small = checksum_small (image_of file2) in
    let same : checksum (image_of file3) ≡ c =
    ap checksum shape3
    ∙ sym (same_checksum before blank last behind (omega (arith, start)) refl (sums_add c small))
    ∙ sym (ap checksum shape2) in
    let b0 : slice_index (image_of file3) 0x7fdc ≡ (65535 - c) % 256 = byte_in 0x7fdc last file2 0 0x7fdc fits3 (omega arith) (omega arith) in
    let b1 : slice_index (image_of file3) 0x7fdd ≡ (65535 - c) / 256 = byte_in 0x7fdc last file2 1 0x7fdd fits3 (omega arith) (omega arith) in
    let b2 : slice_index (image_of file3) 0x7fde ≡ c % 256 = byte_in 0x7fdc last file2 2 0x7fde fits3 (omega arith) (omega arith) in
    let b3 : slice_index (image_of file3) 0x7fdf ≡ c / 256 = byte_in 0x7fdc last file2 3 0x7fdf fits3 (omega arith) (omega arith) in
    record {
      is_stated = omega (arith, b2, b3, same);
      is_complemented = omega (arith, b0, b1, same, small);
    }
