-- The bytes of a page of 8 KiB of addresses lie one after another.
use Rattle.std.proofs.Common.{◌≡◌, ℕ, zero, suc, ◌+◌, ◌-◌, ◌*◌, ◌/◌, ◌%◌, ◌^◌, ◌<◌, ◌≤◌, Bool, true, false, ◌&&◌, ◌||◌, IsTrue, nat_le, nat_lt, nat_eq, slice_index_or, length-append, ⊎_elim, Some, None, List, [], ◌∷◌, ◌++◌, length, refl, sym, ap, subst, ◌∙◌, arith, if◌then◌else◌}
use Rattle.std.proofs.lemmas.Bool.Decides.{nat_tests}
use Rattle.std.proofs.Math.Nat.{pow-succ', mod-eq_of_lt, mul-add-mod_self_left, div-add-mod, mod-mod_of_dvd, mod-lt}
use Rattle.std.proofs.lemmas.Bool.{cases_lt}
use Rattle.std.proofs.Math.ListN.{get_or-append}
use Rattle.std.proofs.Math.Seq.{get_or-append_seam}
use Rattle.std.proofs.lemmas.Nat.Gcd.{dvd_of_mod-eq-zero}
use Rattle.cart_map.specs.declared.places.Place.{Place}
use Rattle.cart_map.specs.declared.places.Place.TheVariants.{Wram, Rom, Ram, Open}
use Rattle.snes_defs.specs.declared.cart.MapKind.{MapKind}
use Rattle.snes_defs.specs.declared.cart.MapKind.TheVariants.{LoRom, HiRom}
use Rattle.cart_map.specs.Fold.{fold, fold_below}
use Rattle.cart_map.specs.Clocks.{clocks_of, system_clocks, is_fast_bank}
use Rattle.cart_map.specs.Place.{IsInside, lies, is_cpu_register, is_system_bank, system_place_of, ram_place_of, lorom_place_of, hirom_place_of, cart_place_of, bank_place_of}
use Rattle.console_bus.specs.declared.cart_board.CartBoard.{CartBoard}
use Rattle.console_bus.specs.Places.{place_at}
use Rattle.console_bus.specs.declared.address_map.Page.{Page}
use Rattle.console_bus.specs.Memory.{index_of, IsWhole, IsPageOf, ArePages}

-- ---- a ROM of whole pages keeps its pages whole

-- one step of the folding, by what its two inner foldings give
abbrev step : ℕ → ℕ → ℕ → ℕ → ℕ → ℕ
step size half offset seen rest =
    if nat_le size half then seen
    else (if nat_eq size (2 * half) || nat_lt offset half then offset
    else half + rest)

-- offsets that a ROM covers are seen as they are
covered_step : (size half offset seen rest : ℕ) → 0 < half → 2 * half ≤ size → (half ≤ offset → rest ≡ offset - half) → step size half offset seen rest ≡ offset
covered_step size half offset seen rest some big h = grind (arith, nat_tests)

power_some : (bits : ℕ) → 0 < 2 ^ bits
power_some zero = omega arith
power_some (suc bits) = omega (arith, pow-succ' 2 bits, power_some bits)

covered : (bits size offset : ℕ) → 2 ^ bits ≤ size → offset < 2 ^ bits → fold_below bits size offset ≡ offset
unfolding fold_below
covered zero size offset big below = omega arith
covered (suc bits) size offset big below =
    let two = pow-succ' 2 bits in
    covered_step size (2 ^ bits) offset _ _ (power_some bits) (omega arith) (λ over. covered bits (size - 2 ^ bits) (offset - 2 ^ bits) (omega arith) (omega arith))

-- a step at an offset of a page, by the same at the page's first
page_step : (size half x o seen seen' rest rest' : ℕ) → seen' ≡ seen + o → (half < size → half ≤ x → rest' ≡ rest + o) → half % 8192 ≡ 0 → x % 8192 ≡ 0 → o < 8192
    → step size half (x + o) seen' rest' ≡ step size half x seen rest + o
page_step size half x o seen seen' rest rest' es er whole first within = grind (arith, nat_tests)

-- so many pages are 2^(13 + k) bytes
power_whole : (k : ℕ) → 2 ^ (13 + k) % 8192 ≡ 0
power_whole zero = refl
power_whole (suc k) =
    let more : 13 + suc k ≡ suc (13 + k) = omega arith in
    let two = pow-succ' 2 (13 + k) in
    let before = power_whole k in
    rw (more, two) (omega arith)

-- ---- the rest of a division by whole pages

pub rest_in_page : (m x o : ℕ) → 0 < m → m % 8192 ≡ 0 → x % 8192 ≡ 0 → o < 8192 → (x + o) % m ≡ x % m + o
rest_in_page m x o some whole first within =
    let r : x % m % 8192 ≡ x % 8192 = mod-mod_of_dvd 8192 x (dvd_of_mod-eq-zero 8192 whole) in
    let below : x % m < m = mod-lt x some in
    let sum : x + o ≡ m * (x / m) + (x % m + o) = omega (arith, div-add-mod x m) in
    let small : x % m + o < m = omega arith in
    rw sum (mul-add-mod_self_left m (x / m) (x % m + o) ∙ mod-eq_of_lt small)

rest_whole : (m x : ℕ) → m % 8192 ≡ 0 → x % 8192 ≡ 0 → x % m % 8192 ≡ 0
rest_whole m x whole first = mod-mod_of_dvd 8192 x (dvd_of_mod-eq-zero 8192 whole) ∙ first

-- ---- a ROM of whole pages keeps its pages whole

fold_in_page : (k size x o : ℕ) → 0 < size → size % 8192 ≡ 0 → x % 8192 ≡ 0 → o < 8192 → x < 2 ^ (13 + k)
    → fold_below (13 + k) size (x + o) ≡ fold_below (13 + k) size x + o
unfolding fold_below
fold_in_page zero size x o some whole first within below =
    let start : x ≡ 0 = omega arith in
    let there = covered 13 size (x + o) (omega arith) (omega arith) in
    let here = covered 13 size x (omega arith) (omega arith) in
    there ∙ ap (λ n. n + o) (sym here)
fold_in_page (suc k) size x o some whole first within below =
    let more : 13 + suc k ≡ suc (13 + k) = omega arith in
    let two = pow-succ' 2 (13 + k) in
    let below' : x < 2 ^ suc (13 + k) = rw (sym more) below in
    let half = 2 ^ (13 + k) in
    let pages = power_whole k in
    let some' = power_some (13 + k) in
    let seen = ap (fold_below (13 + k) size) (rest_in_page half x o some' pages first within)
    ∙ fold_in_page k size (x % half) o some whole (rest_whole half x pages first) within (mod-lt x some') in
    let rest : half < size → half ≤ x → fold_below (13 + k) (size - half) (x + o - half) ≡ fold_below (13 + k) (size - half) (x - half) + o = λ big over.
    (let sum : x + o - half ≡ x - half + o = omega arith in
    rw sum (fold_in_page k (size - half) (x - half) o (omega arith) (omega arith) (omega arith) within (omega arith))) in
    rw more (page_step size half x o _ _ _ _ seen rest pages first within)

-- ---- places

-- the place of an address further on in a page whose first address has a place in the memory
pub record IsThere (board : CartBoard) (y : Place) (at : ℕ) : Type 0 where
  pub index : index_of board y ≡ Some at
  pub lies : IsInside board.rom board.ram y
  pub inside : at < 131072 + board.ram + board.rom

abbrev Leads : CartBoard → ℕ → Place → Place → Type 0
Leads board o x y = (at : ℕ) → index_of board x ≡ Some at → IsWhole board x → IsThere board y (at + o)

either : (b : Bool) (board : CartBoard) (o : ℕ) (x x' y y' : Place) → (b ≡ true → Leads board o x x') → (b ≡ false → Leads board o y y')
    → Leads board o (if b then x else y) (if b then x' else y')
either true board o x x' y y' h k = h refl
either false board o x x' y y' h k = k refl

leads_wram : (board : CartBoard) (o i j : ℕ) → o < 8192 → j ≡ i + o → Leads board o (Wram i) (Wram j)
leads_wram board o i j within e = λ at h w.
    let a : i ≡ at = cc in
    let b : j ≡ at + o = omega arith in
    record { index = ap Some b; lies = omega arith; inside = omega arith }

leads_ram : (board : CartBoard) (o i j : ℕ) → o < 8192 → (board.ram % 8192 ≡ 0 → j ≡ i + o) → Leads board o (Ram i) (Ram j)
leads_ram board o i j within e = λ at h w.
    let q = e w.0 in
    let fits = w.1 in
    let a : 131072 + i ≡ at = cc in
    let b : 131072 + j ≡ at + o = omega arith in
    record { index = ap Some b; lies = omega arith; inside = omega arith }

leads_rom : (board : CartBoard) (o i j : ℕ) → o < 8192 → (board.rom % 8192 ≡ 0 → j ≡ i + o) → Leads board o (Rom i) (Rom j)
leads_rom board o i j within e = λ at h w.
    let q = e w.0 in
    let fits = w.1 in
    let a : 131072 + board.ram + i ≡ at = cc in
    let b : 131072 + board.ram + j ≡ at + o = omega arith in
    record { index = ap Some b; lies = omega arith; inside = omega arith }

leads_none : (board : CartBoard) (o : ℕ) (y : Place) → Leads board o Open y
leads_none board o y = λ at h w. absurd (cc)

-- ROM: the offset of 22 bits at which a page begins
fold_leads : (rom x o : ℕ) → 0 < rom → rom % 8192 ≡ 0 → x % 8192 ≡ 0 → o < 8192 → x < 4194304 → fold rom (x + o) ≡ fold rom x + o
unfolding fold
fold_leads rom x o some whole first within below =
    let there : (x + o) % 0x400000 ≡ x + o = omega arith in
    let here : x % 0x400000 ≡ x = omega arith in
    rw (there, here) (fold_in_page 9 rom x o some whole first within below)

leads_fold : (board : CartBoard) (o x y : ℕ) → 0 < board.rom → x % 8192 ≡ 0 → y ≡ x + o → o < 8192 → x < 4194304 → Leads board o (Rom (fold board.rom x)) (Rom (fold board.rom y))
leads_fold board o x y some first e within below =
    leads_rom board o _ _ within (λ whole. ap (fold board.rom) e ∙ fold_leads board.rom x o some whole first within below)

leads_ram_place : (board : CartBoard) (o x y : ℕ) → x % 8192 ≡ 0 → y ≡ x + o → o < 8192 → Leads board o (ram_place_of board.ram x) (ram_place_of board.ram y)
leads_ram_place board o x y first e within =
    either (nat_eq board.ram 0) board o Open Open (Ram (x % board.ram)) (Ram (y % board.ram))
    (λ z. leads_none board o Open)
    (λ z. leads_ram board o _ _ within (λ whole. ap (λ n. n % board.ram) e ∙ rest_in_page board.ram x o (grind (arith, nat_tests)) whole first within))

-- the tests of an offset come out alike all over a page
abbrev Alike : ℕ → ℕ → ℕ → ℕ → Type 0
Alike a b j o = lies a b (8192 * j + o) ≡ lies a b (8192 * j)

low_alike : (j o : ℕ) → o < 8192 → Alike 0 0x1fff j o
low_alike j o within = grind (arith, nat_tests)

system_alike : (j o : ℕ) → o < 8192 → Alike 0 0x5fff j o
system_alike j o within = grind (arith, nat_tests)

middle_alike : (j o : ℕ) → o < 8192 → Alike 0x6000 0x7fff j o
middle_alike j o within = grind (arith, nat_tests)

high_alike : (j o : ℕ) → o < 8192 → Alike 0x8000 0xffff j o
high_alike j o within = grind (arith, nat_tests)

-- no page begins with a register
no_bus : (j : ℕ) → lies 0x2100 0x21ff (8192 * j) ≡ false
no_bus j = grind (arith, nat_tests)

no_chip : (j : ℕ) → is_cpu_register (8192 * j) ≡ false
no_chip j = grind (arith, nat_tests)

system_leads : (board : CartBoard) (j o : ℕ) → o < 8192 → Leads board o (system_place_of (8192 * j)) (system_place_of (8192 * j + o))
system_leads board j o within =
    rw (low_alike j o within, no_bus j, no_chip j) (
    either (lies 0 0x1fff (8192 * j)) board o (Wram (8192 * j)) (Wram (8192 * j + o)) Open _
    (λ h. leads_wram board o _ _ within refl)
    (λ h. leads_none board o _))

lorom_leads : (board : CartBoard) (bank j o : ℕ) → 0 < board.rom → j < 8 → o < 8192
    → Leads board o (lorom_place_of board.rom board.ram bank (8192 * j)) (lorom_place_of board.rom board.ram bank (8192 * j + o))
lorom_leads board bank j o some few within =
    rw (high_alike j o within) (
    either (lies 0x8000 0xffff (8192 * j)) board o _ _ _ _
    (λ h. leads_fold board o _ _ some (omega arith) (omega arith) within (omega arith))
    (λ h. either (lies 0x70 0x7d bank || lies 0xf0 0xff bank) board o _ _ Open Open
    (λ h. leads_ram_place board o _ _ (omega arith) (omega arith) within)
    (λ h. leads_none board o Open)))

hirom_leads : (board : CartBoard) (bank j o : ℕ) → 0 < board.rom → j < 8 → o < 8192
    → Leads board o (hirom_place_of board.rom board.ram bank (8192 * j)) (hirom_place_of board.rom board.ram bank (8192 * j + o))
hirom_leads board bank j o some few within =
    rw (high_alike j o within, middle_alike j o within) (
    either (lies 0x40 0x7d bank || (lies 0xc0 0xff bank || lies 0x8000 0xffff (8192 * j))) board o _ _ _ _
    (λ h. leads_fold board o _ _ some (omega arith) (omega arith) within (omega arith))
    (λ h. either ((lies 0x20 0x3f bank || lies 0xa0 0xbf bank) && lies 0x6000 0x7fff (8192 * j)) board o _ _ Open Open
    (λ h. leads_ram_place board o _ _ (omega arith) (omega arith) within)
    (λ h. leads_none board o Open)))

cart_leads : (board : CartBoard) (map : MapKind) (bank j o : ℕ) → 0 < board.rom → j < 8 → o < 8192
    → Leads board o (cart_place_of map board.rom board.ram bank (8192 * j)) (cart_place_of map board.rom board.ram bank (8192 * j + o))
cart_leads board LoRom bank j o some few within = lorom_leads board bank j o some few within
cart_leads board HiRom bank j o some few within = hirom_leads board bank j o some few within

bank_leads : (board : CartBoard) (bank j o : ℕ) → 0 < board.rom → j < 8 → o < 8192
    → Leads board o (bank_place_of board.map board.rom board.ram bank (8192 * j)) (bank_place_of board.map board.rom board.ram bank (8192 * j + o))
bank_leads board bank j o some few within =
    rw (system_alike j o within) (
    either (lies 0x7e 0x7f bank) board o _ _ _ _
    (λ h. leads_wram board o _ _ within (omega arith))
    (λ h. either (is_system_bank bank && lies 0 0x5fff (8192 * j)) board o _ _ _ _
    (λ h. system_leads board j o within)
    (λ h. cart_leads board board.map bank j o some few within)))

-- the byte at an address of a page
pub byte_in_page : (board : CartBoard) (number o at : ℕ) → 0 < board.rom → number < 2048 → o < 8192
    → index_of board (place_at board (8192 * number)) ≡ Some at → IsWhole board (place_at board (8192 * number))
    → IsThere board (place_at board (8192 * number + o)) (at + o)
byte_in_page board number o at some few within =
    let bank : 8192 * number / 0x10000 % 0x100 ≡ number / 8 = omega arith in
    let bank' : (8192 * number + o) / 0x10000 % 0x100 ≡ number / 8 = omega arith in
    let offset : 8192 * number % 0x10000 ≡ 8192 * (number % 8) = omega arith in
    let offset' : (8192 * number + o) % 0x10000 ≡ 8192 * (number % 8) + o = omega arith in
    rw (bank, bank', offset, offset') (bank_leads board (number / 8) (number % 8) o some (omega arith) within at)

-- ---- clocks

lower_alike : (j o : ℕ) → o < 8192 → nat_lt (8192 * j + o) 0x8000 ≡ nat_lt (8192 * j) 0x8000
lower_alike j o within = grind (arith, nat_tests)

ram_alike : (j o : ℕ) → o < 8192 → nat_lt (8192 * j + o) 0x2000 ≡ nat_lt (8192 * j) 0x2000
ram_alike j o within = grind (arith, nat_tests)

bus_alike : (j o : ℕ) → o < 8192 → nat_lt (8192 * j + o) 0x4000 ≡ nat_lt (8192 * j) 0x4000
bus_alike j o within = grind (arith, nat_tests)

chip_alike : (j o : ℕ) → o < 8192 → nat_lt (8192 * j + o) 0x6000 ≡ nat_lt (8192 * j) 0x6000
chip_alike j o within = grind (arith, nat_tests)

-- the page with clocks of two kinds, at 4000, is no memory where it is the system's
clocks_inside : (system fast : Bool) (j o : ℕ) (bank : ℕ) → o < 8192 → (IsTrue system → (j ≡ 2) → ⊥)
    → (if system && nat_lt (8192 * j + o) 0x8000 then system_clocks (8192 * j + o) else (if is_fast_bank bank && fast then 6 else 8))
    ≡ (if system && nat_lt (8192 * j) 0x8000 then system_clocks (8192 * j) else (if is_fast_bank bank && fast then 6 else 8))
clocks_inside false fast j o bank within other = refl
clocks_inside true fast j o bank within other =
    let slow_alike : nat_lt (8192 * j + o) 0x4200 ≡ nat_lt (8192 * j) 0x4200 = (let n = other refl in grind (arith, nat_tests)) in
    rw (lower_alike j o within, ram_alike j o within, bus_alike j o within, chip_alike j o within, slow_alike) refl

no_memory : (board : CartBoard) (bank j at : ℕ) → IsTrue (nat_lt (bank % 128) 64) → bank < 256 → j ≡ 2 → index_of board (bank_place_of board.map board.rom board.ram bank (8192 * j)) ≡ Some at → ⊥
no_memory board bank j at system few there h =
    let a : lies 0x7e 0x7f bank ≡ false = grind (arith, nat_tests) in
    let b : is_system_bank bank ≡ true = grind (arith, nat_tests) in
    let d : lies 0 0x5fff (8192 * j) ≡ true = grind (arith, nat_tests) in
    let e : lies 0 0x1fff (8192 * j) ≡ false = grind (arith, nat_tests) in
    let q : index_of board (bank_place_of board.map board.rom board.ram bank (8192 * j)) ≡ None = rw (a, b, d, e, no_bus j, no_chip j) refl in
    absurd (cc)

pub clocks_in_page : (board : CartBoard) (number o at : ℕ) (fast : Bool) → number < 2048 → o < 8192
    → index_of board (place_at board (8192 * number)) ≡ Some at → clocks_of (8192 * number + o) fast ≡ clocks_of (8192 * number) fast
clocks_in_page board number o at fast few within h =
    let bank : 8192 * number / 65536 ≡ number / 8 = omega arith in
    let bank' : (8192 * number + o) / 65536 ≡ number / 8 = omega arith in
    let offset : 8192 * number % 65536 ≡ 8192 * (number % 8) = omega arith in
    let offset' : (8192 * number + o) % 65536 ≡ 8192 * (number % 8) + o = omega arith in
    let there : number / 8 % 256 ≡ number / 8 = omega arith in
    let h' : index_of board (bank_place_of board.map board.rom board.ram (number / 8) (8192 * (number % 8))) ≡ Some at = rw (bank, offset, there) at h in
    rw (bank, bank', offset, offset')
    (clocks_inside (nat_lt (number / 8 % 128) 64) fast (number % 8) o (number / 8) within (λ s j. no_memory board (number / 8) (number % 8) at s (omega arith) j h'))

-- a page of memory, from its first address
pub is_page : (board : CartBoard) (fast : Bool) (number : ℕ) (page : Page) → 0 < board.rom → number < 2048
    → index_of board (place_at board (8192 * number)) ≡ Some page.at → IsWhole board (place_at board (8192 * number))
    → page.clocks ≡ clocks_of (8192 * number) fast → page.clocks < 256 → IsPageOf board fast number page
is_page board fast number page some few h whole clocks small = λ below o within.
    let there = byte_in_page board number o page.at some few within h whole in
    record {
      place = there.index;
      lasts = clocks ∙ sym (clocks_in_page board number o page.at fast few within h);
      few = small;
      lies = there.lies;
      inside = there.inside;
    }

-- a page that is no memory says nothing
pub no_page : (board : CartBoard) (fast : Bool) (number : ℕ) (page : Page) → page.clocks ≡ 2000 → IsPageOf board fast number page
no_page board fast number page many = λ below o within. absurd (omega (arith, many, below))

-- the place at a page's first address, by bank and offset
pub first_place : (board : CartBoard) (number : ℕ) → number < 2048
    → bank_place_of board.map board.rom board.ram (8192 * number / 65536) (8192 * number % 65536) ≡ place_at board (8192 * number)
first_place board number few =
    let bank : 8192 * number / 0x10000 % 0x100 ≡ 8192 * number / 65536 = omega arith in
    rw bank refl

-- a page that lies less than 2,048 pages behind the first one of a speed is of that speed
pub of_speed : (first number : ℕ) → first % 2048 ≡ 0 → first ≤ 2048 → number < 2048 → nat_le 2048 (first + number) ≡ nat_le 2048 first
of_speed first number whole few below = grind (arith, nat_tests)

-- the pages so far, and one more
pub one_more : (board : CartBoard) (pages : List Page) (page : Page) → ArePages board pages
    → IsPageOf board (nat_le 2048 (length pages)) (length pages % 2048) page → ArePages board (pages ++ page ∷ [])
one_more board pages page are new = λ number d below.
    let Holds : Page → Type 0 = λ q. IsPageOf board (nat_le 2048 number) (number % 2048) q in
    let size : length (pages ++ page ∷ []) ≡ length pages + 1 = length-append pages (page ∷ []) in
    ⊎_elim
    (λ before. subst Holds (sym (get_or-append pages (page ∷ []) d number before)) (are number d before))
    (λ last. (
    let end : number ≡ length pages = omega arith in
    let Q : ℕ → Type 0 = λ n. IsPageOf board (nat_le 2048 n) (n % 2048) (slice_index_or (pages ++ page ∷ []) n d) in
    let R : Page → Type 0 = λ q. IsPageOf board (nat_le 2048 (length pages)) (length pages % 2048) q in
    subst Q (sym end) (subst R (sym (get_or-append_seam pages page [] d)) new)))
    (cases_lt number (length pages))
