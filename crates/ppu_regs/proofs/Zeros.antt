-- Memories of zeros, told by their number.
use Rattle.std.proofs.Common.{◌≡◌, ◌<◌, ℕ, zero, suc, List, [], ◌∷◌, length, All, slice_index, replicate, refl, sym, subst, arith}
use Rattle.std.proofs.lemmas.List.{length-replicate, get_or-replicate, get_or_past}
use Rattle.std.proofs.lemmas.List.Elements.{All-head, All-tail}
use Rattle.ppu_regs.specs.Picture.{zeros, vram_words, Picture, IsInRange, registers_start, picture_start}
use Rattle.snes_defs.specs.declared.profile.Profile.{Profile}
use Rattle.ppu_regs.specs.declared.registers.Registers.{Registers}

-- a list of zeros is told by its length
same_zeros : (xs : List ℕ) (n : ℕ) → length xs ≡ n → All (λ b. b ≡ 0) xs → xs ≡ replicate n 0
same_zeros [] zero size all = refl
same_zeros [] (suc n) size all = absurd (omega arith)
same_zeros (x ∷ xs) zero size all = absurd (omega arith)
same_zeros (x ∷ xs) (suc n) size all =
    let head = All-head (λ b. b ≡ 0) x xs all in
    let rest = same_zeros xs n (omega arith) (All-tail (λ b. b ≡ 0) x xs all) in
    cc

pub zeros_are : (xs : List ℕ) → length xs ≡ 32768 → All (λ b. b ≡ 0) xs → xs ≡ zeros vram_words
unfolding zeros vram_words
zeros_are xs size all = same_zeros xs vram_words size all

zero_colour : (n k : ℕ) → slice_index (replicate n 0) k < 32768
zero_colour n k = grind (arith, get_or-replicate {A = ℕ} n k 0 0, get_or_past {X = ℕ} (replicate n 0) k 0, length-replicate {A = ℕ} n 0)

pub zeros_are_colours : (n k : ℕ) → slice_index (zeros n) k < 32768
unfolding zeros
zeros_are_colours n k = zero_colour n k

pub length-zeros : (n : ℕ) → length (zeros n) ≡ n
unfolding zeros
length-zeros n = length-replicate {A = ℕ} n 0

length-vram : length (zeros vram_words) ≡ 32768
unfolding zeros vram_words
length-vram = length-replicate {A = ℕ} vram_words 0

-- the unit at the start is in range
start_is_in_range : (profile : Profile) → IsInRange (picture_start profile)
start_is_in_range profile = record {
  registers = record {
    mode = omega arith;
    mosaic = omega arith;
    brightness = omega arith;
    size_code = omega arith;
    gap = omega arith;
    first_object = omega arith;
    oam_address = omega arith;
    red = omega arith;
    green = omega arith;
    blue = omega arith;
  };
  vram_size = length-vram;
  cgram_size = length-zeros 256;
  oam_size = length-zeros 544;
  colours = zeros_are_colours 256;
}

-- what is made of such registers and memories is the start
pub is_start :
    (profile : Profile) (r : Registers) (vram cgram oam : List ℕ) → r ≡ registers_start profile → vram ≡ zeros vram_words →
    cgram ≡ zeros 256 → oam ≡ zeros 544 →
    (let p : Picture = record { registers = r; vram = vram; cgram = cgram; oam = oam } in p ≡ picture_start profile)
is_start profile r vram cgram oam hr hv hc ho = cc

pub starts_in_range :
    (profile : Profile) (r : Registers) (vram cgram oam : List ℕ) → r ≡ registers_start profile → vram ≡ zeros vram_words →
    cgram ≡ zeros 256 → oam ≡ zeros 544 → IsInRange (record { registers = r; vram = vram; cgram = cgram; oam = oam })
starts_in_range profile r vram cgram oam hr hv hc ho =
    subst IsInRange (sym (is_start profile r vram cgram oam hr hv hc ho)) (start_is_in_range profile)
