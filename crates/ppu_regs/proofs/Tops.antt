-- The Y of all objects stay side by side as OAM is written.
use Rattle.std.proofs.Common.{◌≡◌, ◌≢◌, ℕ, ◌+◌, ◌*◌, ◌/◌, ◌%◌, ◌-◌, ◌<◌, ◌==◌, Bool, true, false, nat_lt, List, length, slice_index, slice_set, replicate, refl, sym, ap, ◌∙◌, ⊎_elim, arith, if◌then◌else◌}
use Rattle.std.proofs.lemmas.Bool.{cases_eq}
use Rattle.std.proofs.lemmas.Bool.Decides.{nat_tests}
use Rattle.std.proofs.lemmas.Grind.{get_or-set_at}
use Rattle.std.proofs.lemmas.List.{length-replicate, get_or-replicate, get_or_past, get_or-set_other}
use Rattle.ppu_regs.specs.declared.registers.OamPort.{OamPort}
use Rattle.ppu_regs.specs.Picture.{zeros}
use Rattle.ppu_regs.specs.Ports.{oam_bytes_written, oam_place}
use Rattle.ppu_regs.specs.Tops.{AreTops}

zero_at : (n k : ℕ) → slice_index (replicate n 0) k ≡ 0
zero_at n k = grind (arith, get_or-replicate {A = ℕ} n k 0 0, get_or_past {X = ℕ} (replicate n 0) k 0, length-replicate {A = ℕ} n 0)

pub zeros_have_tops : AreTops (zeros 128) (zeros 544)
unfolding AreTops zeros
zeros_have_tops n h = zero_at 128 n ∙ sym (zero_at 544 (4 * n + 1))

high_place : (at : ℕ) → nat_lt at 512 ≡ false → oam_place at ≡ 512 + at % 32
unfolding oam_place
high_place at is = rw is refl

-- a byte that is written is the Y of no other object than that of its address
other_top : (oam : List ℕ) (at kept v n : ℕ) → n < 128 → n ≢ at / 4 % 128 →
    (let oam' : List ℕ = if nat_lt at 512
    then (if at % 2 == 0 then oam else slice_set (slice_set oam (at - 1) kept) at v)
    else slice_set oam (oam_place at) v
    in slice_index oam' (4 * n + 1) ≡ slice_index oam (4 * n + 1))
other_top oam at kept v n within other = split (nat_lt at 512) (at % 2 == 0) refl refl
  where
    split : (low even : Bool) → nat_lt at 512 ≡ low → (at % 2 == 0) ≡ even →
        slice_index (if low then (if even then oam else slice_set (slice_set oam (at - 1) kept) at v) else slice_set oam (oam_place at) v) (4 * n + 1)
        ≡ slice_index oam (4 * n + 1)
    split true true is even = refl
    split true false is odd =
        get_or-set_other (slice_set oam (at - 1) kept) at (4 * n + 1) v 0 (λ e. other (omega (arith, e, within)))
        ∙ get_or-set_other oam (at - 1) (4 * n + 1) kept 0 (λ e. absurd (grind (arith, nat_tests, e, odd)))
    split false even is e =
        let place : oam_place at ≡ 512 + at % 32 = high_place at is in
        get_or-set_other oam (oam_place at) (4 * n + 1) v 0 (λ f. absurd (omega (arith, f, within, place)))

pub tops_after : (tops oam oam' : List ℕ) (port : OamPort) (v : ℕ) → length tops ≡ 128 → AreTops tops oam → oam' ≡ oam_bytes_written oam port v →
    AreTops (slice_set tops (port.address / 4 % 128) (slice_index oam' (4 * (port.address / 4 % 128) + 1))) oam'
unfolding AreTops oam_bytes_written
tops_after tops oam oam' port v size are written n h =
    let object : ℕ = port.address / 4 % 128 in
    let top : ℕ = slice_index oam' (4 * object + 1) in
    ⊎_elim
    (λ e. get_or-set_at tops object n top 0 e (omega (arith, size)) ∙ ap (λ k. slice_index oam' (4 * k + 1)) (sym e))
    (λ ne. get_or-set_other tops object n top 0 ne ∙ are n h ∙ sym (ap (λ (l : List ℕ). slice_index l (4 * n + 1)) written ∙ other_top oam port.address port.kept v n h ne))
    (cases_eq n object)
