-- The beam that goes on before its next place.
use Rattle.std.proofs.Common.{◌≡◌, ℕ, zero, suc, ◌+◌, ◌-◌, ◌<◌, Bool, [], refl, sym, ap, ◌∙◌, arith}
use Rattle.beam.specs.Events.{BeamValue, beam_after, beam_next, passed}
use Rattle.beam.specs.Places.{clocks_left, next_place}
use Rattle.beam.proofs.Quiet.{further, nearer, quiet_passed}

-- fewer clocks than are left: nothing happens in them, and so many fewer are left
pub record IsNearer (overscan : Bool) (b : BeamValue) (clocks : ℕ) : Type 0 where
  pub none : passed overscan b clocks ≡ []
  pub left : clocks_left (beam_after overscan b clocks) ≡ clocks_left b - clocks

pub nearer_by : (overscan : Bool) (b : BeamValue) (clocks : ℕ) → clocks < clocks_left b → IsNearer overscan b clocks
nearer_by overscan b clocks few =
    let place = next_place b.timer b.blank b.v b.h in
    let near = nearer b place (place - b.h) clocks (omega (arith, few)) (omega arith) few refl in
    let quiet = quiet_passed overscan b clocks near.1 in
    let there : clocks_left (further b clocks) ≡ clocks_left b - clocks =
    ap (λ (n : ℕ). n - (b.h + clocks)) (sym near.2) ∙ omega arith in
    record { none = quiet.1; left = ap clocks_left quiet.0 ∙ there }

-- so many clocks, and then more
pub beam_joined : (overscan : Bool) (b : BeamValue) (c d : ℕ)
    → beam_after overscan b (c + d) ≡ beam_after overscan (beam_after overscan b c) d
unfolding beam_after
beam_joined overscan b zero d =
    let z : zero + d ≡ d = omega arith in
    rw z refl
beam_joined overscan b (suc c) d =
    let s : suc c + d ≡ suc (c + d) = omega arith in
    rw s (beam_joined overscan (beam_next overscan b) c d)
