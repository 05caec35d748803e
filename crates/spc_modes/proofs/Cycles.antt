use Rattle.std.proofs.Common.{◌≡◌, ℕ, zero, suc, ◌-◌, refl, arith}
use Rattle.spc_modes.specs.Plan.{Plan, idles}
use Rattle.spc_modes.specs.Orders.{idles_for}

-- some cycles, at least one, are one cycle and the others
pub idles_for_less : (n : ℕ) (p : Plan) → (n ≡ 0 → ⊥) → idles_for n p ≡ idles (idles_for (n - 1) p)
idles_for_less zero p h = absurd (h refl)
idles_for_less (suc n) p h =
    let e : suc n - 1 ≡ n = omega arith in
    rw e refl
