-- The steps before the one that makes the next sample, and that one for a stem.
use Rattle.std.proofs.Common.{◌≡◌, ℕ, suc, ◌+◌, ◌-◌, ◌*◌, ◌/◌, ◌%◌, ◌==◌, IsTrue, refl, ap, sym, subst, arith}
use Rattle.audio_side.specs.Effect.{is_sampling}
use Rattle.spc_player.specs.Play.{Playing, IsNear, after_steps, stepped, to_sample}
use Rattle.spc_player.proofs.Steps.{cycle_after, cycle_of}

-- how many steps come before the one that makes the next sample
abbrev pub before : Playing → ℕ
before w = to_sample w - 1

-- the stamp of the step that makes the next sample
pub last_is_near : (w : Playing) (last : ℕ) → last ≡ 118125 * (32 * (cycle_of w / 32) + 31) → IsNear w last (before w)
last_is_near w last is = record { end_is = omega (arith, is); few = omega arith }

-- the last step makes the sample
pub last_step_is : (w : Playing) → stepped (after_steps w (before w)) ≡ after_steps w (to_sample w)
last_step_is w =
    let e : suc (before w) ≡ to_sample w = omega arith in
    ap (after_steps w) e

pub last_step_samples : (w : Playing) → IsTrue (is_sampling (cycle_of (after_steps w (before w))))
last_step_samples w =
    let e : cycle_of (after_steps w (before w)) % 32 ≡ 31 = omega (arith, cycle_after w (before w)) in
    subst (λ (n : ℕ). IsTrue (n == 31)) (sym e) refl
