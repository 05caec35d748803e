-- Bytes at the ports of which a clear zeroed some.
use Rattle.std.proofs.Common.{◌≡◌, ℕ, zero, suc, ◌+◌, Bool, true, false, cond, List, [], ◌∷◌, length, get_or, refl, ap, sym, ◌∙◌, arith, add-zero}
use Rattle.port_entries.specs.Entry.{covers}
use Rattle.side_law.specs.Serial.{cleared_from}

-- a port of bytes of which some were zeroed
pub cleared-at : (first mask : ℕ) (bytes : List ℕ) (port : ℕ)
    → get_or (cleared_from first mask bytes) port 0 ≡ cond (covers mask (first + port)) 0 (get_or bytes port 0)
cleared-at first mask [] port = sym (same (covers mask (first + port)))
  where
    same : (t : Bool) → ◌≡◌ {A = ℕ} (cond t 0 0) 0
    same true = refl
    same false = refl
cleared-at first mask (b ∷ bytes) zero = ap (λ k. cond (covers mask k) 0 b) (sym (add-zero first))
cleared-at first mask (b ∷ bytes) (suc port) =
    cleared-at (first + 1) mask bytes port
    ∙ ap (λ k. cond (covers mask k) 0 (get_or bytes port 0)) (omega arith)

pub length-cleared_from : (first mask : ℕ) (bytes : List ℕ) → length (cleared_from first mask bytes) ≡ length bytes
length-cleared_from first mask [] = refl
length-cleared_from first mask (b ∷ bytes) = ap suc (length-cleared_from (first + 1) mask bytes)
