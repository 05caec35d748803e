-- What the first bytes of an array are after bytes were put behind them, and after the first of them were forgotten.
use Rattle.std.proofs.Common.{◌≡◌, ℕ, ◌+◌, ◌-◌, ◌≤◌, List, [], ◌++◌, length, take, drop, refl, ap, sym, ◌∙◌, length-take-le, length-drop, arith}
use Rattle.std.proofs.lemmas.List.Edits.{take-paste}
use Rattle.std.proofs.lemmas.Slice.{take-put_mid, between_is}
use Rattle.std.specs.List.{copy_within}
use lib.Seq.{paste}
use borrow.Rule.Slice.PartMut.{put_mid}

-- bytes put behind the first c
pub put_behind : (s new bytes : List ℕ) (c k n : ℕ) → new ≡ bytes → n ≡ c + length bytes → c ≤ length s → take n (put_mid c k s new) ≡ take c s ++ bytes
put_behind s new bytes c k n same end fits =
    let long : length new ≡ length bytes = ap length same in
    take-put_mid c k s new n (omega arith) fits ∙ ap (λ l. take c s ++ l) same

-- those from the kth to the nth copied to the front
pub front_forgotten : (s : List ℕ) (n k : ℕ) → k ≤ n → n ≤ length s → take (n - k) (copy_within s k n 0) ≡ drop k (take n s)
front_forgotten s n k le fits =
    let left = n - k in
    let same : left ≡ 0 + left = omega arith in
    ap (λ m. take m (paste s 0 (drop k s) left)) same ∙ take-paste s 0 (drop k s) left (omega arith) (omega (arith, length-drop k s)) ∙ between_is s k n

pub ruleset behind = (put_behind, length-take-le)
