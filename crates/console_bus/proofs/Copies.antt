-- Memories of which a beginning was copied, and of which the rest was the same.
use Rattle.std.proofs.Common.{◌≡◌, ℕ, List, ◌++◌, take, drop, ap, ◌∙◌, sym}
use Rattle.std.proofs.lemmas.List.{take-append-drop}

pub same_memory : (n : ℕ) (from into : List ℕ) → drop n from ≡ drop n into → take n from ++ drop n into ≡ from
same_memory n from into e = ap (λ v. take n from ++ v) (sym e) ∙ take-append-drop {A = ℕ} n from
