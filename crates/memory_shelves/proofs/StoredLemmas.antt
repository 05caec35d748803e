-- Lemmas on what a shelf in memory keeps.
use Rattle.std.proofs.Common.{◌≡◌, ℕ, ◌+◌, ◌-◌, ◌<◌, ◌≤◌, true, ◌||◌, nat_lt, List, ◌++◌, length, take, arith, ap, ◌∙◌}
use Rattle.std.proofs.lemmas.Bool.{or_right, lt-ltb}
use Rattle.std.proofs.Math.Seq.{take-append-add}
use Rattle.memory_shelves.specs.Stored.{Written, added}

-- of more bytes than there is room for, those that fit are kept, and the output is overrun
pub added_past : (w : Written) (more : List ℕ) → length w.bytes ≤ w.room → w.room - length w.bytes < length more
    → added w more ≡ record w { bytes = w.bytes ++ take (w.room - length w.bytes) more; overrun = true }
added_past w more within past =
    let left : ℕ = w.room - length w.bytes in
    let whole : w.room ≡ length w.bytes + left = omega arith in
    let kept : take w.room (w.bytes ++ more) ≡ w.bytes ++ take left more =
    ap (λ n. take n (w.bytes ++ more)) whole ∙ take-append-add w.bytes more left in
    let over : (w.overrun || nat_lt w.room (length w.bytes + length more)) ≡ true = or_right _ _ (lt-ltb w.room (length w.bytes + length more) (omega arith)) in
    rw (kept, over)
