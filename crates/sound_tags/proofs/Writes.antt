-- A file with tags, as two writes make it.
use Rattle.std.proofs.Common.{◌≡◌, ℕ, ◌+◌, ◌≤◌, List, [], ◌∷◌, ◌++◌, length, take, drop, set, refl, ap, sym, ◌∙◌, arith}
use Rattle.std.proofs.lemmas.List.{set_split, drop-drop, drop-take, take-set, drop-set-lt, length-set}
use Rattle.std.proofs.lemmas.Slice.{take-put_mid_below, drop-put_mid}
use borrow.Rule.Slice.PartMut.{put_mid}
use Rattle.sound_tags.specs.Put.{put_at, with_tags}

pub written : (tags file : List ℕ) → length tags ≡ 210 → 256 ≤ length file → put_mid 46 210 (set file 35 26) tags ≡ with_tags tags file
unfolding with_tags
written tags file size long =
    let flagged : List ℕ = put_at 0x23 (26 ∷ []) file in
    let flag : set file 35 26 ≡ flagged = set_split file 35 26 (omega (arith, long)) in
    ap (λ (xs : List ℕ). put_mid 46 210 xs tags) flag
    ∙ ap (λ (rest : List ℕ). take 46 flagged ++ (tags ++ rest)) (drop-drop 210 46 flagged ∙ ap (λ (n : ℕ). drop (46 + n) flagged) (sym size))

long_enough : (file : List ℕ) → 256 ≤ length file → 46 ≤ length (set file 35 26)
long_enough file long = omega (arith, long, length-set file 35 26)

-- what stays
pub before : (tags file : List ℕ) → 256 ≤ length file → take 35 (put_mid 46 210 (set file 35 26) tags) ≡ take 35 file
before tags file long =
    take-put_mid_below 46 210 (set file 35 26) tags 35 (omega arith) (long_enough file long) ∙ take-set file 35 26

pub registers : (tags file : List ℕ) → 256 ≤ length file → take 10 (drop 36 (put_mid 46 210 (set file 35 26) tags)) ≡ take 10 (drop 36 file)
registers tags file long =
    sym (drop-take 36 10 (put_mid 46 210 (set file 35 26) tags))
    ∙ ap (λ (l : List ℕ). drop 36 l) (take-put_mid_below 46 210 (set file 35 26) tags 46 (omega arith) (long_enough file long))
    ∙ drop-take 36 10 (set file 35 26)
    ∙ ap (λ (l : List ℕ). take 10 l) (drop-set-lt 36 file 35 26 (omega arith))

pub after : (tags file : List ℕ) → length tags ≡ 210 → 256 ≤ length file → drop 256 (put_mid 46 210 (set file 35 26) tags) ≡ drop 256 file
after tags file size long =
    drop-put_mid 46 210 (set file 35 26) tags 256 (omega arith) (long_enough file long) size ∙ drop-set-lt 256 file 35 26 (omega arith)
