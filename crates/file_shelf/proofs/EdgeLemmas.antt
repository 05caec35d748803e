-- Lemmas on writes that take some of the bytes.
use Rattle.std.proofs.Common.{◌≡◌, ℕ, ◌+◌, List, ◌++◌, take, drop, sym, ap, subst, ◌∙◌, Option, None, Some, [], take-append-drop}
use Rattle.std.proofs.Math.Seq.{take-add}
use Rattle.std.proofs.lemmas.List.{append-nil}
use Rattle.std.specs.List.{remove_range}
use Rattle.std.specs.Io.KnownBytes.{Appends, Keeps, append_known}
use Rattle.std.proofs.KnownBytes.{Appends-trans, append_known-moved}

-- the first k bytes, and then n more of the rest
pub more_written : (a b c : Option (List ℕ)) (bytes : List ℕ) (k n : ℕ)
    → Appends a b (take k bytes) → Appends b c (take n (drop k bytes)) → Appends a c (take (k + n) bytes)
more_written a b c bytes k n before now =
    subst (Appends a c) (sym (take-add k n bytes)) (Appends-trans a b c _ _ before now)

-- what a file held and what was gathered are kept where all that was gathered is written
pub all_kept : (a b : Option (List ℕ)) (gathered left : List ℕ) → left ≡ [] → Appends a b gathered → Keeps (append_known a gathered) (append_known b left)
all_kept None b gathered left none h = tt
all_kept (Some xs) (Some ys) gathered left none h = ap (λ l. ys ++ l) none ∙ append-nil ys ∙ h
all_kept (Some xs) None gathered left none h = absurd h

-- the same where the first of the gathered bytes are written and the others stay gathered
pub some_kept : (a b : Option (List ℕ)) (gathered left : List ℕ) (count : ℕ) → left ≡ remove_range gathered 0 count → Appends a b (take count gathered)
    → Keeps (append_known a gathered) (append_known b left)
some_kept a b gathered left count is h = append_known-moved a b (take count gathered) left gathered h
    (sym (take-append-drop count gathered) ∙ ap (λ l. take count gathered ++ l) (sym is))

pub ruleset written_first = (all_kept, some_kept)

-- what is kept is followed by none of some bytes
pub none_given : (a b : Option (List ℕ)) (bytes : List ℕ) → Keeps a b → (count : ℕ) × Appends a b (take count bytes)
none_given None b bytes h = (0, tt)
none_given (Some xs) (Some ys) bytes h = (0, h ∙ sym (append-nil xs))
none_given (Some xs) None bytes h = absurd h

-- all that was gathered is written, and then the first of some bytes
pub first_given : (a b c : Option (List ℕ)) (left bytes : List ℕ) (count : ℕ) → Keeps a (append_known b left) → left ≡ [] → Appends b c (take count bytes)
    → (n : ℕ) × Appends a (append_known c left) (take n bytes)
first_given None b c left bytes count kept none h = (0, tt)
first_given (Some xs) None c left bytes count kept none h = absurd kept
first_given (Some xs) (Some ys) None left bytes count kept none h = absurd h
first_given (Some xs) (Some ys) (Some zs) left bytes count kept none h =
    let same : ys ≡ xs = sym (append-nil ys) ∙ ap (λ l. ys ++ l) (sym none) ∙ kept in
    (count, ap (λ l. zs ++ l) none ∙ append-nil zs ∙ h ∙ ap (λ l. l ++ take count bytes) same)

pub ruleset given_some = (none_given, first_given)
