-- Lists of entries as they grow: their writes, that they rise, and what is left of them.
use Rattle.std.proofs.Common.{◌≡◌, ℕ, zero, suc, ◌+◌, ◌*◌, ◌≤◌, List, [], ◌∷◌, ◌++◌, Some, length, drop, max, refl, ap, ◌∙◌, arith, append-nil}
use Rattle.std.specs.Prelude.{slice_get}
use Rattle.std.specs.List.{AllByRecursion}
use Rattle.port_entries.specs.Entry.{Entry, WriteAt, ClearAt, entry_stamp}
use Rattle.port_wire.specs.Seen.{writes_of}
use Rattle.word_log.specs.Layout.{FitsWord}
use Rattle.word_log.specs.Rule.{AreRising, AreFrom, AreUpTo, end_of}
use Rattle.word_log.specs.Steps.{IsClearFrom}

module _ {A : Type 0} (P : A → Type 0) where
  pub all-append : (xs ys : List A) → AllByRecursion P xs → AllByRecursion P ys → AllByRecursion P (xs ++ ys)
  all-append [] ys p q = q
  all-append (x ∷ xs) ys p q = (p.0, all-append xs ys p.1 q)

  pub all-right : (xs ys : List A) → AllByRecursion P (xs ++ ys) → AllByRecursion P ys
  all-right [] ys p = p
  all-right (x ∷ xs) ys p = all-right xs ys p.1

  pub all-left : (xs ys : List A) → AllByRecursion P (xs ++ ys) → AllByRecursion P xs
  all-left [] ys p = tt
  all-left (x ∷ xs) ys p = (p.0, all-left xs ys p.1)

  -- all that is left after n, and so all that is left after more
  pub all-after : (n : ℕ) (xs ys : List A) → n ≤ length xs → AllByRecursion P (drop n (xs ++ ys)) → AllByRecursion P ys
  all-after zero xs ys h p = all-right xs ys p
  all-after (suc n) [] ys h p = absurd (omega arith)
  all-after (suc n) (x ∷ xs) ys h p = all-after n xs ys (omega arith) p

  pub all-drop-append : (n : ℕ) (xs ys : List A) → n ≤ length xs → AllByRecursion P (drop n xs) → AllByRecursion P ys
      → AllByRecursion P (drop n (xs ++ ys))
  all-drop-append zero xs ys h p q = all-append xs ys p q
  all-drop-append (suc n) [] ys h p q = absurd (omega arith)
  all-drop-append (suc n) (x ∷ xs) ys h p q = all-drop-append n xs ys (omega arith) p q

pub from-later : (a b : ℕ) (es : List Entry) → a ≤ b → AreFrom b es → AreFrom a es
from-later a b [] h p = tt
from-later a b (e ∷ es) h p = (omega (arith, p.0), from-later a b es h p.1)

pub up-to-later : (a b : ℕ) (es : List Entry) → a ≤ b → AreUpTo a es → AreUpTo b es
up-to-later a b [] h p = tt
up-to-later a b (e ∷ es) h p = (omega (arith, p.0), up-to-later a b es h p.1)

-- what stands behind a beginning
pub get-next : (xs : List Entry) (e : Entry) (es : List Entry) → slice_get (xs ++ e ∷ es) (length xs) ≡ Some e
get-next [] e es = refl
get-next (x ∷ xs) e es = get-next xs e es

-- the writes of a list that grows
pub writes-append : (xs ys : List Entry) → writes_of (xs ++ ys) ≡ writes_of xs ++ writes_of ys
writes-append [] ys = refl
writes-append (WriteAt at port byte ∷ xs) ys = ap (λ l. WriteAt at port byte ∷ l) (writes-append xs ys)
writes-append (ClearAt at mask ∷ xs) ys = writes-append xs ys

no-writes : (clock : ℕ) (es : List Entry) → AllByRecursion (IsClearFrom clock) es → writes_of es ≡ []
no-writes clock [] h = refl
no-writes clock (WriteAt at port byte ∷ es) h = absurd h.0
no-writes clock (ClearAt at mask ∷ es) h = no-writes clock es h.1

pub writes-after-clears : (clock : ℕ) (mine clears : List Entry) → AllByRecursion (IsClearFrom clock) clears
    → writes_of (mine ++ clears) ≡ writes_of mine
writes-after-clears clock mine clears h =
    writes-append mine clears ∙ ap (λ l. writes_of mine ++ l) (no-writes clock clears h) ∙ append-nil (writes_of mine)

-- clears rise, fit, and come late enough
pub clears-rise : (least clock : ℕ) (es : List Entry) → AllByRecursion (IsClearFrom clock) es → AreRising least es
clears-rise least clock [] h = tt
clears-rise least clock (WriteAt at port byte ∷ es) h = absurd h.0
clears-rise least clock (ClearAt at mask ∷ es) h = clears-rise least clock es h.1

pub clears-fit : (clock : ℕ) (es : List Entry) → AllByRecursion (IsClearFrom clock) es → AllByRecursion FitsWord es
clears-fit clock [] h = tt
clears-fit clock (WriteAt at port byte ∷ es) h = absurd h.0
clears-fit clock (ClearAt at mask ∷ es) h = (tt, clears-fit clock es h.1)

pub clears-from : (clock : ℕ) (es : List Entry) → AllByRecursion (IsClearFrom clock) es → AreFrom clock es
clears-from clock [] h = tt
clears-from clock (WriteAt at port byte ∷ es) h = absurd h.0
clears-from clock (ClearAt at mask ∷ es) h = (h.0, clears-from clock es h.1)

-- a rising list that goes on late enough
pub rising-append : (least : ℕ) (xs ys : List Entry) → AreRising least xs → AreRising least ys
    → AreFrom (end_of least (writes_of xs)) ys → AreRising least (xs ++ ys)
rising-append least [] ys h k later = k
rising-append least (WriteAt at port byte ∷ xs) ys h k later = (
  all-append (λ e. at + least ≤ entry_stamp e) xs ys h.0 (from-later (at + least) (max (at + least) (end_of least (writes_of xs))) ys (omega arith) later),
  rising-append least xs ys h.1 k
      (from-later (end_of least (writes_of xs)) (max (at + least) (end_of least (writes_of xs))) ys (omega arith) later),
)
rising-append least (ClearAt at mask ∷ xs) ys h k later = rising-append least xs ys h k later

-- the writes of a rising list rise
from-writes : (t : ℕ) (es : List Entry) → AreFrom t es → AreFrom t (writes_of es)
from-writes t [] h = tt
from-writes t (WriteAt at port byte ∷ es) h = (h.0, from-writes t es h.1)
from-writes t (ClearAt at mask ∷ es) h = from-writes t es h.1

pub writes-rise : (least : ℕ) (es : List Entry) → AreRising least es → AreRising least (writes_of es)
writes-rise least [] h = tt
writes-rise least (WriteAt at port byte ∷ es) h = (from-writes (at + least) es h.0, writes-rise least es h.1)
writes-rise least (ClearAt at mask ∷ es) h = writes-rise least es h

pub writes-fit : (es : List Entry) → AllByRecursion FitsWord es → AllByRecursion FitsWord (writes_of es)
writes-fit [] h = tt
writes-fit (WriteAt at port byte ∷ es) h = (h.0, writes-fit es h.1)
writes-fit (ClearAt at mask ∷ es) h = writes-fit es h.1

-- an entry is a write
abbrev pub IsWrite : Entry → Type 0
IsWrite (WriteAt at port byte) = Unit {0}
IsWrite (ClearAt at mask) = ⊥

pub are-writes : (es : List Entry) → AllByRecursion IsWrite (writes_of es)
are-writes [] = tt
are-writes (WriteAt at port byte ∷ es) = (tt, are-writes es)
are-writes (ClearAt at mask ∷ es) = are-writes es

pub rising-right : (least : ℕ) (xs ys : List Entry) → AreRising least (xs ++ ys) → AreRising least ys
rising-right least [] ys h = h
rising-right least (WriteAt at port byte ∷ xs) ys h = rising-right least xs ys h.1
rising-right least (ClearAt at mask ∷ xs) ys h = rising-right least xs ys h

-- what comes next comes after the end of all before it
pub end-before : (least : ℕ) (xs : List Entry) (e : Entry) (es : List Entry) → AllByRecursion IsWrite (xs ++ e ∷ es)
    → AreRising least (xs ++ e ∷ es) → end_of least xs ≤ entry_stamp e
end-before least [] e es w h = omega arith
end-before least (WriteAt at port byte ∷ xs) e es w h =
    let first = all-right (λ x. at + least ≤ entry_stamp x) xs (e ∷ es) h.0 in
    omega (arith, first.0, end-before least xs e es w.1 h.1)
end-before least (ClearAt at mask ∷ xs) e es w h = absurd w.0

pub end-append : (least : ℕ) (xs : List Entry) (e : Entry)
    → end_of least (xs ++ e ∷ []) ≡ max (end_of least xs) (entry_stamp e + least)
end-append least [] e = omega arith
end-append least (x ∷ xs) e = omega (arith, end-append least xs e)

-- so many rising writes take so many rises
pub rising-many : (least top : ℕ) (e : Entry) (es : List Entry) → AllByRecursion IsWrite (e ∷ es)
    → AreRising least (e ∷ es) → AreUpTo top (e ∷ es) → entry_stamp e + least * length es ≤ top
rising-many least top (WriteAt at port byte) [] w h u = grind (arith, u.0)
rising-many least top (WriteAt at port byte) (f ∷ es) w h u =
    grind (arith, h.0.0, rising-many least top f es w.1 h.1 u.1)
rising-many least top (ClearAt at mask) es w h u = absurd w.0
