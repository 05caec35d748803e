-- The first so many elements of a list that grows at its end.
use Rattle.std.proofs.Common.{◌≡◌, ℕ, zero, suc, ◌+◌, ◌-◌, ◌<◌, ◌≤◌, Bool, true, false, nat_lt, List, [], ◌∷◌, ◌++◌, length, take, drop, get_or, refl, sym, ap, ◌∙◌, append_assoc, add-one, arith}
use Rattle.std.proofs.lemmas.List.{take-append-le, length-take, length-append}
use Rattle.std.proofs.lemmas.Bool.{le-ltb, lt-ltb}
use Rattle.std.proofs.lemmas.Grind.{common_steps}
use Rattle.std.proofs.Math.Seq.{drop-cons}
use Rattle.ppu_regs.specs.Picture.{Picture}
use Rattle.ppu_objects.specs.declared.objects.Object.{Object}
use Rattle.ppu_objects.specs.declared.slivers.Sliver.{Sliver}
use Rattle.ppu_objects.specs.Objects.{grown, on_row, object_in_turn, stands_on}
use Rattle.ppu_objects.specs.Slivers.{first_slivers, is_on_screen, sliver_left, slivers_of, all_slivers}

-- with room, the new element is among the first
pub take_push_room : {A : Type 0} (m : ℕ) (xs : List A) (x : A) → length (take m xs) < m → take m (xs ++ x ∷ []) ≡ take m xs ++ x ∷ []
take_push_room m xs x h = grind (arith, common_steps, length-take, length-append)

pub push_items : {A : Type 0} (m : ℕ) (old new xs : List A) (x : A) → old ≡ take m xs → length old < m → new ≡ old ++ x ∷ [] →
    new ≡ take m (xs ++ x ∷ [])
push_items m old new xs x e h n =
    let short : length (take m xs) < m = omega (arith, ap length e) in
    n ∙ ap (λ l. l ++ x ∷ []) e ∙ sym (take_push_room m xs x short)

pub push_more : {A : Type 0} (m : ℕ) (old xs : List A) (x : A) → old ≡ take m xs → length old < m →
    nat_lt m (length xs) ≡ nat_lt m (length (xs ++ x ∷ []))
push_more m old xs x e h =
    let size : length old ≡ length (take m xs) = ap length e in
    let all : length xs < m = omega (arith, size, length-take m xs) in
    let here : length (xs ++ x ∷ []) ≤ m = simp length-append (omega arith) in
    let before : length xs ≤ m = omega arith in
    le-ltb m (length xs) before ∙ sym (le-ltb m (length (xs ++ x ∷ [])) here)

-- without room, the first ones stay
pub full_items : {A : Type 0} (m : ℕ) (old xs : List A) (x : A) → old ≡ take m xs → m ≤ length old → old ≡ take m (xs ++ x ∷ [])
full_items m old xs x e h =
    let size : length old ≡ length (take m xs) = ap length e in
    let enough : m ≤ length xs = omega (arith, size, length-take m xs) in
    e ∙ sym (take-append-le m xs (x ∷ []) enough)

pub full_more : {A : Type 0} (m : ℕ) (old xs : List A) (x : A) → old ≡ take m xs → m ≤ length old → true ≡ nat_lt m (length (xs ++ x ∷ []))
full_more m old xs x e h =
    let size : length old ≡ length (take m xs) = ap length e in
    let enough : m ≤ length xs = omega (arith, size, length-take m xs) in
    let here : m < length (xs ++ x ∷ []) = simp length-append (omega arith) in
    sym (lt-ltb m (length (xs ++ x ∷ [])) here)

-- growing a list behind others
pub grown-append : {A : Type 0} (does : Bool) (x : A) (xs ys : List A) → grown does x (xs ++ ys) ≡ xs ++ grown does x ys
unfolding grown
grown-append true x xs ys = append_assoc xs ys (x ∷ [])
grown-append false x xs ys = refl

-- one more object, and one more sliver
pub on_row_more : (p : Picture) (row k : ℕ) → on_row p row (k + 1) ≡
    grown (stands_on p.registers.object_tiles.size (object_in_turn p k) row) (object_in_turn p k) (on_row p row k)
unfolding on_row
on_row_more p row k = rw add-one refl

-- more than so many on the row stay so, and the first ones stay
grown_long : {A : Type 0} (does : Bool) (x : A) (xs : List A) (m : ℕ) → m < length xs → m < length (grown does x xs)
unfolding grown
grown_long true x xs m h = simp length-append (omega arith)
grown_long false x xs m h = h

grown_first : {A : Type 0} (does : Bool) (x : A) (xs : List A) (m : ℕ) → m < length xs → take m (grown does x xs) ≡ take m xs
unfolding grown
grown_first true x xs m h = take-append-le m xs (x ∷ []) (omega arith)
grown_first false x xs m h = refl

pub on_row_long : (p : Picture) (row k n m : ℕ) → m < length (on_row p row k) → m < length (on_row p row (k + n))
on_row_long p row k zero m h =
    let here : k + 0 ≡ k = omega arith in
    rw here h
on_row_long p row k (suc n) m h =
    let next : k + suc n ≡ k + n + 1 = omega arith in
    rw next (rw (on_row_more p row (k + n)) (grown_long _ _ (on_row p row (k + n)) m (on_row_long p row k n m h)))

pub on_row_first : (p : Picture) (row k n m : ℕ) → m < length (on_row p row k) → take m (on_row p row (k + n)) ≡ take m (on_row p row k)
on_row_first p row k zero m h =
    let here : k + 0 ≡ k = omega arith in
    ap (λ n. take m (on_row p row n)) here
on_row_first p row k (suc n) m h =
    let next : k + suc n ≡ k + n + 1 = omega arith in
    rw next (rw (on_row_more p row (k + n)) (grown_first _ _ (on_row p row (k + n)) m (on_row_long p row k n m h) ∙ on_row_first p row k n m h))

pub slivers_more : (o : Object) (k : ℕ) (xs : List Sliver) → xs ++ first_slivers o (k + 1) ≡
    grown (is_on_screen (sliver_left o k)) (record { object = o; column = k }) (xs ++ first_slivers o k)
unfolding first_slivers
slivers_more o k xs = rw add-one (sym (grown-append (is_on_screen (sliver_left o k)) (record { object = o; column = k }) xs (first_slivers o k)))

-- the slivers from an object on
slivers_from : (code : ℕ) (list : List Object) (d : Object) (i from next : ℕ) → from ≡ i → next ≡ suc i → i < length list →
    all_slivers code (drop from list) ≡ all_slivers code (drop next list) ++ slivers_of code (get_or list i d)
unfolding all_slivers
slivers_from code list d i from next f n below = rw f (rw n (rw (drop-cons list i d below) refl))

-- the slivers of the last objects, and of one more
pub all_slivers_more : (code : ℕ) (list : List Object) (j : ℕ) (d : Object) → j < length list →
    all_slivers code (drop (length list - (j + 1)) list) ≡
    all_slivers code (drop (length list - j) list) ++ slivers_of code (get_or list (length list - 1 - j) d)
all_slivers_more code list j d h =
    slivers_from code list d (length list - 1 - j) (length list - (j + 1)) (length list - j) (omega arith) (omega arith) (omega arith)

pub ruleset turns = all_slivers_more
