-- Objects that are too far by their Y don't stand on the row.
use Rattle.std.proofs.Common.{◌≡◌, ℕ, zero, suc, ◌+◌, ◌*◌, ◌%◌, ◌<◌, ◌≤◌, ◌&&◌, Bool, true, false, nat_lt, List, [], slice_index, if◌then◌else◌, refl, sym, ap, ◌∙◌, arith}
use Rattle.ppu_regs.specs.Picture.{Picture}
use Rattle.ppu_objects.specs.declared.objects.Object.{Object}
use Rattle.ppu_objects.specs.Near.{near_mark}
use Rattle.ppu_objects.specs.Objects.{line_in, height_of, stands_on, grown, on_row, object_of, object_in_turn, first_object, place_in_turn}
use Rattle.ppu_objects.proofs.Firsts.{on_row_more}

-- eight numbers whose sum is 0
eight_zero : (f : ℕ → ℕ) (j : ℕ) → j < 8 → f 0 + f 1 + f 2 + f 3 + (f 4 + f 5 + f 6 + f 7) ≡ 0 → f j ≡ 0
eight_zero f zero h s = omega (arith, s)
eight_zero f (suc zero) h s = omega (arith, s)
eight_zero f (suc (suc zero)) h s = omega (arith, s)
eight_zero f (suc (suc (suc zero))) h s = omega (arith, s)
eight_zero f (suc (suc (suc (suc zero)))) h s = omega (arith, s)
eight_zero f (suc (suc (suc (suc (suc zero))))) h s = omega (arith, s)
eight_zero f (suc (suc (suc (suc (suc (suc zero)))))) h s = omega (arith, s)
eight_zero f (suc (suc (suc (suc (suc (suc (suc zero))))))) h s = omega (arith, s)
eight_zero f (suc (suc (suc (suc (suc (suc (suc (suc j)))))))) h s = absurd (omega arith)

pub marks_zero : (near : List ℕ) (at j : ℕ) → j < 8 →
    slice_index near at + slice_index near (at + 1) + slice_index near (at + 2) + slice_index near (at + 3)
    + (slice_index near (at + 4) + slice_index near (at + 5) + slice_index near (at + 6) + slice_index near (at + 7)) ≡ 0 →
    slice_index near (at + j) ≡ 0
marks_zero near at j h s =
    let start : at + 0 ≡ at = omega arith in
    eight_zero (λ i. slice_index near (at + i)) j h (rw start s)

pub ruleset marks = marks_zero

-- an object without a mark
unmarked : (b : Bool) → (let n : ℕ = if b then 1 else 0 in n) ≡ 0 → b ≡ false
unmarked true h = absurd (omega (arith, h))
unmarked false h = refl

too_far : (line height tall : ℕ) (b : Bool) → height ≤ tall → nat_lt line tall ≡ false → (nat_lt line height && b) ≡ false
too_far line height tall b h far = grind arith

pub stands_not :
    (code : ℕ) (o : Object) (row tall : ℕ) → ((large : Bool) → height_of code large ≤ tall) → near_mark tall row o.y ≡ 0 →
    stands_on code o row ≡ false
unfolding near_mark stands_on
stands_not code o row tall most none =
    too_far (line_in o.y row) (height_of code o.large) tall _ (most o.large) (unmarked (nat_lt (line_in o.y row) tall) none)

pub grown_not :
    (code : ℕ) (o : Object) (row tall : ℕ) (xs : List Object) → ((large : Bool) → height_of code large ≤ tall) →
    near_mark tall row o.y ≡ 0 → xs ≡ grown (stands_on code o row) o xs
unfolding grown
grown_not code o row tall xs most none = rw (stands_not code o row tall most none) refl

pub ruleset far = grown_not

-- the mark of an object in turn
pub mark_in_turn :
    (p : Picture) (near : List ℕ) (row tall first k : ℕ) → first ≡ first_object p → first + k < 256 →
    ((n : ℕ) → n < 256 → slice_index near n ≡ near_mark tall row (slice_index p.oam (4 * (n % 128) + 1))) →
    slice_index near (first + k) ≡ near_mark tall row (object_in_turn p k).y
unfolding object_in_turn object_of place_in_turn
mark_in_turn p near row tall first k is small marks =
    marks (first + k) small ∙ ap (λ n. near_mark tall row (slice_index p.oam (4 * ((n + k) % 128) + 1))) is

skip_one :
    (p : Picture) (row tall k n : ℕ) → ((large : Bool) → height_of p.registers.object_tiles.size large ≤ tall) →
    near_mark tall row (object_in_turn p k).y ≡ 0 → n ≡ k + 1 → on_row p row n ≡ on_row p row k
skip_one p row tall k n most none next =
    ap (on_row p row) next ∙ on_row_more p row k
    ∙ sym (grown_not p.registers.object_tiles.size (object_in_turn p k) row tall (on_row p row k) most none)

-- eight objects without marks
pub skip_eight :
    (p : Picture) (near : List ℕ) (row tall first k : ℕ) → ((large : Bool) → height_of p.registers.object_tiles.size large ≤ tall) →
    first ≡ first_object p → first + k + 8 ≤ 256 →
    ((n : ℕ) → n < 256 → slice_index near n ≡ near_mark tall row (slice_index p.oam (4 * (n % 128) + 1))) →
    ((j : ℕ) → j < 8 → slice_index near (first + k + j) ≡ 0) → on_row p row (k + 8) ≡ on_row p row k
skip_eight p near row tall first k most is small marks none =
    let mark : (j : ℕ) → j < 8 → near_mark tall row (object_in_turn p (k + j)).y ≡ 0 =
    (λ j h.
    let place : first + k + j ≡ first + (k + j) = omega arith in
    sym (mark_in_turn p near row tall first (k + j) is (omega arith) marks) ∙ ap (λ n. slice_index near n) (sym place) ∙ none j h)
    in
    let start : k + 0 ≡ k = omega arith in
    skip_one p row tall (k + 7) (k + 8) most (mark 7 (omega arith)) (omega arith)
    ∙ skip_one p row tall (k + 6) (k + 7) most (mark 6 (omega arith)) (omega arith)
    ∙ skip_one p row tall (k + 5) (k + 6) most (mark 5 (omega arith)) (omega arith)
    ∙ skip_one p row tall (k + 4) (k + 5) most (mark 4 (omega arith)) (omega arith)
    ∙ skip_one p row tall (k + 3) (k + 4) most (mark 3 (omega arith)) (omega arith)
    ∙ skip_one p row tall (k + 2) (k + 3) most (mark 2 (omega arith)) (omega arith)
    ∙ skip_one p row tall (k + 1) (k + 2) most (mark 1 (omega arith)) (omega arith)
    ∙ skip_one p row tall (k + 0) (k + 1) most (mark 0 (omega arith)) (omega arith)
    ∙ ap (on_row p row) start

-- where no object has a mark, none stands on the row
pub none_on_row :
    (p : Picture) (near : List ℕ) (row tall first k : ℕ) → ((large : Bool) → height_of p.registers.object_tiles.size large ≤ tall) →
    first ≡ first_object p → first + k ≤ 256 →
    ((n : ℕ) → n < 256 → slice_index near n ≡ near_mark tall row (slice_index p.oam (4 * (n % 128) + 1))) →
    ((n : ℕ) → n < 256 → slice_index near n ≡ 0) → on_row p row k ≡ []
unfolding on_row
none_on_row p near row tall first zero most is small marks none = refl
none_on_row p near row tall first (suc k) most is small marks none =
    let within : first + k < 256 = omega (arith, small) in
    skip_one p row tall k (suc k) most (sym (mark_in_turn p near row tall first k is within marks) ∙ none (first + k) within) (omega arith)
    ∙ none_on_row p near row tall first k most is (omega (arith, small)) marks none
