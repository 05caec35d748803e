-- How many bytes of video the clocks of a console emit: 1,024 for each row whose place the beam passes.
use Rattle.std.proofs.Common.{◌≡◌, ℕ, ◌+◌, ◌-◌, ◌*◌, ◌<◌, ◌≤◌, ◌==◌, ◌&&◌, nat_le, min, Bool, true, false, List, [], ◌∷◌, ◌++◌, length, length-append, refl, sym, ap, subst, ◌∙◌, ⊎_elim, arith, if◌then◌else◌}
use Rattle.std.proofs.lemmas.Bool.{cases_eq}
use Rattle.std.proofs.lemmas.Bool.Decides.{nat_tests}
use Rattle.snes_defs.specs.declared.region.Region.{Region}
use Rattle.snes_defs.specs.declared.region.Region.TheVariants.{Ntsc, Pal}
use Rattle.beam.specs.declared.events.Event.{Event}
use Rattle.beam.specs.declared.events.Event.TheVariants.{Line, Blank, HdmaFrame, Refresh, Draw, HdmaLine, Timer}
use Rattle.beam.specs.declared.events.Happens.{Happens}
use Rattle.beam.specs.Events.{BeamValue, one_if, events_of, happens_next, happens_at, lines_of, next_h, next_v}
use Rattle.console_bus.specs.BusState.{BusState}
use Rattle.console_bus.specs.Happenings.{row_bytes, byte_of_dots, shown_dot}
use Rattle.console_steps.specs.ConsoleState.{ConsoleState, after_event, bytes_of_events}
use Rattle.console_steps.proofs.RowBytes.{length-list_of}

-- ---- the rows among events

abbrev pub draws : List Event → ℕ
draws [] = 0
draws (Line ∷ es) = draws es
draws (Blank ∷ es) = draws es
draws (HdmaFrame ∷ es) = draws es
draws (Refresh ∷ es) = draws es
draws (Draw ∷ es) = 1 + draws es
draws (HdmaLine ∷ es) = draws es
draws (Timer ∷ es) = draws es

draws_joined : (xs ys : List Event) → draws (xs ++ ys) ≡ draws xs + draws ys
draws_joined [] ys = omega arith
draws_joined (Line ∷ xs) ys = draws_joined xs ys
draws_joined (Blank ∷ xs) ys = draws_joined xs ys
draws_joined (HdmaFrame ∷ xs) ys = draws_joined xs ys
draws_joined (Refresh ∷ xs) ys = draws_joined xs ys
draws_joined (Draw ∷ xs) ys = let rest = draws_joined xs ys in omega (arith, rest)
draws_joined (HdmaLine ∷ xs) ys = draws_joined xs ys
draws_joined (Timer ∷ xs) ys = draws_joined xs ys

row_size : (r : BusState) → length (row_bytes r) ≡ 1024
unfolding row_bytes
row_size r = length-list_of 1024 (byte_of_dots (shown_dot r))

pub bytes_size : (w : ConsoleState) (es : List Event) → length (bytes_of_events w es) ≡ 1024 * draws es
bytes_size w [] = refl
bytes_size w (Line ∷ es) = bytes_size (after_event w Line) es
bytes_size w (Blank ∷ es) = bytes_size (after_event w Blank) es
bytes_size w (HdmaFrame ∷ es) = bytes_size (after_event w HdmaFrame) es
bytes_size w (Refresh ∷ es) = bytes_size (after_event w Refresh) es
bytes_size w (Draw ∷ es) =
    let row = row_size w.rest in
    let rest = bytes_size (after_event w Draw) es in
    let both = length-append (row_bytes w.rest) (bytes_of_events (after_event w Draw) es) in
    omega (arith, row, rest, both)
bytes_size w (HdmaLine ∷ es) = bytes_size (after_event w HdmaLine) es
bytes_size w (Timer ∷ es) = bytes_size (after_event w Timer) es

abbrev pub one : Bool → ℕ
one b = if b then 1 else 0

-- an event that draws nothing
none_if : (b : Bool) (e : Event) → draws (e ∷ []) ≡ 0 → draws (one_if b e) ≡ 0
none_if true e none = none
none_if false e none = refl

row_if : (b : Bool) → draws (one_if b Draw) ≡ one b
row_if true = refl
row_if false = refl

pub draws_of : (h : Happens) → draws (events_of h) ≡ one h.draw
unfolding events_of
draws_of h =
    let a = one_if h.line Line in
    let b = a ++ one_if h.blank Blank in
    let d = b ++ one_if h.hdma_frame HdmaFrame in
    let e = d ++ one_if h.refresh Refresh in
    let f = e ++ one_if h.draw Draw in
    let g = f ++ one_if h.hdma_line HdmaLine in
    let last = draws_joined g (one_if h.timer Timer) in
    let sixth = draws_joined f (one_if h.hdma_line HdmaLine) in
    let fifth = draws_joined e (one_if h.draw Draw) in
    let fourth = draws_joined d (one_if h.refresh Refresh) in
    let third = draws_joined b (one_if h.hdma_frame HdmaFrame) in
    let second = draws_joined a (one_if h.blank Blank) in
    let line = none_if h.line Line refl in
    let blank = none_if h.blank Blank refl in
    let hdma = none_if h.hdma_frame HdmaFrame refl in
    let refresh = none_if h.refresh Refresh refl in
    let row = row_if h.draw in
    let hdma_line = none_if h.hdma_line HdmaLine refl in
    let timer = none_if h.timer Timer refl in
    omega (arith, last, sixth, fifth, fourth, third, second, line, blank, hdma, refresh, row, hdma_line, timer)

-- ---- the rows of a frame with the beam at a place

unfoldable pub is_row : (v h : ℕ) → Bool
is_row v h = (h == 1096 && nat_le 1 v) && nat_le v 239

pub draws_next : (o : Bool) (b : BeamValue) → (happens_next o b).draw ≡ is_row (next_v b.region b.v b.h) (next_h b.h)
unfolding happens_next happens_at is_row
draws_next o b = refl

-- the row of line v comes at line clock 1096
unfoldable pub rows_by : (v h : ℕ) → ℕ
rows_by v h = if v == 0 then 0 else min 239 ((v - 1) + one (nat_le 1096 h))

-- one clock on within a line, at the end of a line, and at the end of a frame
within_line : (v h : ℕ) → h < 1363 → rows_by v (h + 1) ≡ rows_by v h + one (is_row v (h + 1))
unfolding rows_by is_row
within_line v h lt = grind (arith, nat_tests)

line_ends : (v : ℕ) → rows_by (v + 1) 0 ≡ rows_by v 1363 + one (is_row (v + 1) 0)
unfolding rows_by is_row
line_ends v = grind (arith, nat_tests)

frame_ends : (v : ℕ) → 239 ≤ v → rows_by v 1363 ≡ 239
unfolding rows_by
frame_ends v le = grind (arith, nat_tests)

pub frame_top : (h : ℕ) → rows_by 0 h ≡ 0
unfolding rows_by
frame_top h = refl

top_row : one (is_row 0 0) ≡ 0
unfolding is_row
top_row = refl

first_place : rows_by 0 0 ≡ 0 + one (is_row 0 0)
unfolding rows_by is_row
first_place = refl

enough_lines : (region : Region) (v : ℕ) → v + 1 ≡ lines_of region → 239 ≤ v
enough_lines Ntsc v is = omega (arith, is)
enough_lines Pal v is = omega (arith, is)

-- one clock on, where the frame may have ended
pub rows_so : (region : Region) (frame v h frame' v' h' : ℕ) → v < lines_of region → h < 1364
    → h' ≡ (if h == 1363 then 0 else h + 1)
    → v' ≡ (if h == 1363 then (if v + 1 == lines_of region then 0 else v + 1) else v)
    → frame' ≡ (if h' == 0 then (if v' == 0 then frame + 1 else frame) else frame)
    → 239 * frame' + rows_by v' h' ≡ (239 * frame + rows_by v h) + one (is_row v' h')
rows_so region frame v h frame' v' h' line dot dot_is line_is frame_is = ⊎_elim ends inside (cases_eq h 1363)
  where
    -- the rows at the next place, if that place is known
    at : (x y m : ℕ) → v' ≡ x → h' ≡ y → rows_by x y ≡ m + one (is_row x y) → rows_by v' h' ≡ m + one (is_row v' h')
    at x y m is_x is_y rows =
        subst (λ a. rows_by a h' ≡ m + one (is_row a h')) (sym is_x)
        (subst (λ b. rows_by x b ≡ m + one (is_row x b)) (sym is_y) rows)

    inside : (h ≡ 1363 → ⊥) → 239 * frame' + rows_by v' h' ≡ (239 * frame + rows_by v h) + one (is_row v' h')
    inside ne =
        let lt : h < 1363 = omega (arith, dot, ne) in
        let d : h' ≡ h + 1 = grind (arith, nat_tests) in
        let l : v' ≡ v = grind (arith, nat_tests) in
        let f : frame' ≡ frame = grind (arith, nat_tests) in
        let rows = at v (h + 1) (rows_by v h) l d (within_line v h lt) in
        omega (arith, rows, f)

    ends : h ≡ 1363 → 239 * frame' + rows_by v' h' ≡ (239 * frame + rows_by v h) + one (is_row v' h')
    ends is =
        let d : h' ≡ 0 = grind (arith, nat_tests) in
        let here : rows_by v h ≡ rows_by v 1363 = ap (rows_by v) is in
        ⊎_elim
        (λ last.
        let l : v' ≡ 0 = grind (arith, nat_tests) in
        let f : frame' ≡ frame + 1 = grind (arith, nat_tests) in
        let rows = at 0 0 0 l d first_place in
        let none : one (is_row v' h') ≡ 0 = ap (λ x. one (is_row x h')) l ∙ ap (λ x. one (is_row 0 x)) d ∙ top_row in
        let all = frame_ends v (enough_lines region v last) in
        omega (arith, rows, none, all, here, f))
        (λ more.
        let l : v' ≡ v + 1 = grind (arith, nat_tests) in
        let f : frame' ≡ frame = grind (arith, nat_tests) in
        let rows = at (v + 1) 0 (rows_by v 1363) l d (line_ends v) in
        omega (arith, rows, here, f))
        (cases_eq (v + 1) (lines_of region))
