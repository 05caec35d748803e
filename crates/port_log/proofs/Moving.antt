-- What moves to the latches: a side finds the same byte after it, at each stamp that it may still ask for.
use Rattle.std.proofs.Common.{◌≡◌, ℕ, ◌+◌, ◌<◌, ◌≤◌, ◌==◌, Bool, true, false, ◌&&◌, not, List, [], ◌∷◌, ◌++◌, length, get_or, set, refl, ap, sym, ◌∙◌, subst, arith, Option, Some, None, if◌then◌else◌, inl, inr}
use Rattle.std.specs.List.{AllByRecursion}
use Rattle.std.proofs.lemmas.Bool.Decides.{eqb_tells}
use Rattle.std.proofs.lemmas.List.{get_or-set_same, get_or-set_other, length-set}
use Rattle.snes_defs.specs.declared.ports.Side.{Side}
use Rattle.port_entries.specs.Entry.{covers}
use Rattle.port_entries.specs.LastValue.{sees}
use Rattle.port_entries.proofs.Seen.{seen_later, unseen_later}
use Rattle.port_log.specs.declared.written.Written.{Written}
use Rattle.port_log.specs.Kept.{SideValue, greatest_clear, is_zeroed, byte_by, found_in, later, latches_after, after_clear, latched, latches_at, waiting_at, after_clock, after_write}
use Rattle.port_log.specs.Held.{AreSpaced, HasPort, AreUnseen, IsHeld}
use Rattle.port_log.proofs.Clears.{greatest-once, latch-once}

-- what a write to a latch leaves there and elsewhere, unless it is zeroed
set-own : (latches : List ℕ) (p byte : ℕ) (zeroed : Bool) → p < length latches
    → get_or (if zeroed then latches else set latches p byte) p 0 ≡ (if not zeroed then byte else get_or latches p 0)
set-own latches p byte true h = refl
set-own latches p byte false h = get_or-set_same latches p byte 0 h

set-else : (latches : List ℕ) (p port byte : ℕ) (zeroed : Bool) → (port ≡ p → ⊥)
    → get_or (if zeroed then latches else set latches p byte) port 0 ≡ get_or latches port 0
set-else latches p port byte true ne = refl
set-else latches p port byte false ne = get_or-set_other latches p port byte 0 ne

length-set-by : (latches : List ℕ) (p byte : ℕ) (zeroed : Bool)
    → length (if zeroed then latches else set latches p byte) ≡ length latches
length-set-by latches p byte true = refl
length-set-by latches p byte false = length-set latches p byte

-- the latch of a port after a write, by the greatest clear of that port
latch-set : (side : Side) (cleared : List (Option ℕ)) (latches : List ℕ) (w : Written) (port : ℕ)
    → w.port < length latches
    → get_or (latched side cleared latches w) port 0
    ≡ (if w.port == port && (true && not (is_zeroed side (greatest_clear cleared port) w.at)) then w.byte else get_or latches port 0)
latch-set side cleared latches w port h =
    elim (eqb_tells w.port port) [
      | inl e ↦
          subst
          (λ (q : ℕ). get_or (latched side cleared latches w) q 0
          ≡ (if not (is_zeroed side (greatest_clear cleared q) w.at) then w.byte else get_or latches q 0))
          e.1
          (set-own latches w.port w.byte (is_zeroed side (greatest_clear cleared w.port) w.at) h)
          ∙ ap (λ b. if b && (true && not (is_zeroed side (greatest_clear cleared port) w.at)) then w.byte else get_or latches port 0)
          (sym e.0)
      | inr e ↦
          set-else latches w.port port w.byte (is_zeroed side (greatest_clear cleared w.port) w.at) (λ q. e.1 (sym q))
          ∙ ap (λ b. if b && (true && not (is_zeroed side (greatest_clear cleared port) w.at)) then w.byte else get_or latches port 0)
          (sym e.0)
    ]

pub length-latched : (side : Side) (cleared : List (Option ℕ)) (latches : List ℕ) (w : Written)
    → length (latched side cleared latches w) ≡ length latches
length-latched side cleared latches w =
    length-set-by latches w.port w.byte (is_zeroed side (greatest_clear cleared w.port) w.at)

-- the steps of what follows, by whether the side sees the first write at its clock
module _ (side : Side) (clock : ℕ) (cleared : List (Option ℕ)) where
  length-by : (b : Bool) (w : Written) (waiting : List Written) (latches : List ℕ)
      → length (latches_at side clock cleared (latched side cleared latches w) waiting) ≡ length (latched side cleared latches w)
      → length (if b then latches_at side clock cleared (latched side cleared latches w) waiting else latches) ≡ length latches
  length-by true w waiting latches h = h ∙ length-latched side cleared latches w
  length-by false w waiting latches h = refl

  pub length-latches_at : (waiting : List Written) (latches : List ℕ)
      → length (latches_at side clock cleared latches waiting) ≡ length latches
  length-latches_at [] latches = refl
  length-latches_at (w ∷ waiting) latches =
      length-by (sees side w.at clock) w waiting latches (length-latches_at waiting (latched side cleared latches w))

  moved-by : (b : Bool) (port at : ℕ) (w : Written) (waiting : List Written) (latches : List ℕ)
      → sees side w.at clock ≡ b → w.port < length latches → clock ≤ at
      → byte_by side (greatest_clear cleared port) port at
      (get_or (latches_at side clock cleared (latched side cleared latches w) waiting) port 0) (waiting_at side clock waiting)
      ≡ byte_by side (greatest_clear cleared port) port at (get_or (latched side cleared latches w) port 0) waiting
      → byte_by side (greatest_clear cleared port) port at
      (get_or (if b then latches_at side clock cleared (latched side cleared latches w) waiting else latches) port 0)
      (if b then waiting_at side clock waiting else w ∷ waiting)
      ≡ byte_by side (greatest_clear cleared port) port at (get_or latches port 0) (w ∷ waiting)
  moved-by true port at w waiting latches e small h so_far =
      let seen = seen_later side w.at clock at e h in
      so_far
      ∙ ap (λ l. byte_by side (greatest_clear cleared port) port at l waiting)
      (latch-set side cleared latches w port small
      ∙ ap (λ b. if w.port == port && (b && not (is_zeroed side (greatest_clear cleared port) w.at)) then w.byte else get_or latches port 0)
      (sym seen))
  moved-by false port at w waiting latches e small h so_far = refl

  -- a byte that is the same whether the writes wait or have moved
  moved : (port at : ℕ) (waiting : List Written) (latches : List ℕ) → length latches ≡ 4
      → AllByRecursion HasPort waiting → clock ≤ at
      → byte_by side (greatest_clear cleared port) port at
      (get_or (latches_at side clock cleared latches waiting) port 0) (waiting_at side clock waiting)
      ≡ byte_by side (greatest_clear cleared port) port at (get_or latches port 0) waiting
  moved port at [] latches four ports h = refl
  moved port at (w ∷ waiting) latches four ports h =
      moved-by (sees side w.at clock) port at w waiting latches refl (omega (arith, ports.0)) h
      (moved port at waiting (latched side cleared latches w) (length-latched side cleared latches w ∙ four) ports.1 h)

  not-before : (clear : Option ℕ) (t : ℕ) → clock ≤ t → clock ≤ later clear t
  not-before None t h = h
  not-before (Some before) t h = omega arith

  stays-zero : (found same : Bool) (byte : ℕ) → 0 ≡ (if same && (found && not true) then byte else 0)
  stays-zero true true byte = refl
  stays-zero true false byte = refl
  stays-zero false true byte = refl
  stays-zero false false byte = refl

  zeroed-step : (b : Bool) (clear : Option ℕ) (t port at : ℕ) (w : Written) (waiting : List Written)
      → sees side w.at clock ≡ b → clock ≤ t
      → byte_by side (Some (later clear t)) port at 0 (waiting_at side clock waiting)
      ≡ byte_by side (Some (later clear t)) port at 0 waiting
      → byte_by side (Some (later clear t)) port at 0 (if b then waiting_at side clock waiting else w ∷ waiting)
      ≡ byte_by side (Some (later clear t)) port at 0 (w ∷ waiting)
  zeroed-step true clear t port at w waiting e h so_far =
      let seen = seen_later side w.at clock (later clear t) e (not-before clear t h) in
      so_far
      ∙ ap (λ l. byte_by side (Some (later clear t)) port at l waiting)
      (stays-zero (sees side w.at at) (w.port == port) w.byte
      ∙ ap (λ z. if w.port == port && (sees side w.at at && not z) then w.byte else 0) (sym seen))
  zeroed-step false clear t port at w waiting e h so_far = refl

  -- the same after a clear that zeroes all that has moved
  moved-zeroed : (clear : Option ℕ) (t port at : ℕ) (waiting : List Written) → clock ≤ t
      → byte_by side (Some (later clear t)) port at 0 (waiting_at side clock waiting)
      ≡ byte_by side (Some (later clear t)) port at 0 waiting
  moved-zeroed clear t port at [] h = refl
  moved-zeroed clear t port at (w ∷ waiting) h =
      zeroed-step (sees side w.at clock) clear t port at w waiting refl h (moved-zeroed clear t port at waiting h)

-- a side finds the same bytes after it has published a clock
pub found-moved : (side : Side) (clock : ℕ) (kept : SideValue) (port at : ℕ) → length kept.latches ≡ 4
    → AllByRecursion HasPort kept.waiting → clock ≤ at
    → found_in side (after_clock side clock kept) port at ≡ found_in side kept port at
found-moved side clock kept port at four ports h = moved side clock kept.cleared port at kept.waiting kept.latches four ports h

-- and so it does where a clear comes afterwards
module _ (side : Side) (clock : ℕ) (kept : SideValue) (t mask port at : ℕ) (latches : length kept.latches ≡ 4) (cleared : length kept.cleared ≡ 4) (ports : AllByRecursion HasPort kept.waiting) (small : port < 4) where
  moved-cleared : (covered : Bool) → covers mask port ≡ covered → clock ≤ t → clock ≤ at
      → found_in side (after_clear t mask (after_clock side clock kept)) port at
      ≡ found_in side (after_clear t mask kept) port at
  moved-cleared true e h k =
      let now = latches_at side clock kept.cleared kept.latches kept.waiting in
      let four : length now ≡ 4 = length-latches_at side clock kept.cleared kept.waiting kept.latches ∙ latches in
      let c = greatest-once kept.cleared mask t port true (omega arith) e in
      let l = latch-once kept.latches mask port true (omega arith) e in
      let m = latch-once now mask port true (omega arith) e in
      ap (λ x. byte_by side x port at (get_or (latches_after now 0 mask) port 0) (waiting_at side clock kept.waiting)) c
      ∙ ap (λ x. byte_by side (Some (later (greatest_clear kept.cleared port) t)) port at x (waiting_at side clock kept.waiting)) m
      ∙ moved-zeroed side clock kept.cleared (greatest_clear kept.cleared port) t port at kept.waiting h
      ∙ sym (ap (λ x. byte_by side x port at (get_or (latches_after kept.latches 0 mask) port 0) kept.waiting) c
      ∙ ap (λ x. byte_by side (Some (later (greatest_clear kept.cleared port) t)) port at x kept.waiting) l)
  moved-cleared false e h k =
      let now = latches_at side clock kept.cleared kept.latches kept.waiting in
      let four : length now ≡ 4 = length-latches_at side clock kept.cleared kept.waiting kept.latches ∙ latches in
      let c = greatest-once kept.cleared mask t port false (omega arith) e in
      let l = latch-once kept.latches mask port false (omega arith) e in
      let m = latch-once now mask port false (omega arith) e in
      ap (λ x. byte_by side x port at (get_or (latches_after now 0 mask) port 0) (waiting_at side clock kept.waiting)) c
      ∙ ap (λ x. byte_by side (greatest_clear kept.cleared port) port at x (waiting_at side clock kept.waiting)) m
      ∙ moved side clock kept.cleared port at kept.waiting kept.latches latches ports k
      ∙ sym (ap (λ x. byte_by side x port at (get_or (latches_after kept.latches 0 mask) port 0) kept.waiting) c
      ∙ ap (λ x. byte_by side (greatest_clear kept.cleared port) port at x kept.waiting) l)

  pub found-moved-cleared : clock ≤ t → clock ≤ at
      → found_in side (after_clear t mask (after_clock side clock kept)) port at
      ≡ found_in side (after_clear t mask kept) port at
  found-moved-cleared h k = moved-cleared (covers mask port) refl h k

pub to-ports-append : (ws : List Written) (w : Written) → AllByRecursion HasPort ws → HasPort w
    → AllByRecursion HasPort (ws ++ w ∷ [])
to-ports-append [] w h k = (k, tt)
to-ports-append (x ∷ ws) w h k = (h.0, to-ports-append ws w h.1 k)

-- the first of some spaced writes is below the clock
pub spaced-below : (least clock : ℕ) (w : Written) (waiting : List Written)
    → AreSpaced least clock (w ∷ waiting) → w.at + least ≤ clock
spaced-below least clock w [] h = h.0
spaced-below least clock w (x ∷ waiting) h = omega (arith, h.0, spaced-below least clock x waiting h.1)

-- where the side sees a write that comes now, none waits
none-waits : (side : Side) (least other clock at : ℕ) (waiting : List Written) → AreSpaced least other waiting
    → AreUnseen side clock waiting → other ≤ at → sees side at clock ≡ true → waiting ≡ []
none-waits side least other clock at [] spaced unseen h seen = refl
none-waits side least other clock at (w ∷ waiting) spaced unseen h seen =
    let hidden = unseen_later side w.at at clock unseen (omega (arith, spaced-below least other w waiting spaced)) in
    cc

-- a write that comes where none waits and that the side sees has waited and moved at once
moved-at-once : (side : Side) (w : Written) (kept : SideValue) → kept.waiting ≡ []
    → sees side w.at kept.clock ≡ true
    → after_clock side kept.clock (record kept { waiting = kept.waiting ++ w ∷ [] })
    ≡ record kept { latches = latched side kept.cleared kept.latches w }
moved-at-once side w kept empty seen =
    let Same : List Written → Type 0 =
    λ ws.
    after_clock side kept.clock (record kept { waiting = ws ++ w ∷ [] })
    ≡ record kept { waiting = ws; latches = latched side kept.cleared kept.latches w } in
    let alone : Same [] =
    ap
    (λ (b : Bool). record kept {
      waiting = if b then [] else w ∷ [];
      latches = if b then latched side kept.cleared kept.latches w else kept.latches;
    })
    seen in
    subst Same (sym empty) alone

-- what is kept after a write that comes now: it waits, or it has waited and moved at once
pub received-by : (side : Side) (w : Written) (kept : SideValue) (least other : ℕ)
    → IsHeld side least other kept → other ≤ w.at → (P : SideValue → Type 0)
    → P (record kept { waiting = kept.waiting ++ w ∷ [] })
    → P (after_clock side kept.clock (record kept { waiting = kept.waiting ++ w ∷ [] }))
    → P (after_write side w kept)
received-by side w kept least other held h P waits moves = by-seen (sees side w.at kept.clock) refl
  where
    by-seen : (b : Bool) → sees side w.at kept.clock ≡ b
        → P (record kept {
          waiting = if b then kept.waiting else kept.waiting ++ w ∷ [];
          latches = if b then latched side kept.cleared kept.latches w else kept.latches;
        })
    by-seen true e =
        let empty = none-waits side least other kept.clock w.at kept.waiting held.spaced held.unseen h e in
        subst P (moved-at-once side w kept empty e) moves
    by-seen false e = waits
