-- What a look at the writes that wait finds, place by place.
use Rattle.std.proofs.Common.{◌≡◌, ℕ, ◌+◌, ◌<◌, ◌≤◌, true, false, ◌&&◌, not, List, [], ◌∷◌, length, drop, zero, suc, refl, ap, sym, ◌∙◌, subst, arith, Option, Some, None, if◌then◌else◌, add-one, drop-cons}
use Rattle.std.specs.Prelude.{slice_get, ◌==◌}
use Rattle.std.specs.List.{AllByRecursion}
use Rattle.std.proofs.lemmas.List.{drop_all}
use Rattle.std.proofs.lemmas.Option.{slice_get_within, get_or_from_slice_get}
use Rattle.std.proofs.lemmas.Bool.{and_right}
use Rattle.snes_defs.specs.declared.ports.Side.{Side}
use Rattle.port_entries.specs.LastValue.{sees}
use Rattle.port_entries.proofs.Seen.{unseen_later}
use Rattle.port_log.specs.declared.written.Written.{Written}
use Rattle.port_log.specs.Kept.{is_zeroed, byte_with, byte_by, latched, latches_at, waiting_at}
use Rattle.port_log.specs.Held.{first_stamp, AreInOrder, HasPort}

-- the write at a place, and those after it
pub from-place : (ws : List Written) (i : ℕ) (w : Written) → slice_get ws i ≡ Some w
    → drop i ws ≡ w ∷ drop (i + 1) ws
from-place ws i w e =
    rw add-one
    (drop-cons ws i w (slice_get_within ws i w e)
    ∙ ap (λ x. x ∷ drop (suc i) ws) (get_or_from_slice_get ws i w w e))

pub in-order-rest : (ws : List Written) (i : ℕ) (w : Written) → slice_get ws i ≡ Some w → AreInOrder (drop i ws)
    → AreInOrder (drop (i + 1) ws)
in-order-rest ws i w e h =
    let k : AreInOrder (w ∷ drop (i + 1) ws) = subst AreInOrder (from-place ws i w e) h in k.1

pub looked-at : (side : Side) (clear : Option ℕ) (port at byte : ℕ) (ws : List Written) (i : ℕ) (w : Written)
    → slice_get ws i ≡ Some w
    → byte_by side clear port at byte (drop i ws)
    ≡ byte_by side clear port at (byte_with side clear port at byte w) (drop (i + 1) ws)
looked-at side clear port at byte ws i w e = ap (byte_by side clear port at byte) (from-place ws i w e)

-- no write that comes after one that isn't seen is found
unseen-same : (side : Side) (clear : Option ℕ) (port at byte : ℕ) (w : Written) → sees side w.at at ≡ false
    → byte_with side clear port at byte w ≡ byte
unseen-same side clear port at byte w e =
    ap (λ b. if w.port == port && (b && not (is_zeroed side clear w.at)) then w.byte else byte) e
    ∙ ap (λ b. if b then w.byte else byte) (and_right (w.port == port) false refl)

unseen-all : (side : Side) (clear : Option ℕ) (port at byte t : ℕ) (ws : List Written) → AreInOrder ws
    → t ≤ first_stamp ws t → sees side t at ≡ false → byte_by side clear port at byte ws ≡ byte
unseen-all side clear port at byte t [] h k e = refl
unseen-all side clear port at byte t (w ∷ ws) h k e =
    let hidden = unseen_later side t w.at at e k in
    ap (λ b. byte_by side clear port at b ws) (unseen-same side clear port at byte w hidden)
    ∙ unseen-all side clear port at byte w.at ws h.1 h.0 hidden

pub looked-enough : (side : Side) (clear : Option ℕ) (port at byte : ℕ) (ws : List Written) (i : ℕ) (w : Written)
    → slice_get ws i ≡ Some w → AreInOrder (drop i ws) → sees side w.at at ≡ false
    → byte_by side clear port at byte (drop i ws) ≡ byte
looked-enough side clear port at byte ws i w e h hidden =
    let from = from-place ws i w e in
    let k : AreInOrder (w ∷ drop (i + 1) ws) = subst AreInOrder from h in
    ap (byte_by side clear port at byte) from
    ∙ unseen-all side clear port at byte w.at (w ∷ drop (i + 1) ws) k (omega arith) hidden

pub looked-all : (side : Side) (clear : Option ℕ) (port at byte : ℕ) (ws : List Written) (i : ℕ) → length ws ≤ i
    → byte_by side clear port at byte (drop i ws) ≡ byte
looked-all side clear port at byte ws i h = ap (byte_by side clear port at byte) (drop_all i ws h)

length-none : (ws : List Written) (i : ℕ) → slice_get ws i ≡ None → length ws ≤ i
length-none [] i e = omega arith
length-none (w ∷ ws) zero e = cc
length-none (w ∷ ws) (suc i) e = omega (arith, length-none ws i e)

pub looked-none : (side : Side) (clear : Option ℕ) (port at byte : ℕ) (ws : List Written) (i : ℕ)
    → slice_get ws i ≡ None → byte_by side clear port at byte (drop i ws) ≡ byte
looked-none side clear port at byte ws i e = looked-all side clear port at byte ws i (length-none ws i e)

-- the first of the writes that wait, seen at a clock, moves
module _ (side : Side) (clock : ℕ) (ws : List Written) (w : Written) (e : slice_get ws 0 ≡ Some w) where
  first-is : ws ≡ w ∷ drop 1 ws
  first-is = from-place ws 0 w e

  pub waits-after : sees side w.at clock ≡ true → waiting_at side clock (drop 1 ws) ≡ waiting_at side clock ws
  waits-after seen =
      sym (ap (waiting_at side clock) first-is
      ∙ ap (λ b. if b then waiting_at side clock (drop 1 ws) else w ∷ drop 1 ws) seen)

  pub latches-after : (cleared : List (Option ℕ)) (latches : List ℕ) → sees side w.at clock ≡ true
      → latches_at side clock cleared (latched side cleared latches w) (drop 1 ws)
      ≡ latches_at side clock cleared latches ws
  latches-after cleared latches seen =
      sym (ap (latches_at side clock cleared latches) first-is
      ∙ ap
      (λ b. if b then latches_at side clock cleared (latched side cleared latches w) (drop 1 ws) else latches)
      seen)

  pub waits-still : sees side w.at clock ≡ false → waiting_at side clock ws ≡ ws
  waits-still seen =
      ap (waiting_at side clock) first-is
      ∙ ap (λ b. if b then waiting_at side clock (drop 1 ws) else w ∷ drop 1 ws) seen
      ∙ sym first-is

  pub latches-still : (cleared : List (Option ℕ)) (latches : List ℕ) → sees side w.at clock ≡ false
      → latches_at side clock cleared latches ws ≡ latches
  latches-still cleared latches seen =
      ap (latches_at side clock cleared latches) first-is
      ∙ ap
      (λ b. if b then latches_at side clock cleared (latched side cleared latches w) (drop 1 ws) else latches)
      seen

  pub ports-after : AllByRecursion HasPort ws → AllByRecursion HasPort (drop 1 ws)
  ports-after h = let k : AllByRecursion HasPort (w ∷ drop 1 ws) = subst (AllByRecursion HasPort) first-is h in k.1

  pub first-port : AllByRecursion HasPort ws → HasPort w
  first-port h = let k : AllByRecursion HasPort (w ∷ drop 1 ws) = subst (AllByRecursion HasPort) first-is h in k.0

  pub fewer : length (drop 1 ws) < length ws
  fewer = omega (arith, ap length first-is)

-- where there is no first, none waits
pub none-first : (ws : List Written) → slice_get ws 0 ≡ None → ws ≡ []
none-first [] e = refl
none-first (w ∷ ws) e = cc
