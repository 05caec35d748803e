-- What one side reads: the byte by what the log keeps is the last value by the lists.
use Rattle.std.proofs.Common.{◌≡◌, ℕ, ◌≤◌, ◌==◌, Bool, true, false, ◌&&◌, ◌||◌, not, List, [], ◌∷◌, ◌++◌, refl, ap, sym, ◌∙◌, Option, Some, None, if◌then◌else◌}
use Rattle.std.specs.List.{AllByRecursion, list_all}
use Rattle.std.proofs.lemmas.List.Folds.{list_all-append}
use Rattle.std.proofs.lemmas.List.Sums.{fold-append}
use Rattle.snes_defs.specs.declared.ports.Side.{Side}
use Rattle.port_entries.specs.Entry.{Entry, WriteAt, ClearAt, covers}
use Rattle.port_entries.specs.LastValue.{sees, leaves, byte_after, byte_after_all, last_value}
use Rattle.port_entries.specs.Window.{IsSettled}
use Rattle.port_entries.proofs.LastValues.{byte_after_all-append}
use Rattle.port_entries.proofs.Seen.{unseen_later, settled_unseen}
use Rattle.port_log.specs.declared.written.Written.{Written}
use Rattle.port_log.specs.Kept.{is_zeroed, byte_with, byte_by}
use Rattle.port_log.specs.Entries.{IsSettledClear}

-- what a clear has settled doesn't zero what the other side writes later
unseen : (side : Side) (at other written : ℕ) → IsSettled side at other → other ≤ written
    → sees side written at ≡ false
unseen side at other written h k = unseen_later side other written at (settled_unseen side at other h) k

pub unzeroed : (side : Side) (clear : Option ℕ) (other written : ℕ)
    → ((at : ℕ) → clear ≡ Some at → IsSettled side at other) → other ≤ written
    → is_zeroed side clear written ≡ false
unzeroed side None other written h k = refl
unzeroed side (Some at) other written h k = unseen side at other written (h at refl) k

pub or-true : (a : Bool) → (a || true) ≡ true
or-true true = refl
or-true false = refl

pub and-true : (a : Bool) → (a && true) ≡ a
and-true true = refl
and-true false = refl

leaves-clear : (side : Side) (port at mask other written : ℕ) → IsSettled side at other
    → other ≤ written → leaves side port written (ClearAt at mask) ≡ true
leaves-clear side port at mask other written h k =
    ap (λ b. not (covers mask port) || not b) (unseen side at other written h k)
    ∙ or-true (not (covers mask port))

pub all-leave : (side : Side) (own : List Entry) (port other written : ℕ)
    → AllByRecursion (IsSettledClear side other) own → other ≤ written
    → list_all (leaves side port written) own ≡ true
all-leave side [] port other written h k = refl
all-leave side (WriteAt at q byte ∷ own) port other written h k = all-leave side own port other written h.1 k
all-leave side (ClearAt at mask ∷ own) port other written h k =
    ap (λ b. b && list_all (leaves side port written) own) (leaves-clear side port at mask other written h.0 k)
    ∙ all-leave side own port other written h.1 k

-- the last value is the same by lists of the side's own that leave the same
after-same : (side : Side) (mine yours : List Entry) (port at byte : ℕ)
    → ((written : ℕ) → list_all (leaves side port written) mine ≡ list_all (leaves side port written) yours)
    → (e : Entry) → byte_after side mine port at byte e ≡ byte_after side yours port at byte e
after-same side mine yours port at byte h (ClearAt t mask) = refl
after-same side mine yours port at byte h (WriteAt t p v) =
    ap (λ b. if p == port && (sees side t at && b) then v else byte) (h t)

pub value-same : (side : Side) (mine yours : List Entry) (port at : ℕ)
    → ((written : ℕ) → list_all (leaves side port written) mine ≡ list_all (leaves side port written) yours)
    → (others : List Entry) (byte : ℕ)
    → byte_after_all side mine port at byte others ≡ byte_after_all side yours port at byte others
value-same side mine yours port at h [] byte = refl
value-same side mine yours port at h (e ∷ others) byte =
    value-same side mine yours port at h others (byte_after side mine port at byte e)
    ∙ ap (λ b. byte_after_all side yours port at b others) (after-same side mine yours port at byte h e)

-- one more entry of the other side
pub value-append : (side : Side) (own : List Entry) (port at : ℕ) (others : List Entry) (e : Entry)
    → last_value side own port at (others ++ e ∷ [])
    ≡ byte_after side own port at (last_value side own port at others) e
value-append side own port at others e = byte_after_all-append side own port at 0 others (e ∷ [])

-- one more own entry
pub left-append : (side : Side) (own : List Entry) (port written : ℕ) (e : Entry)
    → list_all (leaves side port written) (own ++ e ∷ [])
    ≡ (list_all (leaves side port written) own && leaves side port written e)
left-append side own port written e =
    list_all-append (leaves side port written) own (e ∷ [])
    ∙ ap (λ b. list_all (leaves side port written) own && b) (and-true (leaves side port written e))

-- one more write that is found as the lists have it
pub byte-append : (side : Side) (clear : Option ℕ) (latch : ℕ) (own others : List Entry)
    (waiting : List Written) (w : Written) (port at : ℕ)
    → not (is_zeroed side clear w.at) ≡ list_all (leaves side port w.at) own
    → byte_by side clear port at latch waiting ≡ last_value side own port at others
    → byte_by side clear port at latch (waiting ++ w ∷ [])
    ≡ last_value side own port at (others ++ WriteAt w.at w.port w.byte ∷ [])
byte-append side clear latch own others waiting w port at e h =
    fold-append (byte_with side clear port at) latch waiting (w ∷ [])
    ∙ ap (λ b. byte_with side clear port at b w) h
    ∙ ap (λ b. if w.port == port && (sees side w.at at && b) then w.byte else last_value side own port at others) e
    ∙ sym (value-append side own port at others (WriteAt w.at w.port w.byte))
