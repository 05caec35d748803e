-- What one side reads after each call.
use Rattle.std.proofs.Common.{◌≡◌, ℕ, ◌<◌, ◌≤◌, Bool, true, false, ◌&&◌, ◌||◌, not, List, [], ◌∷◌, ◌++◌, length, refl, ap, sym, ◌∙◌, arith, Option, Some, None, if◌then◌else◌, max}
use Rattle.std.specs.List.{AllByRecursion, list_all}
use Rattle.std.proofs.lemmas.Bool.Decides.{nat_tests}
use Rattle.snes_defs.specs.declared.ports.Side.{Side}
use Rattle.snes_defs.specs.declared.ports.Side.TheVariants.{Console, Sound}
use Rattle.port_entries.specs.Entry.{Entry, WriteAt, ClearAt, covers}
use Rattle.port_entries.specs.LastValue.{sees, leaves, last_value}
use Rattle.port_log.specs.declared.written.Written.{Written}
use Rattle.std.specs.Prelude.{slice_index}
use Rattle.port_log.specs.Kept.{SideValue, greatest_clear, is_zeroed, byte_by, found_in, later, cleared_after, latches_after, after_clear, after_clock, after_write}
use Rattle.port_log.specs.Held.{IsHeld, HasPort}
use Rattle.port_log.specs.Entries.{IsSettledClear}
use Rattle.port_log.proofs.Clears.{greatest-once, greatest-twice, latch-once, latch-twice}
use Rattle.port_log.proofs.Moving.{to-ports-append, found-moved, found-moved-cleared, received-by}
use Rattle.port_log.proofs.Reading.{unzeroed, all-leave, value-same, value-append, left-append, byte-append, and-true}

-- a side reads rightly from its clock on, and still does so after one more clear of its own
pub record Reads (side : Side) (kept : SideValue) (own others : List Entry) : Type 0 where
  pub now : (port at : ℕ) → port < 4 → kept.clock ≤ at
      → found_in side kept port at ≡ last_value side own port at others
  pub once_cleared : (t mask : ℕ) → kept.clock ≤ t → (port at : ℕ) → port < 4 → kept.clock ≤ at
      → found_in side (after_clear t mask kept) port at
      ≡ last_value side (own ++ ClearAt t mask ∷ []) port at others

-- the same latch and the same greatest clear give the same byte
same-byte : (side : Side) (c d : Option ℕ) (k l port at : ℕ) (waiting : List Written) → c ≡ d → k ≡ l
    → byte_by side c port at k waiting ≡ byte_by side d port at l waiting
same-byte side c d k l port at waiting e f =
    ap (λ x. byte_by side x port at k waiting) e ∙ ap (λ x. byte_by side d port at x waiting) f

-- a clear of the greatest stamp zeroes what each of the two does
zeroed-later : (side : Side) (clear : Option ℕ) (at written : ℕ)
    → not (is_zeroed side (Some (later clear at)) written)
    ≡ (not (is_zeroed side clear written) && not (sees side written at))
zeroed-later Console None at written = refl
zeroed-later Sound None at written = refl
zeroed-later Console (Some t) at written = grind (arith, nat_tests)
zeroed-later Sound (Some t) at written = grind (arith, nat_tests)

-- what is kept of a port after a clear, by whether the clear covers it
zeroed-by : (side : Side) (covered : Bool) (clear : Option ℕ) (at written : ℕ)
    → not (is_zeroed side (if covered then Some (later clear at) else clear) written)
    ≡ (not (is_zeroed side clear written) && (not covered || not (sees side written at)))
zeroed-by side true clear at written = zeroed-later side clear at written
zeroed-by side false clear at written = sym (and-true (not (is_zeroed side clear written)))

-- two clears of one port leave what one at the greater stamp leaves
and-later : (side : Side) (rest : Bool) (t t2 written : ℕ)
    → ((rest && not (sees side written t)) && not (sees side written t2))
    ≡ (rest && not (sees side written (max t t2)))
and-later Console true t t2 written = grind (arith, nat_tests)
and-later Sound true t t2 written = grind (arith, nat_tests)
and-later side false t t2 written = refl

later-twice : (clear : Option ℕ) (t t2 : ℕ) → later (Some (later clear t)) t2 ≡ later clear (max t t2)
later-twice None t t2 = refl
later-twice (Some b) t t2 = omega arith

-- what one clear and what two clears leave, by whether they cover the port
module _ (side : Side) (port written : ℕ) where
  left-one : (own : List Entry) (t mask : ℕ) (first : Bool) → covers mask port ≡ first
      → list_all (leaves side port written) (own ++ ClearAt t mask ∷ [])
      ≡ (list_all (leaves side port written) own && (not first || not (sees side written t)))
  left-one own t mask first e =
      left-append side own port written (ClearAt t mask)
      ∙ ap (λ b. list_all (leaves side port written) own && (not b || not (sees side written t))) e

  left-two : (own : List Entry) (t mask t2 mask2 : ℕ) (first second : Bool)
      → covers mask port ≡ first → covers mask2 port ≡ second
      → list_all (leaves side port written) ((own ++ ClearAt t mask ∷ []) ++ ClearAt t2 mask2 ∷ [])
      ≡ ((list_all (leaves side port written) own && (not first || not (sees side written t)))
      && (not second || not (sees side written t2)))
  left-two own t mask t2 mask2 first second e e2 =
      left-one (own ++ ClearAt t mask ∷ []) t2 mask2 second e2
      ∙ ap (λ b. b && (not second || not (sees side written t2))) (left-one own t mask first e)

module _ {side : Side} {kept : SideValue} {own others : List Entry} (r : Reads side kept own others) where
  -- a write of the side's own changes nothing that it reads
  pub reads-own-write : (t q v : ℕ) → Reads side kept (own ++ WriteAt t q v ∷ []) others
  reads-own-write t q v = record {
    now = λ port at p k.
        r.now port at p k
        ∙ value-same side own (own ++ WriteAt t q v ∷ []) port at
        (λ w. sym (left-append side own port w (WriteAt t q v) ∙ and-true _)) others 0;
    once_cleared = λ u mask h port at p k.
        r.once_cleared u mask h port at p k
        ∙ value-same side (own ++ ClearAt u mask ∷ [])
        ((own ++ WriteAt t q v ∷ []) ++ ClearAt u mask ∷ []) port at
        (λ w.
        left-append side own port w (ClearAt u mask)
        ∙ ap (λ b. b && leaves side port w (ClearAt u mask))
        (sym (left-append side own port w (WriteAt t q v) ∙ and-true _))
        ∙ sym (left-append side (own ++ WriteAt t q v ∷ []) port w (ClearAt u mask)))
        others 0;
  }

  -- neither does a clear of the other side
  pub reads-other-clear : (t mask : ℕ) → Reads side kept own (others ++ ClearAt t mask ∷ [])
  reads-other-clear t mask = record {
    now = λ port at p k.
        r.now port at p k ∙ sym (value-append side own port at others (ClearAt t mask));
    once_cleared = λ u m h port at p k.
        r.once_cleared u m h port at p k
        ∙ sym (value-append side (own ++ ClearAt u m ∷ []) port at others (ClearAt t mask));
  }

  -- a write of the other side that waits is read as the lists have it
  pub reads-waiting : (least other : ℕ) (w : Written) → IsHeld side least other kept
      → AllByRecursion (IsSettledClear side other) own → other ≤ w.at
      → Reads side (record kept { waiting = kept.waiting ++ w ∷ [] }) own
      (others ++ WriteAt w.at w.port w.byte ∷ [])
  reads-waiting least other w held settled later_on =
      let four : length kept.cleared ≡ 4 = held.ports in
      let left : (port : ℕ) → port < 4 → not (is_zeroed side (greatest_clear kept.cleared port) w.at) ≡ list_all (leaves side port w.at) own =
      λ port p.
      ap not (unzeroed side (greatest_clear kept.cleared port) other w.at (λ at. held.settled port at p) later_on)
      ∙ sym (all-leave side own port other w.at settled later_on) in
      record {
        now = λ port at p k.
            byte-append side (greatest_clear kept.cleared port) (slice_index kept.latches port) own others
            kept.waiting w port at (left port p) (r.now port at p k);
        once_cleared = λ t mask h port at p k.
            byte-append side (greatest_clear (cleared_after kept.cleared 0 mask t) port)
            (slice_index (latches_after kept.latches 0 mask) port) (own ++ ClearAt t mask ∷ []) others
            kept.waiting w port at
            (ap (λ c. not (is_zeroed side c w.at))
            (greatest-once kept.cleared mask t port (covers mask port) (omega arith) refl)
            ∙ zeroed-by side (covers mask port) (greatest_clear kept.cleared port) t w.at
            ∙ ap (λ b. b && (not (covers mask port) || not (sees side w.at t))) (left port p)
            ∙ sym (left-append side own port w.at (ClearAt t mask)))
            (r.once_cleared t mask h port at p k);
      }

  -- after two clears of its own, by whether they cover the port: of two that do, one at the greater
  -- stamp zeroes the same
  after-two : (t mask t2 mask2 port at : ℕ) (first second : Bool) → length kept.cleared ≡ 4
      → length kept.latches ≡ 4 → kept.clock ≤ t → kept.clock ≤ t2 → port < 4 → kept.clock ≤ at
      → covers mask port ≡ first → covers mask2 port ≡ second
      → found_in side (after_clear t2 mask2 (after_clear t mask kept)) port at
      ≡ last_value side ((own ++ ClearAt t mask ∷ []) ++ ClearAt t2 mask2 ∷ []) port at others
  after-two t mask t2 mask2 port at false false four held h h2 p k e e2 =
      same-byte side _ _ _ _ port at kept.waiting
      (greatest-twice kept.cleared mask t mask2 t2 port false false (omega arith) e e2)
      (latch-twice kept.latches mask mask2 port false false (omega arith) e e2)
      ∙ r.now port at p k
      ∙ value-same side own ((own ++ ClearAt t mask ∷ []) ++ ClearAt t2 mask2 ∷ []) port at
      (λ w. sym (left-two side port w own t mask t2 mask2 false false e e2 ∙ and-true _ ∙ and-true _))
      others 0
  after-two t mask t2 mask2 port at true false four held h h2 p k e e2 =
      same-byte side _ _ _ _ port at kept.waiting
      (greatest-twice kept.cleared mask t mask2 t2 port true false (omega arith) e e2
      ∙ sym (greatest-once kept.cleared mask t port true (omega arith) e))
      (latch-twice kept.latches mask mask2 port true false (omega arith) e e2
      ∙ sym (latch-once kept.latches mask port true (omega arith) e))
      ∙ r.once_cleared t mask h port at p k
      ∙ value-same side (own ++ ClearAt t mask ∷ [])
      ((own ++ ClearAt t mask ∷ []) ++ ClearAt t2 mask2 ∷ []) port at
      (λ w.
      left-one side port w own t mask true e
      ∙ sym (left-two side port w own t mask t2 mask2 true false e e2 ∙ and-true _))
      others 0
  after-two t mask t2 mask2 port at false true four held h h2 p k e e2 =
      same-byte side _ _ _ _ port at kept.waiting
      (greatest-twice kept.cleared mask t mask2 t2 port false true (omega arith) e e2
      ∙ sym (greatest-once kept.cleared mask2 t2 port true (omega arith) e2))
      (latch-twice kept.latches mask mask2 port false true (omega arith) e e2
      ∙ sym (latch-once kept.latches mask2 port true (omega arith) e2))
      ∙ r.once_cleared t2 mask2 h2 port at p k
      ∙ value-same side (own ++ ClearAt t2 mask2 ∷ [])
      ((own ++ ClearAt t mask ∷ []) ++ ClearAt t2 mask2 ∷ []) port at
      (λ w.
      left-one side port w own t2 mask2 true e2
      ∙ sym (left-two side port w own t mask t2 mask2 false true e e2
      ∙ ap (λ b. b && not (sees side w t2)) (and-true _)))
      others 0
  after-two t mask t2 mask2 port at true true four held h h2 p k e e2 =
      same-byte side _ _ _ _ port at kept.waiting
      (greatest-twice kept.cleared mask t mask2 t2 port true true (omega arith) e e2
      ∙ ap (λ x. Some x) (later-twice (greatest_clear kept.cleared port) t t2)
      ∙ sym (greatest-once kept.cleared mask (max t t2) port true (omega arith) e))
      (latch-twice kept.latches mask mask2 port true true (omega arith) e e2
      ∙ sym (latch-once kept.latches mask port true (omega arith) e))
      ∙ r.once_cleared (max t t2) mask (omega arith) port at p k
      ∙ value-same side (own ++ ClearAt (max t t2) mask ∷ [])
      ((own ++ ClearAt t mask ∷ []) ++ ClearAt t2 mask2 ∷ []) port at
      (λ w.
      left-one side port w own (max t t2) mask true e
      ∙ sym (left-two side port w own t mask t2 mask2 true true e e2 ∙ and-later side _ t t2 w))
      others 0

  -- a clear of the side's own zeroes as the lists have it
  pub reads-own-clear : (t mask least other : ℕ) → IsHeld side least other kept → kept.clock ≤ t
      → Reads side (after_clear t mask kept) (own ++ ClearAt t mask ∷ []) others
  reads-own-clear t mask least other held h = record {
    now = r.once_cleared t mask h;
    once_cleared = λ t2 mask2 h2 port at p k.
        after-two t mask t2 mask2 port at (covers mask port) (covers mask2 port)
        held.ports held.latches h h2 p k refl refl;
  }

  -- a side publishes a clock: what it sees then has moved to the latches, and it asks for less
  pub reads-published : (clock : ℕ) → length kept.latches ≡ 4 → length kept.cleared ≡ 4
      → AllByRecursion HasPort kept.waiting → kept.clock ≤ clock
      → Reads side (after_clock side clock kept) own others
  reads-published clock latches cleared ports h = record {
    now = λ port at p k.
        found-moved side clock kept port at latches ports k ∙ r.now port at p (omega arith);
    once_cleared = λ t mask l port at p k.
        found-moved-cleared side clock kept t mask port at latches cleared ports p l k
        ∙ r.once_cleared t mask (omega arith) port at p (omega arith);
  }

-- a write of the other side is read as the lists have it
pub reads-other-write : {side : Side} {kept : SideValue} {own others : List Entry} (least other : ℕ)
    (w : Written) → Reads side kept own others → IsHeld side least other kept → HasPort w
    → AllByRecursion (IsSettledClear side other) own → other ≤ w.at
    → Reads side (after_write side w kept) own (others ++ WriteAt w.at w.port w.byte ∷ [])
reads-other-write {side} {kept} {own} {others} least other w r held port settled h =
    let waits = reads-waiting r least other w held settled h in
    received-by side w kept least other held h
    (λ k. Reads side k own (others ++ WriteAt w.at w.port w.byte ∷ []))
    waits
    (reads-published waits kept.clock held.latches held.ports
    (to-ports-append kept.waiting w held.to_ports port) (omega arith))
