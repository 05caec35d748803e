-- How a row of refusals goes on in the loop of a leg, and what it is where the tries are spent.
use Rattle.std.proofs.Common.{◌≡◌, ℕ, zero, suc, ◌+◌, ◌-◌, ◌^◌, ◌<◌, ◌≤◌, Option, ap, sym, subst, arith}
use mathlib.Core.Logic.{∥∥₁_elim, ∥∥₁_map}
use base.Stored.{Coded-set}
use Rattle.std.proofs.Props.{props}
use Rattle.std.proofs.Math.Bridge.{le_prop}
use Rattle.std.proofs.Math.Nat.{ℕ_set}
use Rattle.side_law.specs.Moves.{Moves}
use Rattle.port_wire.specs.declared.late.PassLate.{PassLate}
use Rattle.port_wire.specs.declared.late.CallName.{CallName}
use Rattle.port_wire.specs.contracts.late.PassLate as late
use Rattle.port_wire.specs.contracts.late.CallName as names
use Rattle.port_wire.specs.Tally.{Tally, Refused, counted_on, HasRisenBy}
use Rattle.port_wire.specs.Seen.{Half}
use Rattle.pair_run.specs.Leg.{IsSpent}
use Rattle.pair_run.specs.Tried.{call_of}
use Rattle.pair_run.specs.Over.{IsHeldOff}
use Rattle.pair_run.proofs.Refusals.{InRow, none_in_row, in_row_on, risen_on, row_is_spent}

late_set : (a b : PassLate) → IsProp (a ≡ b)
late_set = Coded-set late.the_row.coded

name_set : (a b : CallName) → IsProp (a ≡ b)
name_set = Coded-set names.the_row.coded

refused_set : (a b : Refused) → IsProp (a ≡ b)
refused_set = hlevel (late_set, name_set, ℕ_set)

pub last_set : (a b : Option Refused) → IsProp (a ≡ b)
last_set = hlevel (props, refused_set)

-- a state that a value can be in, with so many refusals of its call in a row
abbrev pub InRowAt : {State : Type 0} → Moves State → (State → Type 0) → ℕ → ℕ → Half → Type 0
InRowAt moves stands at k half = ∥ ((m : _) × stands m × InRow (call_of (moves.act m)) at k half.tally) ∥₁

module _ {State : Type 0} (moves : Moves State) (stood stands : State → Type 0) (was now : ℕ) (old mid : Half) (late : PassLate) (held : IsHeldOff moves stood stands was now old mid late) where
  -- one refusal more
  refused_on : (k : ℕ) → k < 2 ^ 32 → InRowAt moves stood was k old → InRowAt moves stands now (k + 1) mid
  refused_on k few row = ∥∥₁_map row (λ x.
      (let h = held.held x.0 x.1 in (
        x.0,
        h.now_stands,
        subst (λ at. InRow (call_of (moves.act x.0)) at (k + 1) mid.tally) (sym held.still)
            (in_row_on (call_of (moves.act x.0)) was k old.tally mid.tally late x.2 few h.held.tally),
      )))

  -- it was counted
  refused_counted : ∥ ((m : State) × stood m) ∥₁ → mid.tally.refused ≡ counted_on old.tally.refused
  refused_counted some = ∥∥₁_elim some (ℕ_set _ _) (λ x. ap (λ (t : Tally). t.refused) (held.held x.0 x.1).held.tally)

  -- the next try of the loop
  pub row_goes_on : (tried : ℕ) (new : Half) → ∥ ((m : State) × stood m) ∥₁ → tried < 2 ^ 32 → (1 ≤ tried → InRowAt moves stood was (tried - 1) old) → (1 ≤ tried → new ≡ mid)
      → InRowAt moves stands now (tried + 1 - 1) new
  row_goes_on zero new some few row same = ∥∥₁_map some (λ x. (x.0, (held.held x.0 x.1).now_stands, none_in_row (call_of (moves.act x.0)) now new.tally))
  row_goes_on (suc k) new some few row same =
      subst (λ (h : Half). InRowAt moves stands now (suc k + 1 - 1) h) (sym (same (omega arith)))
      (subst (λ n. InRowAt moves stands now n mid) (omega arith) (refused_on (suc k - 1) (omega (arith, few)) (row (omega arith))))

  pub rise_goes_on : (tried first : ℕ) (new : Half) → ∥ ((m : State) × stood m) ∥₁
      → ((n : ℕ) → HasRisenBy 0 n first → HasRisenBy (tried - 1) n old.tally.refused)
      → ((n : ℕ) → HasRisenBy 0 n old.tally.refused → HasRisenBy 0 n mid.tally.refused) → ((n : ℕ) → HasRisenBy 0 n mid.tally.refused → HasRisenBy 0 n new.tally.refused)
      → (1 ≤ tried → new ≡ mid) → (n : ℕ) → HasRisenBy 0 n first → HasRisenBy (tried + 1 - 1) n new.tally.refused
  rise_goes_on zero first new some risen counted told same n from = told n (counted n (risen n from))
  rise_goes_on (suc k) first new some risen counted told same n from =
      subst (λ (h : Half). HasRisenBy (suc k + 1 - 1) n h.tally.refused) (sym (same (omega arith)))
      (subst (λ j. HasRisenBy j n mid.tally.refused) (omega arith) (risen_on (suc k - 1) n old.tally.refused mid.tally.refused (risen n from) (refused_counted some)))

  -- the tries are spent
  pub row_spent : (tried tries : ℕ) (first : Half) (m : State) → stands m → ∥ ((x : State) × stood x) ∥₁ → tries < 2 ^ 32 → 1 ≤ tries → tried ≡ tries
      → InRowAt moves stood was (tried - 1) old → HasRisenBy (tried - 1) first.tally.refused old.tally.refused
      → IsSpent (call_of (moves.act m)) now late tries first mid
  row_spent tried tries first m at some few any all row risen =
      let more = risen_on (tried - 1) first.tally.refused old.tally.refused mid.tally.refused risen (refused_counted some) in
      let one : tried - 1 + 1 ≡ tries = omega (arith, any, all) in
      let each : (x : State) → stood x → InRow (call_of (moves.act x)) was (tried - 1) old.tally → IsSpent (call_of (moves.act m)) now late tries first mid =
      λ x on in_row. (
      let h = held.held x on in
      subst (λ s. IsSpent (call_of (moves.act m)) s late tries first mid) (sym held.still)
      (subst (λ a. IsSpent (call_of a) was late tries first mid) (held.alike x m h.now_stands at)
      (row_is_spent (call_of (moves.act x)) was (tried - 1) tries late first old mid in_row (omega (arith, few, all)) one more h.held.tally))) in
      record {
        refused = subst (λ n. HasRisenBy n first.tally.refused mid.tally.refused) one more;
        row = ∥∥₁_elim row le_prop (λ x. (each x.0 x.1 x.2).row);
        last = ∥∥₁_elim row (last_set _ _) (λ x. (each x.0 x.1 x.2).last);
      }
