-- How the tally counts: refusals of one call in a row, and how the stamps and tries run out.
use Rattle.std.proofs.Common.{◌≡◌, ℕ, zero, suc, ◌+◌, ◌^◌, ◌<◌, ◌≤◌, inl, inr, ⊎_elim, true, refl, ap, sym, ◌∙◌, subst, arith}
use Rattle.std.proofs.lemmas.Bool.{cases_lt}
use Rattle.std.specs.Prelude.{if◌then◌else◌}
use Rattle.port_wire.specs.declared.late.PassLate.{PassLate}
use Rattle.port_wire.specs.declared.late.PassLate.TheVariants.{Behind, Ahead, Held}
use Rattle.port_wire.specs.declared.late.CallName.{CallName}
use Rattle.port_wire.specs.declared.late.CallName.TheVariants.{Read, Clear, Write, Advance}
use Rattle.port_wire.specs.Seen.{Half}
use Rattle.port_wire.specs.Answers.{IsRefused, HasAdvanced}
use Rattle.port_wire.specs.Tally.{Tally, same_name, is_again, counted_on, after_refusal, HasRisenBy}
use Rattle.pair_run.specs.declared.ends.LegEnd.{LegEnd}
use Rattle.pair_run.specs.declared.ends.LegEnd.TheVariants.{Done, Drain}
use Rattle.pair_run.specs.declared.ends.LegEnd.TheVariants as ends
use Rattle.pair_run.specs.Leg.{IfHeldBack, IsSpent, end_of}

-- the last calls, so many, were all of this name at this stamp, and each was refused
pub record InRow (name : CallName) (at k : ℕ) (tally : Tally) : Type 0 where
  pub row : k ≤ tally.row
  pub again : 1 ≤ k → is_again tally.last name at ≡ true

pub none_in_row : (name : CallName) (at : ℕ) (tally : Tally) → InRow name at 0 tally
none_in_row name at tally = record { row = omega arith; again = λ some. absurd (omega (arith, some)) }

pub none_risen : (n : ℕ) → HasRisenBy 0 n n
none_risen n = inl (omega arith)

-- fewer have risen too
pub risen_less : (k before after later : ℕ) → HasRisenBy k before after → later ≡ after → HasRisenBy 0 before later
risen_less k before after later (inl h) is = inl (omega (arith, h, is))
risen_less k before after later (inr h) is = inr (is ∙ h)

counted_more : (n k : ℕ) → k ≤ n → k < 2 ^ 32 → k + 1 ≤ counted_on n
counted_more n k le few = grind arith

counted_risen : (k before after : ℕ) → HasRisenBy k before after → HasRisenBy (k + 1) before (counted_on after)
counted_risen k before after h = grind arith

pub risen_on : (k before after later : ℕ) → HasRisenBy k before after → later ≡ counted_on after → HasRisenBy (k + 1) before later
risen_on k before after later h is = subst (HasRisenBy (k + 1) before) (sym is) (counted_risen k before after h)

same_self : (name : CallName) → same_name name name ≡ true
same_self Read = refl
same_self Clear = refl
same_self Write = refl
same_self Advance = refl

-- one refusal more in the row
goes_on : (name : CallName) (at k : ℕ) (tally : Tally) (late : PassLate) → InRow name at k tally → k < 2 ^ 32
    → k + 1 ≤ (after_refusal tally name at late).row
goes_on name at zero tally late h few = counted_more (if is_again tally.last name at then tally.row else 0) 0 (omega arith) few
goes_on name at (suc k) tally late h few = rw (h.again (omega arith)) (counted_more tally.row (suc k) h.row few)

last_again : (name : CallName) (at : ℕ) (tally : Tally) (late : PassLate) → is_again (after_refusal tally name at late).last name at ≡ true
last_again name at tally late = grind (arith, same_self)

pub in_row_on : (name : CallName) (at k : ℕ) (tally later : Tally) (late : PassLate) → InRow name at k tally → k < 2 ^ 32
    → later ≡ after_refusal tally name at late → InRow name at (k + 1) later
in_row_on name at k tally later late h few is = subst (InRow name at (k + 1)) (sym is)
    (record { row = goes_on name at k tally late h few; again = λ some. last_again name at tally late })

-- a row of as many refusals as there are tries
pub row_is_spent : (name : CallName) (at k tries : ℕ) (late : PassLate) (old mid new : Half)
    → InRow name at k mid.tally → k < 2 ^ 32 → k + 1 ≡ tries
    → HasRisenBy (k + 1) old.tally.refused new.tally.refused
    → new.tally ≡ after_refusal mid.tally name at late → IsSpent name at late tries old new
row_is_spent name at k tries late old mid new h few all risen is = record {
  refused = subst (λ n. HasRisenBy n old.tally.refused new.tally.refused) all risen;
  row = subst (λ n. n ≤ new.tally.row) all (in_row_on name at k mid.tally new.tally late h few is).row;
  last = ap (λ (t : Tally). t.last) is;
}

-- those that were refused before have risen still
pub counted_once : (before after later : ℕ) → HasRisenBy 0 before after → later ≡ counted_on after → HasRisenBy 0 before later
counted_once before after later h is = risen_less 1 before later later (risen_on 0 before after later h is) refl

-- publishing a clock counts one refusal or none
pub advance_counts : (window at other before : ℕ) (old new : Half) → HasAdvanced window at other old new
    → HasRisenBy 0 before old.tally.refused → HasRisenBy 0 before new.tally.refused
advance_counts window at other before old new h risen =
    ⊎_elim
    (λ lt. counted_once before old.tally.refused new.tally.refused risen (ap (λ (t : Tally). t.refused) (h.late (λ within. omega (arith, lt, within)))))
    (λ le. risen_less 0 before old.tally.refused new.tally.refused risen (ap (λ (t : Tally). t.refused) (h.soon le)))
    (cases_lt (other + window) at)

pub refusal_counts : (name : CallName) (at before : ℕ) (late : PassLate) (old new : Half) → IsRefused name at late old new
    → HasRisenBy 0 before old.tally.refused → HasRisenBy 0 before new.tally.refused
refusal_counts name at before late old new h risen =
    counted_once before old.tally.refused new.tally.refused risen (ap (λ (t : Tally). t.refused) h.tally)

-- what is said of the refusal by which a leg was held back
pub of_refusal : (late : PassLate) (P : PassLate → Type 0) → P late → IfHeldBack (end_of late) P
of_refusal (Behind need other) P h = h
of_refusal (Ahead at other) P h = h
of_refusal (Held by) P h = h

number_of : LegEnd → ℕ
number_of Done = 0
number_of Drain = 1
number_of (ends.Behind need other) = 2
number_of (ends.Ahead at other) = 2
number_of (ends.Held by) = 2

-- a leg that was held back has room
pub held_is_no_drain : (late : PassLate) → end_of late ≡ Drain → ⊥
unfolding number_of
held_is_no_drain (Behind need other) is = omega (arith, ap number_of is)
held_is_no_drain (Ahead at other) is = omega (arith, ap number_of is)
held_is_no_drain (Held by) is = omega (arith, ap number_of is)

pub held_is_not_done : (late : PassLate) → end_of late ≡ Done → ⊥
unfolding number_of
held_is_not_done (Behind need other) is = omega (arith, ap number_of is)
held_is_not_done (Ahead at other) is = omega (arith, ap number_of is)
held_is_not_done (Held by) is = omega (arith, ap number_of is)
