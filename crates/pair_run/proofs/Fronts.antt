-- What a machine hears of a list is what it hears of the list's writes.
use Rattle.std.proofs.Common.{◌≡◌, ℕ, zero, suc, List, [], ◌∷◌, refl, ap, sym, ◌∙◌, subst}
use Rattle.snes_defs.specs.declared.ports.Side.{Side}
use Rattle.snes_defs.specs.declared.ports.Act.{Act}
use Rattle.snes_defs.specs.declared.ports.Act.TheVariants.{Quiet, Read, Write, Clear}
use Rattle.port_entries.specs.Entry.{Entry, WriteAt, ClearAt}
use Rattle.port_entries.specs.LastValue.{byte_after, byte_after_all}
use Rattle.side_law.specs.Moves.{Moves}
use Rattle.commute_laws.specs.History.{History, history_after}
use Rattle.commute_laws.specs.Heard.{heard_got, heard_step, after_heard, LooksSettled, StepsBelow}
use Rattle.commute_laws.specs.Leg.{IsLeg}
use Rattle.port_wire.specs.Seen.{writes_of}

of_writes : (side : Side) (own : List Entry) (port at : ℕ) (xs : List Entry) (byte : ℕ)
    → byte_after_all side own port at byte (writes_of xs) ≡ byte_after_all side own port at byte xs
of_writes side own port at [] byte = refl
of_writes side own port at (WriteAt written p v ∷ xs) byte =
    of_writes side own port at xs (byte_after side own port at byte (WriteAt written p v))
of_writes side own port at (ClearAt written mask ∷ xs) byte = of_writes side own port at xs byte

-- two lists with the same writes
same_heard : (side : Side) (own xs ys : List Entry) (at : ℕ) (act : Act) → writes_of xs ≡ writes_of ys
    → heard_got side own xs at act ≡ heard_got side own ys at act
same_heard side own xs ys at Quiet same = refl
same_heard side own xs ys at (Read port) same =
    sym (of_writes side own port at xs 0) ∙ ap (byte_after_all side own port at 0) same ∙ of_writes side own port at ys 0
same_heard side own xs ys at (Write port byte) same = refl
same_heard side own xs ys at (Clear mask) same = refl

module _ {State : Type 0} (side : Side) (moves : Moves State) (xs ys : List Entry) (same : writes_of xs ≡ writes_of ys) where
  same_step : (h : History State) → heard_step side moves xs h ≡ heard_step side moves ys h
  same_step h = ap (history_after moves h) (same_heard side h.entries xs ys (moves.stamp h.now) (moves.act h.now) same)

  same_run : (k : ℕ) (h : History State) → after_heard side moves xs k h ≡ after_heard side moves ys k h
  same_run zero h = refl
  same_run (suc k) h = ap (after_heard side moves xs k) (same_step h) ∙ same_run k (heard_step side moves ys h)

  same_settled : (upto k : ℕ) (h : History State) → LooksSettled side moves xs upto k h → LooksSettled side moves ys upto k h
  same_settled upto zero h settled = tt
  same_settled upto (suc k) h settled = (
    settled.0,
    same_settled upto k (heard_step side moves ys h)
        (subst (λ (q : History State). LooksSettled side moves xs upto k q) (same_step h) settled.1),
  )

  same_below : (end k : ℕ) (h : History State) → StepsBelow side moves xs end k h → StepsBelow side moves ys end k h
  same_below end zero h below = tt
  same_below end (suc k) h below = (
    below.0,
    same_below end k (heard_step side moves ys h)
        (subst (λ (q : History State). StepsBelow side moves xs end k q) (same_step h) below.1),
  )

  -- a leg against the one is a leg against the other
  pub same_leg : (upto end : ℕ) (before after : History State) → IsLeg side moves xs upto end before after
      → IsLeg side moves ys upto end before after
  same_leg upto end before after leg = record {
    ran = record {
      steps = leg.ran.steps;
      after_is = sym (same_run leg.ran.steps before) ∙ leg.ran.after_is;
      settled = same_settled upto leg.ran.steps before leg.ran.settled;
    };
    below = same_below end leg.ran.steps before leg.below;
  }
