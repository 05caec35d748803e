-- Runs against a list, as they go on and as more is heard.
use Rattle.std.proofs.Common.{◌≡◌, ℕ, zero, suc, ◌<◌, ◌≤◌, List, refl, ap, sym, ◌∙◌, subst}
use Rattle.snes_defs.specs.declared.region.Region.{Region}
use Rattle.snes_defs.specs.declared.ports.Side.{Side}
use Rattle.port_entries.specs.Entry.{Entry, CarryBytes}
use Rattle.port_entries.specs.Window.{IsSettled}
use Rattle.port_entries.proofs.Seen.{settled_unseen, settled_later}
use Rattle.side_law.specs.Moves.{Moves, IsLawful}
use Rattle.commute_laws.specs.History.{History}
use Rattle.commute_laws.specs.Heard.{heard_got, heard_step, after_heard, LooksSettled, OnLook, IsHeard, HeardRun}
use Rattle.commute_laws.proofs.Later.{IsLater, later_at_once, later_by_step, step_advances, heard_small, on_look, heard_step-unseen}

module _ {State : Type 0} (side : Side) (moves : Moves State) where
  -- one step more, at the end
  pub after_heard-suc : (heard : List Entry) (k : ℕ) (h : History State)
      → after_heard side moves heard (suc k) h ≡ heard_step side moves heard (after_heard side moves heard k h)
  after_heard-suc heard zero h = refl
  after_heard-suc heard (suc k) h = after_heard-suc heard k (heard_step side moves heard h)

  pub looks_settled-suc : (heard : List Entry) (upto k : ℕ) (h : History State)
      → LooksSettled side moves heard upto k h
      → OnLook (moves.act (after_heard side moves heard k h).now) (IsSettled side (moves.stamp (after_heard side moves heard k h).now) upto)
      → LooksSettled side moves heard upto (suc k) h
  looks_settled-suc heard upto zero h settled last = (last, tt)
  looks_settled-suc heard upto (suc k) h settled last =
      (settled.0, looks_settled-suc heard upto k (heard_step side moves heard h) settled.1 last)

  -- a longer list changes no step, where each look is settled at the stamp up to which was heard
  pub longer_list : (heard more : List Entry) (upto k : ℕ) (h : History State) → IsHeard heard more upto
      → LooksSettled side moves heard upto k h
      → after_heard side moves more k h ≡ after_heard side moves heard k h
  longer_list heard more upto zero h all_heard settled = refl
  longer_list heard more upto (suc k) h all_heard settled =
      ap (after_heard side moves more k)
      (heard_step-unseen side moves h heard all_heard.rest more upto all_heard.whole_is all_heard.later
      (on_look (moves.act h.now) _ _ (settled_unseen side (moves.stamp h.now) upto) settled.0))
      ∙ longer_list heard more upto k (heard_step side moves heard h) all_heard settled.1

  pub longer_settled : (heard more : List Entry) (upto later k : ℕ) (h : History State) → IsHeard heard more upto → upto ≤ later
      → LooksSettled side moves heard upto k h → LooksSettled side moves more later k h
  longer_settled heard more upto later zero h all_heard le settled = tt
  longer_settled heard more upto later (suc k) h all_heard le settled = (
    on_look (moves.act h.now) _ _ (λ s. settled_later side (moves.stamp h.now) upto later s le) settled.0,
    subst (λ (q : History State). LooksSettled side moves more later k q)
        (sym (heard_step-unseen side moves h heard all_heard.rest more upto all_heard.whole_is all_heard.later
        (on_look (moves.act h.now) _ _ (settled_unseen side (moves.stamp h.now) upto) settled.0)))
        (longer_settled heard more upto later k (heard_step side moves heard h) all_heard le settled.1),
  )

  -- a run of no step
  pub heard_run_at_once : (heard : List Entry) (upto : ℕ) (h : History State) → HeardRun side moves heard upto h h
  heard_run_at_once heard upto h = record { steps = 0; after_is = refl; settled = tt }

  -- more was heard: a longer list, up to a later stamp
  pub heard_run_longer : (heard more : List Entry) (upto later : ℕ) (before after : History State)
      → HeardRun side moves heard upto before after → IsHeard heard more upto → upto ≤ later
      → HeardRun side moves more later before after
  heard_run_longer heard more upto later before after run all_heard le = record {
    steps = run.steps;
    after_is = longer_list heard more upto run.steps before all_heard run.settled ∙ run.after_is;
    settled = longer_settled heard more upto later run.steps before all_heard le run.settled;
  }

  -- one step more
  pub heard_run_on : (heard : List Entry) (upto : ℕ) (before after : History State)
      → HeardRun side moves heard upto before after
      → OnLook (moves.act after.now) (IsSettled side (moves.stamp after.now) upto)
      → HeardRun side moves heard upto before (heard_step side moves heard after)
  heard_run_on heard upto before after run last = record {
    steps = suc run.steps;
    after_is = after_heard-suc heard run.steps before ∙ ap (heard_step side moves heard) run.after_is;
    settled = looks_settled-suc heard upto run.steps before run.settled
        (subst (λ (q : History State). OnLook (moves.act q.now) (IsSettled side (moves.stamp q.now) upto)) (sym run.after_is) last);
  }

module _ {State : Type 0} (region : Region) (side : Side) (valid : State → Type 0) (most : ℕ) (moves : Moves State) (lawful : IsLawful region valid most moves) where
  -- what a run against a list of bytes comes to is later, and valid
  pub record Comes (before after : History State) : Type 0 where
    pub later : IsLater moves before after
    pub valid_after : valid after.now

  pub comes : (heard : List Entry) (k : ℕ) (h : History State) → CarryBytes heard → valid h.now
      → Comes h (after_heard side moves heard k h)
  comes heard zero h bytes ok = record { later = later_at_once moves h; valid_after = ok }
  comes heard (suc k) h bytes ok =
      let before = comes heard k h bytes ok in
      let mid : History State = after_heard side moves heard k h in
      let got : ℕ = heard_got side mid.entries heard (moves.stamp mid.now) (moves.act mid.now) in
      let small : got < 256 = heard_small side mid.entries heard (moves.stamp mid.now) (moves.act mid.now) bytes in
      subst (Comes h) (sym (after_heard-suc side moves heard k h))
      (record {
        later = later_by_step moves region h mid (heard_step side moves heard mid) before.later
            (step_advances moves region valid most lawful mid got before.valid_after small);
        valid_after = lawful.stays_valid mid.now got before.valid_after small;
      })
