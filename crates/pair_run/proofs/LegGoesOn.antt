-- How a leg over a pass goes on: by a try that was answered, and by one that was held back.
use Rattle.std.proofs.Common.{◌≡◌, ℕ, zero, suc, ◌+◌, ◌<◌, ◌≤◌, List, [], ◌++◌, refl, ap, sym, ◌∙◌, subst, arith, append_assoc}
use Rattle.std.proofs.lemmas.List.{append-nil}
use Rattle.snes_defs.specs.declared.ports.Side.{Side}
use Rattle.snes_defs.specs.declared.region.Region.{Region}
use Rattle.port_entries.specs.Entry.{Entry, entry_stamp}
use Rattle.side_law.specs.Moves.{Moves}
use Rattle.commute_laws.specs.History.{History}
use Rattle.commute_laws.specs.Heard.{IsHeard, LooksSettled, StepsBelow, heard_step, after_heard}
use Rattle.commute_laws.specs.Leg.{IsLeg}
use Rattle.commute_laws.proofs.Ports.{All_append, All_map}
use Rattle.commute_laws.proofs.Legs.{leg_at_once, leg_on, leg_longer}
use Rattle.port_wire.specs.Seen.{Half}
use Rattle.port_wire.specs.Answers.{HearsOn}
use Rattle.port_wire.specs.Reach.{IsInReach}
use Rattle.pair_run.specs.Tried.{Tried}
use Rattle.pair_run.specs.Leg.{LegRan}
use Rattle.pair_run.specs.Over.{HasRunOn, HasTold}

-- what was heard by one call after another
pub hears_then : (old mid new : Half) → HearsOn old mid → HearsOn mid new → HearsOn old new
hears_then old mid new first then = record {
  more = first.more ++ then.more;
  heard = sym (append_assoc old.heard first.more then.more) ∙ ap (λ l. l ++ then.more) first.heard ∙ then.heard;
  later = All_append (λ e. old.upto ≤ entry_stamp e) first.more then.more first.later
      (All_map (λ e. mid.upto ≤ entry_stamp e) (λ e. old.upto ≤ entry_stamp e) (λ e le. omega (arith, le, first.upto)) then.more then.later);
  upto = omega (arith, first.upto, then.upto);
  known = omega (arith, first.known, then.known);
}

-- a pass that made no call has heard what it had
pub hears_nothing : (half : Half) → HearsOn half half
hears_nothing half = record { more = []; heard = append-nil half.heard; later = tt; upto = omega arith; known = omega arith }

module _ {State : Type 0} (side : Side) (moves : Moves State) where
  -- a leg, and the steps of another one after it
  leg_then : (heard : List Entry) (upto end k : ℕ) (before after : History State) → IsLeg side moves heard upto end before after
      → LooksSettled side moves heard upto k after → StepsBelow side moves heard end k after
      → IsLeg side moves heard upto end before (after_heard side moves heard k after)
  leg_then heard upto end zero before after leg settled below = leg
  leg_then heard upto end (suc k) before after leg settled below =
      leg_then heard upto end k before (heard_step side moves heard after)
      (leg_on side moves heard upto end before after leg below.0 settled.0) settled.1 below.1

  legs_join : (heard : List Entry) (upto end : ℕ) (before mid after : History State) → IsLeg side moves heard upto end before mid
      → IsLeg side moves heard upto end mid after → IsLeg side moves heard upto end before after
  legs_join heard upto end before mid after first then =
      subst (λ (q : History State). IsLeg side moves heard upto end before q) then.ran.after_is
      (leg_then heard upto end then.ran.steps before mid first then.ran.settled then.below)

  below_later : (heard : List Entry) (end later k : ℕ) (h : History State) → end ≤ later
      → StepsBelow side moves heard end k h → StepsBelow side moves heard later k h
  below_later heard end later zero h le below = tt
  below_later heard end later (suc k) h le below =
      (omega (arith, below.0), below_later heard end later k (heard_step side moves heard h) le below.1)

  -- a leg below an end is one below a later end
  pub leg_below_later : (heard : List Entry) (upto end later : ℕ) (before after : History State) → end ≤ later
      → IsLeg side moves heard upto end before after → IsLeg side moves heard upto later before after
  leg_below_later heard upto end later before after le leg =
      record { ran = leg.ran; below = below_later heard end later leg.ran.steps before le leg.below }

  hears_all : (old new : Half) → HearsOn old new → IsHeard old.heard new.heard old.upto
  hears_all old new h = record { rest = h.more; whole_is = h.heard; later = h.later }

  -- a leg begins
  pub leg_begins : (window end : ℕ) (stands : State → Type 0) (half : Half) (waits : List ℕ) (before : History State)
      → stands before.now → before.entries ≡ half.mine → LegRan side moves window end stands half waits waits before
  leg_begins window end stands half waits before now entries_is = record {
    after = before;
    leg = leg_at_once side moves half.heard half.upto end before;
    now_stands = now;
    entries = entries_is;
    emitted = [];
    emitted_is = append-nil before.emitted;
    waits_is = append-nil waits;
    within = leg_at_once side moves half.heard half.upto (half.known + window + 1) before;
  }

  -- more was heard, and nothing else came
  pub leg_waits : (window end : ℕ) (stands : State → Type 0) (old new : Half) (waited waits : List ℕ) (before : History State)
      → LegRan side moves window end stands old waited waits before → HearsOn old new → new.mine ≡ old.mine
      → LegRan side moves window end stands new waited waits before
  leg_waits window end stands old new waited waits before ran hears mine_is =
      let heard = hears_all old new hears in
      record {
        after = ran.after;
        leg = leg_longer side moves old.heard new.heard old.upto new.upto end before ran.after ran.leg heard hears.upto;
        now_stands = ran.now_stands;
        entries = ran.entries ∙ sym mine_is;
        emitted = ran.emitted;
        emitted_is = ran.emitted_is;
        waits_is = ran.waits_is;
        within = leg_below_later new.heard new.upto (old.known + window + 1) (new.known + window + 1) before ran.after (omega (arith, hears.known))
            (leg_longer side moves old.heard new.heard old.upto new.upto (old.known + window + 1) before ran.after ran.within heard hears.upto);
      }

  -- a step was made below the end
  pub leg_steps : (window end : ℕ) (stands next : State → Type 0) (old new : Half) (waited waits more : List ℕ) (before : History State)
      → (ran : LegRan side moves window end stands old waited waits before) → HearsOn old new
      → moves.stamp ran.after.now < end
      → Tried side moves window next new waits more ran.after
      → LegRan side moves window end next new waited more before
  leg_steps window end stands next old new waited waits more before ran hears early step =
      let heard = hears_all old new hears in
      record {
        after = heard_step side moves new.heard ran.after;
        leg = leg_on side moves new.heard new.upto end before ran.after
            (leg_longer side moves old.heard new.heard old.upto new.upto end before ran.after ran.leg heard hears.upto) early step.settled;
        now_stands = step.now_stands;
        entries = step.entries;
        emitted = ran.emitted ++ step.emitted;
        emitted_is = sym (append_assoc before.emitted ran.emitted step.emitted) ∙ ap (λ l. l ++ step.emitted) ran.emitted_is ∙ step.emitted_is;
        waits_is = sym (append_assoc waited ran.emitted step.emitted) ∙ ap (λ l. l ++ step.emitted) ran.waits_is ∙ step.waits_is;
        within = leg_on side moves new.heard new.upto (new.known + window + 1) before ran.after
            (leg_below_later new.heard new.upto (old.known + window + 1) (new.known + window + 1) before ran.after (omega (arith, hears.known))
            (leg_longer side moves old.heard new.heard old.upto new.upto (old.known + window + 1) before ran.after ran.within heard hears.upto))
            (omega (arith, step.within)) step.settled;
      }

  -- a leg went on by more steps, with more heard
  pub leg_runs : (window end : ℕ) (stands next : State → Type 0) (old new : Half) (waited mid waits : List ℕ) (before : History State)
      → (ran : LegRan side moves window end stands old waited mid before)
      → HasRunOn side moves window end next old new mid waits ran.after
      → LegRan side moves window end next new waited waits before
  leg_runs window end stands next old new waited mid waits before ran on =
      let heard = hears_all old new on.hears in
      record {
        after = on.ran.after;
        leg = legs_join new.heard new.upto end before ran.after on.ran.after
            (leg_longer side moves old.heard new.heard old.upto new.upto end before ran.after ran.leg heard on.hears.upto) on.ran.leg;
        now_stands = on.ran.now_stands;
        entries = on.ran.entries;
        emitted = ran.emitted ++ on.ran.emitted;
        emitted_is = sym (append_assoc before.emitted ran.emitted on.ran.emitted) ∙ ap (λ l. l ++ on.ran.emitted) ran.emitted_is ∙ on.ran.emitted_is;
        waits_is = sym (append_assoc waited ran.emitted on.ran.emitted) ∙ ap (λ l. l ++ on.ran.emitted) ran.waits_is ∙ on.ran.waits_is;
        within = legs_join new.heard new.upto (new.known + window + 1) before ran.after on.ran.after
            (leg_below_later new.heard new.upto (old.known + window + 1) (new.known + window + 1) before ran.after (omega (arith, on.hears.known))
            (leg_longer side moves old.heard new.heard old.upto new.upto (old.known + window + 1) before ran.after ran.within heard on.hears.upto)) on.ran.within;
      }

-- ---- a clock that is told

-- nothing was told yet
pub told_nothing : (region : Region) (at : ℕ) (half : Half) → half.at ≤ at → IsInReach region at half → HasTold region at half half
told_nothing region at half clock reach = record { hears = hears_nothing half; mine = refl; clock = clock; reach = reach; counted = λ n risen. risen }

-- and once more
pub told_then : (region : Region) (at : ℕ) (old mid new : Half) → HasTold region at old mid → HasTold region at mid new → HasTold region at old new
told_then region at old mid new first next = record {
  hears = hears_then old mid new first.hears next.hears;
  mine = next.mine ∙ first.mine;
  clock = next.clock;
  reach = next.reach;
  counted = λ n risen. next.counted n (first.counted n risen);
}
