-- The step of the earlier side's machine over a whole.
use Rattle.std.specs.Prelude.{◌^◌}
use Rattle.std.proofs.Common.{◌≡◌, ℕ, ◌+◌, ◌≤◌, List, ◌++◌, length, refl, ap, sym, ◌∙◌, subst, ⊎_elim, arith}
use Rattle.std.proofs.lemmas.List.{append-nil}
use Rattle.std.proofs.Math.Nat.{ℕ_set, eq-or-lt_of_le}
use Rattle.std.proofs.Math.Bridge.{le_prop}
use mathlib.Core.Logic.{∥∥₁_elim}
use Rattle.snes_defs.specs.declared.ports.Side.{Side}
use Rattle.snes_defs.specs.declared.ports.Side.TheVariants.{Console, Sound}
use Rattle.snes_defs.specs.declared.region.Region.{Region}
use Rattle.snes_defs.specs.declared.ports.Act.{Act}
use Rattle.snes_defs.specs.declared.ports.Act.TheVariants.{Quiet, Read, Write, Clear}
use Rattle.clock_ratio.specs.Stamp.{least_of, most_of, window_of}
use Rattle.port_entries.specs.Window.{IsSettled}
use Rattle.side_law.specs.declared.ports.Stop.{Stop}
use Rattle.side_law.specs.Moves.{Moves, IsLawful, taken}
use Rattle.side_law.specs.Gone.{IsAnswered, IsRefused, Goes, IsFull, HasGone}
use Rattle.side_law.proofs.Gone.{goes_up, taken_answered}
use Rattle.commute_laws.specs.History.{History, entry_of}
use Rattle.commute_laws.specs.Heard.{heard_got}
use Rattle.commute_laws.proofs.Later.{always_on_look}
use Rattle.port_wire.specs.Tally.{Tally}
use Rattle.port_wire.specs.Seen.{Both, half_of}
use Rattle.port_wire.specs.Whole.{other_of, IsOwn, HearBoth}
use Rattle.pair_run.specs.Tried.{as_heard}
use Rattle.pair_run.specs.OverWhole.{WholeWay, own_half, other_half, whole_calls, KeepsBoth, IsTriedWhole, HasMadeStep}
use Rattle.pair_run.proofs.LegGoesOn.{hears_nothing}
use Rattle.pair_run.proofs.OneStep.{one_step}
use Rattle.pair_run.proofs.Rows.{last_set}
use Rattle.pair_run.proofs.Tries.{tried}
use Rattle.pair_run.proofs.Unrefused.{settled_soon, settled_refused, within_refused}
use Rattle.pair_run.proofs.WaySteps.{side_sure}

-- what the call of a step did, whatever its act
record HasCalled {Wire : Type 0} (at : ℕ) (act : Act) (got : ℕ) (p q : WholeWay Wire) : Type 0 where
  pub wire : q.wire ≡ p.wire
  pub name : q.name ≡ p.name
  pub side : q.side ≡ p.side
  pub own : IsOwn p.side p.both q.both
  pub hears : HearBoth p.both q.both
  pub got_is : taken act got ≡ heard_got p.side (own_half p).mine (other_half p).mine at act
  pub mine : (half_of p.side q.both).mine ≡ (own_half p).mine ++ entry_of at act

called_by : {Wire : Type 0} (at : ℕ) (act : Act) (got : ℕ) (p q : WholeWay Wire) → IsAnswered whole_calls at act got p q → HasCalled at act got p q
called_by at Quiet got p q h = subst (HasCalled at Quiet got p) h.1 (record {
  wire = refl;
  name = refl;
  side = refl;
  own = record { other = record { mine = refl; clock = refl; tally = refl }; tally = refl };
  hears = record { console = hears_nothing p.both.console; sound = hears_nothing p.both.sound };
  got_is = refl;
  mine = sym (append-nil (own_half p).mine);
})
called_by at (Read port) got p q h = record {
  wire = h.wire;
  name = h.name;
  side = h.side;
  own = h.own;
  hears = h.hears;
  got_is = h.ends.value;
  mine = h.ends.mine ∙ sym (append-nil (own_half p).mine);
}
called_by at (Write port byte) got p q h = record {
  wire = h.1.wire;
  name = h.1.name;
  side = h.1.side;
  own = h.1.own;
  hears = h.1.hears;
  got_is = refl;
  mine = h.1.ends.mine;
}
called_by at (Clear mask) got p q h = record {
  wire = h.1.wire;
  name = h.1.name;
  side = h.1.side;
  own = h.1.own;
  hears = h.1.hears;
  got_is = refl;
  mine = h.1.ends.mine;
}

-- a call at a stamp that the other side's clock settles isn't refused
answered_by : {Wire : Type 0} (at : ℕ) (act : Act) (p q : WholeWay Wire) → IsSettled p.side at (other_half p).at → IsRefused whole_calls at act p q → ⊥
answered_by at Quiet p q first h = h
answered_by at (Read port) p q first h = settled_refused p.side at (other_half p).at h.0 first h.1
answered_by at (Write port byte) p q first h = within_refused (window_of p.region) at (other_half p).at h.0 (settled_soon p.side at (other_half p).at first) h.1
answered_by at (Clear mask) p q first h = settled_refused p.side at (other_half p).at h.0 first h.1

tally_set : (a b : Tally) → IsProp (a ≡ b)
tally_set = hlevel (ℕ_set, last_set)

-- both have heard no less
known_more : (side : Side) (old new : Both) → HearBoth old new → (half_of side old).known ≤ (half_of side new).known
known_more Console old new h = h.console.known
known_more Sound old new h = h.sound.known

-- all that the step of a value over a whole did
pub record HasRunStep {State Wire : Type 0} (region : Region) (moves : Moves State) (most : ℕ) (stood stands : State → Type 0) (was now : ℕ) (p q : WholeWay Wire) (waited waits : List ℕ) : Type 0 where
  pub lent : (q.wire ≡ p.wire) × (q.name ≡ p.name)
  pub made : HasMadeStep region p.side moves most stood stands was now p.both q.both waited waits

-- the step of a value
module _ {State Wire : Type 0} (region : Region) (valid : State → Type 0) (most cap : ℕ) (moves : Moves State) (lawful : IsLawful region valid most moves) (until : ℕ)
    (stood stands : State → Type 0) (was now : ℕ) (p q : WholeWay Wire) (waited waits : List ℕ) (stop : Stop)
    (is_valid : (m : State) → stood m → valid m) (stood_at : (m : State) → stood m → moves.stamp m ≡ was) (stands_at : (m : State) → stands m → moves.stamp m ≡ now)
    (here : p.region ≡ region) (soon : until ≡ was + 1) (early : was ≤ 2 ^ 51) (room : length waited + most ≤ cap) (first : IsSettled p.side was (other_half p).at)
    (gone : (m : State) → stood m → HasGone moves whole_calls until most cap stands (λ r. q ≡ r) waited waits stop m p) where
  -- what it did from a state
  record HasDone (m : State) : Type 0 where
    pub to : State
    pub now_stands : stands to
    pub goes : Goes moves whole_calls until (record { own = m; ports = p; waits = waited }) (record { own = to; ports = q; waits = waits })

  not_full : (m : State) → stood m → IsFull moves whole_calls until most cap (record { own = m; ports = p; waits = waited }) → ⊥
  not_full m at full = ⊎_elim (λ late. omega (arith, late, stood_at m at, early)) (λ over. omega (arith, over, room)) full

  done : (m : State) → stood m → HasDone m
  done m at =
      let h = gone m at in
      let is = stood_at m at in
      record {
        to = h.to;
        now_stands = h.now_stands;
        goes = subst
            (λ (r : WholeWay Wire). Goes moves whole_calls until (record { own = m; ports = p; waits = waited }) (record { own = h.to; ports = r; waits = waits }))
            (sym h.ports_stand)
            (one_step region valid most moves lawful whole_calls until (record { own = m; ports = p; waits = waited }) (is_valid m at) (omega (arith, soon, is)) cap stop _
            (omega (arith, soon, is)) (not_full m at)
            (λ r. answered_by (moves.stamp m) (moves.act m) p r (subst (λ n. IsSettled p.side n (other_half p).at) (sym is) first)) h.stopped);
      }

  -- the ports after the step are those after its call
  called : (m : State) → stood m → (h : HasDone m) → HasCalled (moves.stamp m) (moves.act m) h.goes.got p q
  called m at h =
      let step = goes_up region valid most moves lawful whole_calls until _ _ (is_valid m at) h.goes in
      let to = ⊎_elim (λ same. h.goes.silent same) (λ some. h.goes.told some) (eq-or-lt_of_le step.longer) in
      subst (HasCalled (moves.stamp m) (moves.act m) h.goes.got p) to
      (called_by (moves.stamp m) (moves.act m) h.goes.got p h.goes.called h.goes.answered)

  step_from : (before : History State) → stood before.now → before.entries ≡ (own_half p).mine
      → IsTriedWhole p.side moves (window_of region) stands p.both q.both waited waits before
  step_from before at entries =
      let h = done before.now at in
      let call = called before.now at h in
      let is = stood_at before.now at in
      let settled = subst (λ n. IsSettled p.side n (other_half p).at) (sym is) first in
      let takes = taken_answered whole_calls (moves.stamp before.now) (moves.act before.now) h.goes.got p h.goes.called h.goes.answered in
      record {
        tried = tried p.side moves (window_of region) stands (own_half p) (as_heard (half_of p.side q.both) (other_half p)) waited waits before
            (moves.act before.now) (moves.stamp before.now) h.goes.got refl refl entries call.got_is call.mine
            (always_on_look (moves.act before.now) (IsSettled p.side (moves.stamp before.now) (other_half p).at) settled)
            (omega (arith, settled_soon p.side (moves.stamp before.now) (other_half p).at settled))
            (subst stands (sym (ap (moves.next before.now) takes ∙ h.goes.own)) h.now_stands)
            (sym (ap (λ k. waited ++ moves.bytes before.now k) takes ∙ h.goes.waits));
        other = call.own.other.mine;
      }

  module _ (some : ∥ ((m : State) × stood m) ∥₁) where
    same_side : q.side ≡ p.side
    same_side = side_sure q.side p.side some (λ m. (called m.0 m.1 (done m.0 m.1)).side)

    keeps : KeepsBoth p.side p.both q.both
    keeps = record {
      tally = ∥∥₁_elim some (tally_set _ _) (λ m. (called m.0 m.1 (done m.0 m.1)).own.tally);
      other_tally = ∥∥₁_elim some (tally_set _ _) (λ m. (called m.0 m.1 (done m.0 m.1)).own.other.tally);
      other_clock = ∥∥₁_elim some (ℕ_set _ _) (λ m. (called m.0 m.1 (done m.0 m.1)).own.other.clock);
      known = ∥∥₁_elim some le_prop (λ m. known_more p.side p.both q.both (called m.0 m.1 (done m.0 m.1)).hears);
      other_known = ∥∥₁_elim some le_prop (λ m. known_more (other_of p.side) p.both q.both (called m.0 m.1 (done m.0 m.1)).hears);
    }

    -- by how much it rose, and what it emitted
    rose : (m : State) → stood m → (was + least_of region ≤ now) × (now ≤ was + most_of region) × (length waits ≤ length waited + most)
    rose m at =
        let h = done m at in
        let step = goes_up region valid most moves lawful whole_calls until _ _ (is_valid m at) h.goes in
        let from = stood_at m at in
        let to = stands_at h.to h.now_stands in
        (omega (arith, step.up, from, to), omega (arith, step.at_most, from, to), step.emits_at_most)

    pub run_one : ((a b : Wire) → IsProp (a ≡ b)) → (own_half q).at ≤ now → HasRunStep region moves most stood stands was now p q waited waits
    run_one set clock = record {
      lent = (
        ∥∥₁_elim some (set _ _) (λ m. (called m.0 m.1 (done m.0 m.1)).wire),
        ∥∥₁_elim some (ℕ_set _ _) (λ m. (called m.0 m.1 (done m.0 m.1)).name),
      );
      made = record {
        keeps = keeps;
        clock = subst (λ s. (half_of s q.both).at ≤ now) same_side clock;
        rises = ∥∥₁_elim some le_prop (λ m. (rose m.0 m.1).0);
        rises_at_most = ∥∥₁_elim some le_prop (λ m. (rose m.0 m.1).1);
        emits_at_most = ∥∥₁_elim some le_prop (λ m. (rose m.0 m.1).2);
        step = step_from;
      };
    }
