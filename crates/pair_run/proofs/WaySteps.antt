-- Steps of a machine over its pass are a leg.
use Rattle.std.specs.Prelude.{◌^◌, ◌-◌, ◌*◌, nat_le, if◌then◌else◌}
use Rattle.std.proofs.Common.{◌≡◌, ℕ, zero, suc, ◌+◌, ◌<◌, ◌≤◌, ◌⊎◌, List, [], ◌++◌, length, refl, ap, sym, ◌∙◌, subst, inl, inr, ⊎_elim, arith}
use Rattle.std.proofs.lemmas.List.{append-nil}
use Rattle.std.proofs.lemmas.Bool.{cases_lt}
use Rattle.std.proofs.lemmas.Bool.Decides.{nat_tests}
use Rattle.std.proofs.Math.Nat.{ℕ_set, eq-or-lt_of_le}
use Rattle.std.proofs.Math.Bridge.{le_prop}
use mathlib.Core.Logic.{∥∥₁_elim}
use Rattle.snes_defs.specs.declared.ports.Side.{Side}
use Rattle.snes_defs.specs.declared.ports.Side.TheVariants.{Console, Sound}
use Rattle.snes_defs.specs.declared.region.Region.{Region}
use Rattle.snes_defs.specs.declared.ports.Act.{Act}
use Rattle.snes_defs.specs.declared.ports.Act.TheVariants.{Quiet, Read, Write, Clear}
use Rattle.clock_ratio.specs.Stamp.{most_of, window_of}
use Rattle.clock_ratio.proofs.Numbers.{numbers}
use Rattle.port_entries.specs.Window.{IsSettled}
use Rattle.side_law.specs.declared.ports.Stop.{Stop}
use Rattle.side_law.specs.declared.ports.Stop.TheVariants.{Until, Emitted, Refused}
use Rattle.side_law.specs.Moves.{Moves, IsLawful, taken}
use Rattle.side_law.specs.Gone.{Over, IsAnswered, IsRefused, Goes, GoneBy, Gone, HasStopped, HasGone}
use Rattle.side_law.proofs.Gone.{refused_by, goes_up, gone_up, taken_answered}
use Rattle.commute_laws.specs.History.{History, entry_of}
use Rattle.commute_laws.specs.Heard.{OnLook, heard_got}
use Rattle.port_wire.specs.declared.late.PassLate.{PassLate}
use Rattle.port_wire.specs.Tally.{Tally, counted_on, HasRisenBy}
use Rattle.port_wire.specs.Seen.{Half}
use Rattle.port_wire.specs.Answers.{HearsOn}
use Rattle.pair_run.specs.Leg.{LegRan, HasRun}
use Rattle.pair_run.specs.Tried.{IsHeldBack, call_of}
use Rattle.port_wire.specs.Reach.{IsInReach}
use Rattle.pair_run.specs.Over.{Way, IsSameWay, pass_calls, KeepsWithin, HasRunOn, HasTold, IsLimit, HasTried, IsHeldStill, IsHeldOff}
use Rattle.pair_run.proofs.LegGoesOn.{hears_then, hears_nothing, leg_begins, leg_waits, leg_steps, leg_runs, leg_below_later}
use Rattle.pair_run.proofs.OneStep.{nowhere_by}
use Rattle.pair_run.proofs.Refusals.{counted_once}
use Rattle.pair_run.proofs.Tries.{tried}

same_nothing : {Wire : Type 0} (p : Way Wire) → IsSameWay p p
same_nothing p = record { wire = refl; region = refl; name = refl; side = refl; held = refl; hears = hears_nothing p.half }

same_then : {Wire : Type 0} (p q r : Way Wire) → IsSameWay p q → IsSameWay q r → IsSameWay p r
same_then p q r first next = record {
  wire = next.wire ∙ first.wire;
  region = next.region ∙ first.region;
  name = next.name ∙ first.name;
  side = next.side ∙ first.side;
  held = next.held ∙ first.held;
  hears = hears_then p.half q.half r.half first.hears next.hears;
}

-- what the call of a step did, whatever its act
record HasCalled {Wire : Type 0} (at : ℕ) (act : Act) (got : ℕ) (p q : Way Wire) : Type 0 where
  pub same : IsSameWay p q
  pub got_is : taken act got ≡ heard_got p.side p.half.mine q.half.heard at act
  pub mine : q.half.mine ≡ p.half.mine ++ entry_of at act
  pub settled : OnLook act (IsSettled p.side at q.half.upto)
  pub within : (act ≡ Quiet) ⊎ (at ≤ q.half.known + window_of p.region)
  pub refused : q.half.tally.refused ≡ p.half.tally.refused

called_by : {Wire : Type 0} (at : ℕ) (act : Act) (got : ℕ) (p q : Way Wire) → IsAnswered pass_calls at act got p q → HasCalled at act got p q
called_by at Quiet got p q h = subst (HasCalled at Quiet got p) h.1 (record {
  same = same_nothing p;
  got_is = refl;
  mine = sym (append-nil p.half.mine);
  settled = tt;
  within = inl refl;
  refused = refl;
})
called_by at (Read port) got p q h = record {
  same = h.same;
  got_is = h.ends.value;
  mine = h.ends.mine ∙ sym (append-nil p.half.mine);
  settled = h.ends.settled;
  within = inr (omega (arith, h.ends.soon));
  refused = ap (λ (t : Tally). t.refused) h.ends.tally;
}
called_by at (Write port byte) got p q h = record {
  same = h.1.same;
  got_is = refl;
  mine = h.1.ends.mine;
  settled = tt;
  within = inr h.1.ends.within;
  refused = ap (λ (t : Tally). t.refused) h.1.ends.tally;
}
called_by at (Clear mask) got p q h = record {
  same = h.1.same;
  got_is = refl;
  mine = h.1.ends.mine;
  settled = h.1.ends.settled;
  within = inr (omega (arith, h.1.ends.soon));
  refused = ap (λ (t : Tally). t.refused) h.1.ends.tally;
}

-- a quiet step's call isn't refused
loud_by : {Wire : Type 0} (at : ℕ) (act : Act) (p q : Way Wire) → IsRefused pass_calls at act p q → act ≡ Quiet → ⊥
loud_by at act p q h is = subst (λ (a : Act). IsRefused pass_calls at a p q) is h

-- there is room with few bytes buffered
room_few : {Wire : Type 0} (p : Way Wire) (n at : ℕ) → at < (if nat_le n p.held then 2 ^ 64 - 1 else 0) → n ≤ p.held
room_few p n at h = grind (arith, nat_tests)

room_none : {Wire : Type 0} (p : Way Wire) (n at : ℕ) → (if nat_le n p.held then 2 ^ 64 - 1 else 0) ≤ at → at < 2 ^ 64 - 1 → p.held < n
room_none p n at h early = grind (arith, nat_tests)

module _ {State Wire : Type 0} (region : Region) (valid : State → Type 0) (most : ℕ) (moves : Moves State) (lawful : IsLawful region valid most moves) (until : ℕ)
    (before : History State) (p : Way Wire) (waited : List ℕ) where
  -- where steps led from a history with the pass's entries
  pub record HasWalked (y : Over State (Way Wire)) : Type 0 where
    pub same : IsSameWay p y.ports
    pub ran : LegRan p.side moves (window_of p.region) until (λ m. m ≡ y.own) y.ports.half waited y.waits before
    pub reach : moves.stamp y.own ≤ y.ports.half.known + window_of p.region + most_of region
    pub room : length y.waits ≤ p.held + most
    pub refused : y.ports.half.tally.refused ≡ p.half.tally.refused

  abbrev start : Over State (Way Wire)
  start = record { own = before.now; ports = p; waits = waited }

  -- the ports after a step are those after its call
  same_ports : (x y : Over State (Way Wire)) → length x.waits ≤ length y.waits → (goes : Goes moves pass_calls until x y) → goes.called ≡ y.ports
  same_ports x y longer goes = ⊎_elim (λ same. goes.silent same) (λ some. goes.told some) (eq-or-lt_of_le longer)

  -- one step more
  walk_on : (x y : Over State (Way Wire)) → valid x.own → (moves.act x.own ≡ Quiet → moves.stamp x.own ≤ p.half.known + window_of p.region)
      → Goes moves pass_calls until x y → HasWalked x → HasWalked y
  walk_on x y is_valid quiet goes h =
      let step = goes_up region valid most moves lawful pass_calls until x y is_valid goes in
      let at = moves.stamp x.own in
      let act = moves.act x.own in
      let called = called_by at act goes.got x.ports goes.called goes.answered in
      let to = same_ports x y step.longer goes in
      let call = subst (HasCalled at act goes.got x.ports) to called in
      let now = same_then p x.ports y.ports h.same call.same in
      let here = h.ran.now_stands in
      let takes = taken_answered pass_calls at act goes.got x.ports goes.called goes.answered in
      let within : at ≤ y.ports.half.known + window_of p.region = ⊎_elim
      (λ is. omega (arith, quiet is, now.hears.known))
      (λ le. omega (arith, le, ap window_of h.same.region))
      call.within in
      record {
        same = now;
        ran = leg_steps p.side moves (window_of p.region) until (λ m. m ≡ x.own) (λ m. m ≡ y.own) x.ports.half y.ports.half waited x.waits y.waits before h.ran call.same.hears
            (omega (arith, ap moves.stamp here, goes.early))
            (tried p.side moves (window_of p.region) (λ m. m ≡ y.own) x.ports.half y.ports.half x.waits y.waits h.ran.after act at goes.got
            (ap moves.act here) (ap moves.stamp here) h.ran.entries
            (subst (λ s. taken act goes.got ≡ heard_got s x.ports.half.mine y.ports.half.heard at act) h.same.side call.got_is)
            call.mine
            (subst (λ s. OnLook act (IsSettled s at y.ports.half.upto)) h.same.side call.settled)
            within
            (ap (λ m. moves.next m (taken (moves.act m) goes.got)) here ∙ ap (moves.next x.own) takes ∙ goes.own)
            (sym (ap (λ m. x.waits ++ moves.bytes m (taken (moves.act m) goes.got)) here ∙ ap (λ k. x.waits ++ moves.bytes x.own k) takes ∙ goes.waits)));
        reach = omega (arith, step.at_most, within);
        room = ⊎_elim
            (λ same. omega (arith, same, h.room))
            (λ some. (let few = room_few x.ports (length x.waits) at (goes.room some) in omega (arith, few, h.same.held, step.emits_at_most)))
            (eq-or-lt_of_le step.longer);
        refused = call.refused ∙ h.refused;
      }

  -- the call of the next step was refused, and none was made
  pub record IsHeldHere (to : State) (q : Way Wire) (waits : List ℕ) : Type 0 where
    pub loud : moves.act before.now ≡ Quiet → ⊥
    pub still : before.now ≡ to
    pub held : IsHeldBack (call_of (moves.act before.now)) (moves.stamp before.now) q.late p.half q.half
    pub waits_is : waited ≡ waits

  -- where a call stopped
  pub record HasWent (y : Over State (Way Wire)) : Type 0 where
    pub same : IsSameWay p y.ports
    pub ran : LegRan p.side moves (window_of p.region) until (λ m. m ≡ y.own) y.ports.half waited y.waits before
    pub reach : moves.stamp y.own ≤ y.ports.half.known + window_of p.region + most_of region
    pub room : length y.waits ≤ p.held + most
    pub counted : (n : ℕ) → HasRisenBy 0 n p.half.tally.refused → HasRisenBy 0 n y.ports.half.tally.refused
    -- it made a step, or the next one was held back
    pub goes : (moves.stamp before.now < moves.stamp y.own) ⊎ IsHeldHere y.own y.ports y.waits

  module _ (keeps : KeepsWithin moves (λ m. m ≡ before.now) (moves.stamp before.now) until (p.half.known + window_of p.region)) (is_valid : valid before.now)
      (entries : before.entries ≡ p.half.mine) (reach : moves.stamp before.now ≤ p.half.known + window_of p.region + most_of region)
      (early : moves.stamp before.now < until) (until_early : until < 2 ^ 64 - 1) (few : length waited ≤ p.held) where
    -- no quiet step is begun past the window
    quiet_within : (x : Over State (Way Wire)) → Gone moves pass_calls until start x → moves.stamp x.own < until → moves.act x.own ≡ Quiet
        → moves.stamp x.own ≤ p.half.known + window_of p.region
    quiet_within x gone below quiet = ⊎_elim
        (λ le. omega (arith, le, below))
        (λ one.
        (let same = nowhere_by region valid most moves lawful pass_calls until start is_valid gone.steps x gone.made (omega (arith, one.0, below)) in
        absurd (one.1 before.now refl (ap (λ (z : Over State (Way Wire)). moves.act z.own) same ∙ quiet))))
        keeps

    walk_none : HasWalked start
    walk_none = record {
      same = same_nothing p;
      ran = leg_begins p.side moves (window_of p.region) until (λ m. m ≡ before.now) p.half waited before refl entries;
      reach = reach;
      room = omega (arith, few);
      refused = refl;
    }

    walk_by : (n : ℕ) (y : Over State (Way Wire)) → GoneBy moves pass_calls until n start y → HasWalked y
    walk_by zero y same = subst HasWalked same walk_none
    walk_by (suc n) y (last, steps, goes) =
        let gone : Gone moves pass_calls until start last = record { steps = n; made = steps } in
        let risen = gone_up region valid most moves lawful pass_calls until start last is_valid gone in
        walk_on last y risen.is_valid (λ quiet. quiet_within last gone goes.early quiet) goes (walk_by n last steps)

    went_on : (y : Over State (Way Wire)) → HasWalked y → (moves.stamp before.now < moves.stamp y.own) ⊎ IsHeldHere y.own y.ports y.waits → HasWent y
    went_on y h goes = record {
      same = h.same;
      ran = h.ran;
      reach = h.reach;
      room = h.room;
      counted = λ n risen. subst (HasRisenBy 0 n) (sym h.refused) risen;
      goes = goes;
    }

    pub went_by : (cap : ℕ) (stop : Stop) (y : Over State (Way Wire)) → p.held + 2 * most ≡ cap → HasStopped moves pass_calls until most cap stop start y → HasWent y
    went_by cap Until y cap_is h =
        let walk = walk_by h.gone.steps y h.gone.made in
        went_on y walk (⊎_elim (λ up. inl up) (λ not.
        (let same = nowhere_by region valid most moves lawful pass_calls until start is_valid h.gone.steps y h.gone.made not in
        let waits = ap (λ (z : Over State (Way Wire)). length z.waits) same in
        absurd (⊎_elim
        (λ there. omega (arith, there, early, not))
        (λ full. ⊎_elim
        (λ none. (let more = room_none y.ports (length y.waits) (moves.stamp y.own) none (omega (arith, not, early, until_early)) in omega (arith, more, walk.same.held, waits, few)))
        (λ none. omega (arith, none, waits, few, cap_is))
        full)
        h.ends)))
        (cases_lt (moves.stamp before.now) (moves.stamp y.own)))
    went_by cap (Emitted at) y cap_is h =
        let gone = h.gone in
        let risen = gone_up region valid most moves lawful pass_calls until start h.last is_valid gone in
        let step = goes_up region valid most moves lawful pass_calls until h.last y risen.is_valid h.goes in
        went_on y (walk_on h.last y risen.is_valid (λ quiet. quiet_within h.last gone h.goes.early quiet) h.goes (walk_by gone.steps h.last gone.made))
        (inl (omega (arith, risen.forward, step.up, (numbers region).rises)))
    went_by cap Refused y cap_is h =
        let x : Over State (Way Wire) = record y { ports = h.called } in
        let walk = walk_by h.gone.steps x h.gone.made in
        let late = refused_by pass_calls (moves.stamp y.own) (moves.act y.own) h.called y.ports h.refused in
        record {
          same = same_then p h.called y.ports walk.same late.same;
          ran = leg_waits p.side moves (window_of p.region) until (λ m. m ≡ y.own) h.called.half y.ports.half waited y.waits before walk.ran late.same.hears late.refused.mine;
          reach = omega (arith, walk.reach, late.same.hears.known);
          room = walk.room;
          counted = λ n risen. counted_once n p.half.tally.refused y.ports.half.tally.refused risen
              (ap (λ (t : Tally). t.refused) late.refused.tally ∙ ap counted_on walk.refused);
          goes = ⊎_elim (λ up. inl up) (λ not.
              (let same = nowhere_by region valid most moves lawful pass_calls until start is_valid h.gone.steps x h.gone.made not in
              inr (record {
                loud = λ quiet. loud_by (moves.stamp y.own) (moves.act y.own) h.called y.ports h.refused (ap (λ (z : Over State (Way Wire)). moves.act z.own) (sym same) ∙ quiet);
                still = ap (λ (z : Over State (Way Wire)). z.own) same;
                held = subst (λ (z : Over State (Way Wire)). IsHeldBack (call_of (moves.act z.own)) (moves.stamp z.own) y.ports.late z.ports.half y.ports.half) (sym same)
                    (record { mine = late.refused.mine; tally = late.refused.tally });
                waits_is = ap (λ (z : Over State (Way Wire)). z.waits) same;
              })))
              (cases_lt (moves.stamp before.now) (moves.stamp y.own));
        }

-- ---- of values

number_of : Side → ℕ
number_of Console = 0
number_of Sound = 1

-- a side is another, if something shows it
pub side_sure : {X : Type 0} (a b : Side) → ∥ X ∥₁ → (X → a ≡ b) → a ≡ b
unfolding number_of
side_sure Console Console some shows = refl
side_sure Sound Sound some shows = refl
side_sure Console Sound some shows = absurd (∥∥₁_elim some (λ x y. absurd x) (λ x. omega (arith, ap number_of (shows x))))
side_sure Sound Console some shows = absurd (∥∥₁_elim some (λ x y. absurd x) (λ x. omega (arith, ap number_of (shows x))))

-- a leg to a state in which a value stands
leg_stands : {State : Type 0} (side : Side) (moves : Moves State) (window end : ℕ) (stands : State → Type 0) (half : Half) (waited waits : List ℕ) (before : History State) (to : State)
    → stands to → LegRan side moves window end (λ m. m ≡ to) half waited waits before → LegRan side moves window end stands half waited waits before
leg_stands side moves window end stands half waited waits before to now ran = record {
  after = ran.after;
  leg = ran.leg;
  now_stands = subst stands (sym ran.now_stands) now;
  entries = ran.entries;
  emitted = ran.emitted;
  emitted_is = ran.emitted_is;
  waits_is = ran.waits_is;
  within = ran.within;
}

-- what may have risen has, if something shows it
pub risen_sure : {X : Type 0} (k before after : ℕ) → ∥ X ∥₁ → (X → HasRisenBy k before after) → HasRisenBy k before after
risen_sure k before after some shows = ⊎_elim
    (λ less. inr (∥∥₁_elim some (ℕ_set _ _) (λ x. ⊎_elim (λ le. absurd (omega (arith, le, less))) (λ is. is) (shows x))))
    (λ le. inl le)
    (cases_lt after (before + k))

-- all that a run of a value over its pass did
pub record HasRunWay {State Wire : Type 0} (region : Region) (moves : Moves State) (most cap until : ℕ) (stood stands : State → Type 0) (was now : ℕ) (p q : Way Wire) (waited waits : List ℕ) : Type 0 where
  pub lent : (q.wire ≡ p.wire) × (q.name ≡ p.name)
  pub side : q.side ≡ p.side
  pub tried : HasTried region p.side moves most cap until stood stands was now p.half q.half waited waits
  pub held_off : now ≤ was → (m : State) → stood m → (moves.act m ≡ Quiet → ⊥) × IsHeldStill moves stands was q.late p.half q.half m

module _ {State Wire : Type 0} (region : Region) (valid : State → Type 0) (most cap : ℕ) (moves : Moves State) (lawful : IsLawful region valid most moves) (until : ℕ)
    (stood stands : State → Type 0) (was now : ℕ) (p q : Way Wire) (waited waits : List ℕ) (stop : Stop)
    (is_valid : (m : State) → stood m → valid m) (stood_at : (m : State) → stood m → moves.stamp m ≡ was) (stands_at : (m : State) → stands m → moves.stamp m ≡ now)
    (here : p.region ≡ region) (early : was < until) (until_early : until < 2 ^ 64 - 1) (held : p.held + 2 * most ≡ cap) (ready : length waited + 2 * most ≤ cap)
    (reach : IsInReach region was p.half) (keeps : KeepsWithin moves stood was until (p.half.known + window_of region))
    (gone : (m : State) → stood m → HasGone moves pass_calls until most cap stands (λ r. q ≡ r) waited waits stop m p) where
  -- what the steps from a history did
  pub record HasDone (before : History State) : Type 0 where
    pub to : State
    pub now_stands : stands to
    pub went : HasWent region valid most moves lawful until before p waited (record { own = to; ports = q; waits = waits })

  done_from : (before : History State) → stood before.now → before.entries ≡ p.half.mine → HasDone before
  done_from before stands entries =
      let at = stood_at before.now stands in
      let went = gone before.now stands in
      let same = ap window_of here in
      let within : KeepsWithin moves (λ m. m ≡ before.now) (moves.stamp before.now) until (p.half.known + window_of p.region) = ⊎_elim
      (λ le. inl (omega (arith, le, same)))
      (λ one. inr (omega (arith, one.0, at), λ m is quiet. one.1 before.now stands (ap moves.act (sym is) ∙ quiet)))
      keeps in
      let stopped = subst (λ (r : Way Wire). HasStopped moves pass_calls until most cap stop (record { own = before.now; ports = p; waits = waited }) (record { own = went.to; ports = r; waits = waits }))
      (sym went.ports_stand) went.stopped in
      record {
        to = went.to;
        now_stands = went.now_stands;
        went = went_by region valid most moves lawful until before p waited within (is_valid before.now stands) entries (omega (arith, at, reach, same)) (omega (arith, at, early)) until_early
            (omega (arith, held, ready)) cap stop (record { own = went.to; ports = q; waits = waits }) held stopped;
      }

  -- a history that begins where the value stood
  begun : State → History State
  begun m = record { now = m; steps = 0; entries = p.half.mine; emitted = [] }

  done : (m : State) → stood m → HasDone (begun m)
  unfolding begun
  done m stands = done_from (begun m) stands refl

  still_here : now ≤ was → (m : State) → (at : stood m) → (h : HasDone (begun m)) → IsHeldHere region valid most moves lawful until (begun m) p waited h.to q waits
  unfolding begun
  still_here not m at h = ⊎_elim (λ up. absurd (omega (arith, up, stood_at m at, stands_at h.to h.now_stands, not))) (λ here. here) h.went.goes

  module _ (some : ∥ ((m : State) × stood m) ∥₁) where
    pub way_name : q.name ≡ p.name
    way_name = ∥∥₁_elim some (ℕ_set _ _) (λ m. (done m.0 m.1).went.same.name)

    pub way_side : q.side ≡ p.side
    way_side = side_sure q.side p.side some (λ m. (done m.0 m.1).went.same.side)

    pub way_wire : ((a b : Wire) → IsProp (a ≡ b)) → q.wire ≡ p.wire
    way_wire set = ∥∥₁_elim some (set _ _) (λ m. (done m.0 m.1).went.same.wire)

    pub way_tried : was ≤ now → q.half.at ≤ now → HasTried region p.side moves most cap until stood stands was now p.half q.half waited waits
    way_tried forward clock = record {
      ran = λ before at entries. (
          let h = done_from before at entries in
          record {
            ran = subst (λ r. LegRan p.side moves (window_of r) until stands q.half waited waits before) here
                (leg_stands p.side moves (window_of p.region) until stands q.half waited waits before h.to h.now_stands h.went.ran);
            hears = h.went.same.hears;
          });
      forward = forward;
      clock = clock;
      reach = ∥∥₁_elim some le_prop (λ m. (let h = done m.0 m.1 in omega (arith, h.went.reach, stands_at h.to h.now_stands, ap window_of here)));
      room = ∥∥₁_elim some le_prop (λ m. (let h = done m.0 m.1 in omega (arith, h.went.room, held)));
      silent = λ not. ∥∥₁_elim some (ℕ_set _ _) (λ m. ap length (sym (still_here not m.0 m.1 (done m.0 m.1)).waits_is));
      counted = λ n risen. risen_sure 0 n q.half.tally.refused some (λ m. (done m.0 m.1).went.counted n risen);
    }

    pub way_held : now ≤ was → (m : State) → stood m → (moves.act m ≡ Quiet → ⊥) × IsHeldStill moves stands was q.late p.half q.half m
    unfolding begun
    way_held not m at =
        let h = done m at in
        let still = still_here not m at h in (
          still.loud,
          record {
            now_stands = subst stands (sym still.still) h.now_stands;
            held = subst (λ n. IsHeldBack (call_of (moves.act m)) n q.late p.half q.half) (stood_at m at) still.held;
          },
        )

    pub way_run : ((a b : Wire) → IsProp (a ≡ b)) → was ≤ now → q.half.at ≤ now → HasRunWay region moves most cap until stood stands was now p q waited waits
    way_run set forward clock = record { lent = (way_wire set, way_name); side = way_side; tried = way_tried forward clock; held_off = way_held }

-- ---- a run, after the look up to which stamp it may go

module _ {State : Type 0} (region : Region) (side : Side) (moves : Moves State) (most cap end : ℕ) (stood stands : State → Type 0) (was now : ℕ) (old mid new : Half) (waited waits : List ℕ)
    (told : HasTold region was old mid) where
  -- a leg below an end is one below a later end
  later : (until : ℕ) (before : History State) → until ≤ end → LegRan side moves (window_of region) until stands new waited waits before → LegRan side moves (window_of region) end stands new waited waits before
  later until before le ran = record {
    after = ran.after;
    leg = leg_below_later side moves new.heard new.upto until end before ran.after le ran.leg;
    now_stands = ran.now_stands;
    entries = ran.entries;
    emitted = ran.emitted;
    emitted_is = ran.emitted_is;
    waits_is = ran.waits_is;
    within = ran.within;
  }

  pub tried_then : (until : ℕ) → until ≤ end → HasTried region side moves most cap until stood stands was now mid new waited waits
      → HasTried region side moves most cap end stood stands was now old new waited waits
  tried_then until le tried = record {
    ran = λ before at entries. (
        let h = tried.ran before at (entries ∙ sym told.mine) in
        record { ran = later until before le h.ran; hears = hears_then old mid new told.hears h.hears });
    forward = tried.forward;
    clock = tried.clock;
    reach = tried.reach;
    room = tried.room;
    silent = tried.silent;
    counted = λ n risen. tried.counted n (told.counted n risen);
  }

  pub held_then : (bound until : ℕ) (late : PassLate) → IsLimit moves stood was end bound old mid until → now ≡ was
      → ((m : State) → stood m → (moves.act m ≡ Quiet → ⊥) × IsHeldStill moves stands was late mid new m)
      → ((m n : State) → stands m → stands n → moves.act m ≡ moves.act n) → IsHeldOff moves stood stands was now old new late
  held_then bound until late limit still held alike = record {
    still = still;
    held = λ m at. (
        let h = held m at in
        record { now_stands = h.1.now_stands; held = subst (λ x. IsHeldBack (call_of (moves.act m)) was late x new) (limit.same m at h.0) h.1.held });
    alike = alike;
  }

-- no step was made
pub tried_nothing : {State : Type 0} (region : Region) (side : Side) (moves : Moves State) (most cap end : ℕ) (stands : State → Type 0) (at : ℕ) (old new : Half) (waits : List ℕ)
    → HasTold region at old new → length waits + 2 * most ≤ cap → HasTried region side moves most cap end stands stands at at old new waits waits
tried_nothing region side moves most cap end stands at old new waits told ready = record {
  ran = λ before now entries.
      record { ran = leg_begins side moves (window_of region) end stands new waits before now (entries ∙ sym told.mine); hears = told.hears };
  forward = omega arith;
  clock = told.clock;
  reach = told.reach;
  room = omega (arith, ready);
  silent = λ not. refl;
  counted = told.counted;
}

-- ---- legs of values

module _ {State : Type 0} (region : Region) (side : Side) (moves : Moves State) (end : ℕ) (stood kept stands : State → Type 0) (old mid new : Half) (waited held waits : List ℕ)
    (ran : HasRun side moves (window_of region) end stood kept old mid waited held) where
  -- more steps
  pub run_then : (most cap was now : ℕ) (of : Side) → of ≡ side → HasTried region of moves most cap end kept stands was now mid new held waits
      → HasRun side moves (window_of region) end stood stands old new waited waits
  run_then most cap was now of is tried = record {
    from = λ before at entries. (
        let was = ran.from before at entries in
        leg_runs side moves (window_of region) end kept stands mid new waited held waits before was
        (subst (λ s. HasRunOn s moves (window_of region) end stands mid new held waits was.after) is (tried.ran was.after was.now_stands was.entries)));
  }

  -- more heard
  pub run_waits : HearsOn mid new → new.mine ≡ mid.mine → HasRun side moves (window_of region) end stood kept old new waited held
  run_waits hears mine = record {
    from = λ before at entries. leg_waits side moves (window_of region) end kept mid new waited held before (ran.from before at entries) hears mine;
  }
