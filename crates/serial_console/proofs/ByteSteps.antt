-- Steps over the eight bytes are steps of a side while the other one is stopped.
use Rattle.std.specs.Prelude.{◌^◌, ◌-◌, ◌==◌, nat_le, if◌then◌else◌}
use Rattle.std.proofs.Common.{◌≡◌, ℕ, zero, suc, ◌+◌, ◌<◌, ◌≤◌, ◌⊎◌, List, [], ◌++◌, length, refl, ap, sym, ◌∙◌, subst, inl, inr, ⊎_elim, append_assoc, arith}
use Rattle.std.proofs.lemmas.List.{append-nil}
use Rattle.std.proofs.lemmas.Bool.{cases_lt}
use Rattle.std.proofs.lemmas.Bool.Decides.{nat_tests}
use Rattle.std.proofs.Math.Nat.{eq-or-lt_of_le}
use Rattle.snes_defs.specs.declared.region.Region.{Region}
use Rattle.snes_defs.specs.declared.ports.Act.{Act}
use Rattle.snes_defs.specs.declared.ports.Act.TheVariants.{Quiet, Read, Write, Clear}
use Rattle.clock_ratio.proofs.Numbers.{numbers}
use Rattle.side_law.specs.declared.ports.Stop.{Stop}
use Rattle.side_law.specs.declared.ports.Stop.TheVariants.{Until, Emitted, Refused}
use Rattle.side_law.specs.Moves.{Moves, IsLawful}
use Rattle.side_law.specs.Gone.{Over, IsAnswered, Goes, GoneBy, Gone, HasStopped, HasGone}
use Rattle.side_law.proofs.Gone.{refused_by, gone_on, goes_up, gone_up}
use Rattle.side_law.specs.Serial.{got_of, incoming_after, outgoing_after}
use Rattle.side_law.specs.Sides.{SideState, side_step, side_bytes}
use Rattle.serial_console.specs.declared.bytes.Bytes.{Bytes}
use Rattle.serial_console.specs.Bytes.{byte_calls, room_for}
use Rattle.serial_console.specs.Lead.{MayStep, SideSteps, HasLed}
use Rattle.serial_console.proofs.SideRuns.{steps_on}

-- with more than 512 bytes that wait there is no room, and with some only before `hold`
room_few : (p : Bytes) (n at : ℕ) → at < room_for p n → n ≤ 512
room_few p n at h = grind (arith, nat_tests)

room_hold : (p : Bytes) (n at : ℕ) → at < room_for p n → 0 < n → at < p.hold
room_hold p n at h some = grind (arith, nat_tests)

-- what a step's call did to the bytes
record HasCalled (at : ℕ) (act : Act) (got : ℕ) (p q : Bytes) : Type 0 where
  pub got_is : got ≡ got_of act p.incoming
  pub after : record p { incoming = incoming_after act p.incoming; outgoing = outgoing_after act p.outgoing } ≡ q
  pub may : (act ≡ Quiet) ⊎ (at < p.first)

called_by : (at : ℕ) (act : Act) (got : ℕ) (p q : Bytes) → IsAnswered byte_calls at act got p q → HasCalled at act got p q
called_by at Quiet got p q h = record { got_is = h.0; after = h.1; may = inl refl }
called_by at (Read port) got p q h = record { got_is = h.got_is; after = h.after; may = inr h.early }
called_by at (Write port byte) got p q h = record { got_is = h.1.got_is; after = h.1.after; may = inr h.1.early }
called_by at (Clear mask) got p q h = record { got_is = h.1.got_is; after = h.1.after; may = inr h.1.early }

module _ {State : Type 0} (region : Region) (valid : State → Type 0) (most : ℕ) (moves : Moves State) (lawful : IsLawful region valid most moves) (end : ℕ) where
  -- a machine with the bytes at its ports
  abbrev side_of : Over State Bytes → SideState State
  side_of x = record { own = x.own; incoming = x.ports.incoming; outgoing = x.ports.outgoing }

  -- what steps over the bytes do
  pub record HasWalked (x y : Over State Bytes) : Type 0 where
    pub steps : ℕ
    pub emitted : List ℕ
    pub made : SideSteps moves x.ports.first end steps (side_of x) (side_of y) emitted
    pub waits_is : x.waits ++ emitted ≡ y.waits
    pub first : y.ports.first ≡ x.ports.first
    pub hold : y.ports.hold ≡ x.ports.hold
    pub few : length x.waits ≤ 512 + most → length y.waits ≤ 512 + most
    pub one : x.ports.hold ≤ moves.stamp x.own → length x.waits ≡ 0 → length y.waits ≤ most
    pub last : length x.waits < length y.waits → (y.ports.last < end) × (y.ports.last < moves.stamp y.own)
    pub last_stays : length y.waits ≡ length x.waits → y.ports.last ≡ x.ports.last

  -- the bytes after a step are those after its call
  record HasTold (at : ℕ) (x y : Over State Bytes) (called : Bytes) : Type 0 where
    pub incoming : y.ports.incoming ≡ called.incoming
    pub outgoing : y.ports.outgoing ≡ called.outgoing
    pub first : y.ports.first ≡ called.first
    pub hold : y.ports.hold ≡ called.hold
    pub last : length x.waits < length y.waits → y.ports.last ≡ at
    pub last_stays : length y.waits ≡ length x.waits → y.ports.last ≡ called.last

  told_by : (x y : Over State Bytes) → length x.waits ≤ length y.waits → (goes : Goes moves byte_calls end x y) → HasTold (moves.stamp x.own) x y goes.called
  told_by x y longer goes = ⊎_elim
      (λ same.
      let is = goes.silent same in
      record {
        incoming = ap (λ (b : Bytes). b.incoming) (sym is);
        outgoing = ap (λ (b : Bytes). b.outgoing) (sym is);
        first = ap (λ (b : Bytes). b.first) (sym is);
        hold = ap (λ (b : Bytes). b.hold) (sym is);
        last = λ some. absurd (omega (arith, same, some));
        last_stays = λ again. ap (λ (b : Bytes). b.last) (sym is);
      })
      (λ some.
      let is = goes.told some in
      record {
        incoming = ap (λ (b : Bytes). b.incoming) (sym is);
        outgoing = ap (λ (b : Bytes). b.outgoing) (sym is);
        first = ap (λ (b : Bytes). b.first) (sym is);
        hold = ap (λ (b : Bytes). b.hold) (sym is);
        last = λ again. ap (λ (b : Bytes). b.last) (sym is);
        last_stays = λ same. absurd (omega (arith, same, some));
      })
      (eq-or-lt_of_le longer)

  -- the side after a step over the bytes
  step_is : (x y : Over State Bytes) (got : ℕ) (called : Bytes) → HasCalled (moves.stamp x.own) (moves.act x.own) got x.ports called
      → moves.next x.own got ≡ y.own → y.ports.incoming ≡ called.incoming → y.ports.outgoing ≡ called.outgoing
      → side_step moves (side_of x) ≡ side_of y
  step_is x y got called h own incoming outgoing =
      let act = moves.act x.own in
      ap (λ g. record { own = moves.next x.own g; incoming = incoming_after act x.ports.incoming; outgoing = outgoing_after act x.ports.outgoing }) (sym h.got_is)
      ∙ ap (λ m. record { own = m; incoming = incoming_after act x.ports.incoming; outgoing = outgoing_after act x.ports.outgoing }) own
      ∙ ap (λ i. record { own = y.own; incoming = i; outgoing = outgoing_after act x.ports.outgoing }) (ap (λ (b : Bytes). b.incoming) h.after ∙ sym incoming)
      ∙ ap (λ o. record { own = y.own; incoming = y.ports.incoming; outgoing = o }) (ap (λ (b : Bytes). b.outgoing) h.after ∙ sym outgoing)

  walk_none : (x : Over State Bytes) → HasWalked x x
  walk_none x = record {
    steps = 0;
    emitted = [];
    made = (refl, refl);
    waits_is = append-nil x.waits;
    first = refl;
    hold = refl;
    few = λ few. few;
    one = λ held none. omega (arith, none);
    last = λ some. absurd (omega (arith, some));
    last_stays = λ same. refl;
  }

  -- one step more
  walk_on : (x y z : Over State Bytes) → valid x.own → Gone moves byte_calls end x y → HasWalked x y → Goes moves byte_calls end y z → HasWalked x z
  walk_on x y z is_valid gone h goes =
      let risen = gone_up region valid most moves lawful byte_calls end x y is_valid gone in
      let step = goes_up region valid most moves lawful byte_calls end y z risen.is_valid goes in
      let called = called_by (moves.stamp y.own) (moves.act y.own) goes.got y.ports goes.called goes.answered in
      let told = told_by y z step.longer goes in
      let goes_to = step_is y z goes.got goes.called called goes.own told.incoming told.outgoing in
      let bytes = ap (λ g. moves.bytes y.own g) (sym called.got_is) in
      let rises : moves.stamp (side_of y).own ≤ moves.stamp (side_step moves (side_of y)).own = subst (λ (s : SideState State). moves.stamp y.own ≤ moves.stamp s.own) (sym goes_to) (omega (arith, step.up)) in
      let may : MayStep moves x.ports.first end (side_of y) = record {
        before = goes.early;
        may = ⊎_elim (λ quiet. inl quiet) (λ early. inr (omega (arith, early, h.first))) called.may;
        rises = rises;
      } in
      let all = h.emitted ++ side_bytes moves (side_of y) in
      let up = (numbers region).rises in
      record {
        steps = suc h.steps;
        emitted = all;
        made = subst (λ (s : SideState State). SideSteps moves x.ports.first end (suc h.steps) (side_of x) s all) goes_to (steps_on moves x.ports.first end h.steps (side_of x) (side_of y) h.emitted h.made may);
        waits_is = sym (append_assoc x.waits h.emitted (side_bytes moves (side_of y))) ∙ ap (λ w. w ++ side_bytes moves (side_of y)) h.waits_is ∙ ap (λ b. y.waits ++ b) bytes ∙ goes.waits;
        first = told.first ∙ ap (λ (b : Bytes). b.first) (sym called.after) ∙ h.first;
        hold = told.hold ∙ ap (λ (b : Bytes). b.hold) (sym called.after) ∙ h.hold;
        few = λ few. ⊎_elim
            (λ same. omega (arith, same, h.few few))
            (λ some. (let room = room_few y.ports (length y.waits) (moves.stamp y.own) (goes.room some) in omega (arith, room, step.emits_at_most)))
            (eq-or-lt_of_le step.longer);
        one = λ held none. ⊎_elim
            (λ same. omega (arith, same, h.one held none))
            (λ some. ⊎_elim
            (λ grew. (let room = room_hold y.ports (length y.waits) (moves.stamp y.own) (goes.room some) (omega (arith, grew)) in absurd (omega (arith, room, h.hold, held, risen.forward))))
            (λ few. omega (arith, few, step.emits_at_most))
            (cases_lt 0 (length y.waits)))
            (eq-or-lt_of_le step.longer);
        last = λ some. ⊎_elim
            (λ same. (
            let was = h.last (omega (arith, some, same)) in
            let stays : z.ports.last ≡ y.ports.last = told.last_stays (sym same) ∙ ap (λ (b : Bytes). b.last) (sym called.after) in
            (omega (arith, was.0, stays), omega (arith, was.1, stays, step.up))))
            (λ now. (let is = told.last now in (omega (arith, is, goes.early), omega (arith, is, step.up, up))))
            (eq-or-lt_of_le step.longer);
        last_stays = λ same.
            told.last_stays (omega (arith, same, risen.longer, step.longer)) ∙ ap (λ (b : Bytes). b.last) (sym called.after) ∙ h.last_stays (omega (arith, same, risen.longer, step.longer));
      }

  walk_by : (n : ℕ) (x y : Over State Bytes) → valid x.own → GoneBy moves byte_calls end n x y → HasWalked x y
  walk_by zero x y is_valid same = subst (HasWalked x) same (walk_none x)
  walk_by (suc n) x y is_valid (last, before, goes) =
      walk_on x last y is_valid (record { steps = n; made = before }) (walk_by n x last is_valid before) goes

  -- where a call stopped, steps led
  stopped_gone : (cap : ℕ) (stop : Stop) (x y : Over State Bytes) → HasStopped moves byte_calls end most cap stop x y → Gone moves byte_calls end x y
  stopped_gone cap Until x y h = h.gone
  stopped_gone cap (Emitted at) x y h = gone_on moves byte_calls end x h.last y h.gone h.goes
  stopped_gone cap Refused x y h =
      let late = refused_by byte_calls (moves.stamp y.own) (moves.act y.own) h.called y.ports h.refused in
      subst (λ (b : Bytes). Gone moves byte_calls end x (record y { ports = b })) late.same h.gone

  pub walked : (cap : ℕ) (stop : Stop) (x y : Over State Bytes) → valid x.own → HasStopped moves byte_calls end most cap stop x y → HasWalked x y
  walked cap stop x y is_valid h = (let gone = stopped_gone cap stop x y h in walk_by gone.steps x y is_valid gone.made)

  -- a call gets on: it stops at once only where it has to
  gets_on : (cap : ℕ) (stop : Stop) (x y : Over State Bytes) → valid x.own → HasStopped moves byte_calls end most cap stop x y
      → moves.stamp x.own < x.ports.first → moves.stamp x.own < end → moves.stamp x.own < room_for x.ports (length x.waits) → length x.waits + most ≤ cap
      → moves.stamp x.own < moves.stamp y.own
  gets_on cap Until x y is_valid h early before room fits =
      let risen = gone_up region valid most moves lawful byte_calls end x y is_valid h.gone in
      let walk = walk_by h.gone.steps x y is_valid h.gone.made in
      ⊎_elim (λ up. up) (λ not. ⊎_elim
      (λ there. absurd (omega (arith, there, before, not)))
      (λ full. ⊎_elim
      (λ same. (
      let still : room_for y.ports (length y.waits) ≡ room_for x.ports (length x.waits) =
      ap (λ n. room_for y.ports n) (sym same) ∙ ap (λ hold. if length x.waits == 0 then 2 ^ 64 - 1 else (if nat_le (length x.waits) 512 then hold else 0)) walk.hold in
      ⊎_elim (λ none. absurd (omega (arith, none, still, room, not))) (λ none. absurd (omega (arith, none, same, fits))) full))
      (λ grew. absurd (omega (arith, risen.rose grew, not)))
      (eq-or-lt_of_le risen.longer))
      h.ends)
      (cases_lt (moves.stamp x.own) (moves.stamp y.own))
  gets_on cap (Emitted at) x y is_valid h early before room fits =
      let risen = gone_up region valid most moves lawful byte_calls end x h.last is_valid h.gone in
      let step = goes_up region valid most moves lawful byte_calls end h.last y risen.is_valid h.goes in
      omega (arith, risen.forward, step.up, (numbers region).rises)
  gets_on cap Refused x y is_valid h early before room fits =
      let late = refused_by byte_calls (moves.stamp y.own) (moves.act y.own) h.called y.ports h.refused in
      let walk = walk_by h.gone.steps x (record y { ports = h.called }) is_valid h.gone.made in
      omega (arith, late.late, walk.first, early)

-- what a call over the bytes does, by the numbers of the value
pub record HasLedBy (most cap end at at' : ℕ) (b b' : Bytes) (waited waits : List ℕ) : Type 0 where
  pub first : b'.first ≡ b.first
  pub hold : b'.hold ≡ b.hold
  pub few : length waited ≤ 512 + most → length waits ≤ 512 + most
  pub one : b.hold ≤ at → length waited ≡ 0 → length waits ≤ most
  pub last : length waited < length waits → (b'.last < end) × (b'.last < at')
  pub last_stays : length waits ≡ length waited → b'.last ≡ b.last
  pub forward : at ≤ at'
  pub longer : length waited ≤ length waits
  pub begins : length waited < length waits → at < at'
  pub goes_on : at < b.first → at < end → at < room_for b (length waited) → length waited + most ≤ cap → at < at'

module _ {State : Type 0} (region : Region) (valid : State → Type 0) (most : ℕ) (moves : Moves State) (lawful : IsLawful region valid most moves) (end cap : ℕ)
    (stands : State → Type 0) (stop : Stop) (m : State) (b b' : Bytes) (waited waits : List ℕ) (is_valid : valid m)
    (gone : HasGone moves byte_calls end most cap stands (λ q. b' ≡ q) waited waits stop m b) where
  abbrev from_here : Over State Bytes
  from_here = record { own = m; ports = b; waits = waited }

  abbrev to_there : Over State Bytes
  to_there = record { own = gone.to; ports = b'; waits = waits }

  stopped_there : HasStopped moves byte_calls end most cap stop from_here to_there
  stopped_there = subst (λ (q : Bytes). HasStopped moves byte_calls end most cap stop from_here (record { own = gone.to; ports = q; waits = waits })) (sym gone.ports_stand) gone.stopped

  pub led_walk : HasWalked region valid most moves lawful end from_here to_there
  led_walk = walked region valid most moves lawful end cap stop from_here to_there is_valid stopped_there

  -- the steps are those of a side that stands beside another that is stopped
  pub led_by : HasLed moves b.first end stands waited waits b'.incoming b'.outgoing (record { own = m; incoming = b.incoming; outgoing = b.outgoing })
  led_by =
      let walk = walked region valid most moves lawful end cap stop from_here to_there is_valid stopped_there in
      record { to = gone.to; now_stands = gone.now_stands; steps = walk.steps; emitted = walk.emitted; made = walk.made; waits_is = walk.waits_is }

  pub led_facts : (at at' : ℕ) → moves.stamp m ≡ at → moves.stamp gone.to ≡ at' → HasLedBy most cap end at at' b b' waited waits
  led_facts at at' is is' =
      let walk = walked region valid most moves lawful end cap stop from_here to_there is_valid stopped_there in
      let went = stopped_gone region valid most moves lawful end cap stop from_here to_there stopped_there in
      let risen = gone_up region valid most moves lawful byte_calls end from_here to_there is_valid went in
      record {
        first = walk.first;
        hold = walk.hold;
        few = walk.few;
        one = λ held none. walk.one (omega (arith, held, is)) none;
        last = λ some. (let h = walk.last some in (h.0, omega (arith, h.1, is')));
        last_stays = walk.last_stays;
        forward = omega (arith, risen.forward, is, is');
        longer = risen.longer;
        begins = λ some. (let h = risen.rose some in omega (arith, h, is, is'));
        goes_on = λ early before room fits. (
            let h = gets_on region valid most moves lawful end cap stop from_here to_there is_valid stopped_there (omega (arith, early, is)) (omega (arith, before, is)) (omega (arith, room, is)) fits in
            omega (arith, h, is, is'));
      }

-- there is room while no byte waits
pub room_is : (p : Bytes) (n at : ℕ) → n ≡ 0 → at < 2 ^ 64 - 1 → at < room_for p n
room_is p n at none small = grind (arith, nat_tests)
