-- What a call over a pass does to it as the ports of a machine.
use Rattle.std.proofs.Common.{◌≡◌, ℕ, refl, subst, sym}
use Rattle.snes_defs.specs.declared.ports.Act.{Act}
use Rattle.side_law.specs.Gone.{HasMoved, IsAnswered}
use Rattle.side_law.specs.Gone as Gone
use Rattle.port_wire.specs.declared.late.PassLate.{PassLate}
use Rattle.port_wire.specs.Answers.{HearsOn, IsRefused}
use Rattle.port_wire.specs.Seen.{half_of}
use Rattle.port_wire.specs.Whole.{IsOwn, HearBoth}
use Rattle.pair_run.specs.Tried.{call_of}
use Rattle.pair_run.specs.Over.{Way, IsSameWay, EndsCall, IsByPass, IsLateBy, pass_calls}
use Rattle.pair_run.specs.OverWhole.{WholeWay, EndsCallWhole, IsByWhole, IsTooSoon, whole_calls}

module _ {Wire : Type 0} (p q r : Way Wire) (at : ℕ) (act a : Act) (acts : act ≡ a) (is : p ≡ r) (wire : q.wire ≡ p.wire) (region : q.region ≡ p.region) (name : q.name ≡ p.name)
    (side : q.side ≡ p.side) (held : q.held ≡ p.held) (hears : HearsOn p.half q.half) where
  same_way : IsSameWay p q
  same_way = record { wire = wire; region = region; name = name; side = side; held = held; hears = hears }

  -- it was answered
  pub way_answered : (got : ℕ) → (IsByPass at a got r q → IsAnswered pass_calls at a got r q) → EndsCall p at a got p.half q.half
      → HasMoved (λ x. q ≡ x) (IsAnswered pass_calls at act got r)
  way_answered got made ends = record {
    to = q;
    now_stands = refl;
    led = subst (λ (b : Act). IsAnswered pass_calls at b got r q) (sym acts) (made (subst (λ (x : Way Wire). IsByPass at a got x q) is (record { same = same_way; ends = ends })));
  }

  -- it was refused
  pub way_refused : (IsLateBy at a r q → Gone.IsRefused pass_calls at a r q) → IsRefused (call_of a) at q.late p.half q.half
      → HasMoved (λ x. q ≡ x) (Gone.IsRefused pass_calls at act r)
  way_refused late refused = record {
    to = q;
    now_stands = refl;
    led = subst (λ (b : Act). Gone.IsRefused pass_calls at b r q) (sym acts) (late (subst (λ (x : Way Wire). IsLateBy at a x q) is (record { same = same_way; refused = refused })));
  }

-- so of a call over a whole
module _ {Wire : Type 0} (p q r : WholeWay Wire) (at : ℕ) (act a : Act) (acts : act ≡ a) (is : p ≡ r) where
  pub whole_answered : q.wire ≡ p.wire → q.region ≡ p.region → q.name ≡ p.name → q.side ≡ p.side → IsOwn p.side p.both q.both → HearBoth p.both q.both
      → (got : ℕ) → (IsByWhole at a got r q → IsAnswered whole_calls at a got r q) → EndsCallWhole p at a got (half_of p.side q.both)
      → HasMoved (λ x. q ≡ x) (IsAnswered whole_calls at act got r)
  whole_answered wire region name side own hears got made ends = record {
    to = q;
    now_stands = refl;
    led = subst (λ (b : Act). IsAnswered whole_calls at b got r q) (sym acts) (made (subst (λ (x : WholeWay Wire). IsByWhole at a got x q) is
        (record { wire = wire; region = region; name = name; side = side; own = own; hears = hears; ends = ends })));
  }

  pub whole_refused : (((why : PassLate) × IsTooSoon r at a why) → Gone.IsRefused whole_calls at a r q) → (late : PassLate) → IsTooSoon p at a late
      → HasMoved (λ x. q ≡ x) (Gone.IsRefused whole_calls at act r)
  whole_refused refused late soon = record {
    to = q;
    now_stands = refl;
    led = subst (λ (b : Act). Gone.IsRefused whole_calls at b r q) (sym acts) (refused (subst (λ (x : WholeWay Wire). (why : PassLate) × IsTooSoon x at a why) is (late, soon)));
  }
