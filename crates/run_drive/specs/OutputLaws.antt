-- Puts to video and sound one after another.
use Rattle.std.proofs.Common.{◌≢◌, ℕ, ◌≤◌, refl, ◌∙◌, arith}
use Rattle.snes_defs.specs.declared.ports.Side.{Side}
use Rattle.snes_defs.specs.declared.ports.Side.TheVariants.{Console, Sound}
use Rattle.shelf.specs.Told.{HasRisen}
use Rattle.shelf.specs.Shown.{Shown, OnlyPuts, OnlyRuns}
use Rattle.run_drive.specs.Outputs.{output_of, OnlyFills}

pub only_runs_none : (a : Shown) → OnlyRuns a a
only_runs_none a = record {
  held = refl;
  load_faults = refl;
  write_faults = λ any. omega arith;
  others = λ other v s. record { written = refl; named = refl; unwritten = refl; write_faults = refl };
}

pub only_runs_then : (a b c : Shown) → OnlyRuns a b → OnlyRuns b c → OnlyRuns a c
only_runs_then a b c first then = record {
  held = then.held ∙ first.held;
  load_faults = then.load_faults ∙ first.load_faults;
  write_faults = λ any. omega (arith, first.write_faults any, then.write_faults any);
  others = λ other v s. record {
    written = (then.others other v s).written ∙ (first.others other v s).written;
    named = (then.others other v s).named ∙ (first.others other v s).named;
    unwritten = (then.others other v s).unwritten ∙ (first.others other v s).unwritten;
    write_faults = (then.others other v s).write_faults ∙ (first.others other v s).write_faults;
  };
}

pub fills_none : (a : Shown) → OnlyFills a a
fills_none a = record { only = only_runs_none a; named = refl }

pub fills_then : (a b c : Shown) → OnlyFills a b → OnlyFills b c → OnlyFills a c
fills_then a b c first then =
    record { only = only_runs_then a b c first.only then.only; named = then.named ∙ first.named }

-- a put to the output of a side is a part of a run
pub put_fills : (a b : Shown) (side : Side) → OnlyPuts a b (output_of side) → OnlyFills a b
put_fills a b Console h = record {
  only = record { held = h.held; load_faults = h.load_faults; write_faults = h.write_faults; others = λ other v s. h.others other v };
  named = h.named;
}
put_fills a b Sound h = record {
  only = record { held = h.held; load_faults = h.load_faults; write_faults = h.write_faults; others = λ other v s. h.others other s };
  named = h.named;
}

-- a count that rose after a moment has risen since an earlier one
pub risen_since : (a b c : ℕ) → a ≤ b → HasRisen b c → HasRisen a c
risen_since a b c le h = λ fell. omega (arith, h (omega arith))

-- the outputs of two sides are two
pub other_output : (one other : Side) → other ≢ one → output_of other ≢ output_of one
other_output Console Console differ = absurd (differ refl)
other_output Console Sound differ = λ e. cc
other_output Sound Console differ = λ e. cc
other_output Sound Sound differ = absurd (differ refl)
