-- Puts to one output one after another.
use Rattle.std.proofs.Common.{refl, ◌∙◌, arith}
use Rattle.shelf.specs.declared.shelves.Out.{Out}
use Rattle.shelf.specs.Shown.{Shown, OnlyPuts}

pub puts_none : (a : Shown) (out : Out) → OnlyPuts a a out
puts_none a out = record {
  held = refl;
  load_faults = refl;
  named = refl;
  write_faults = λ any. omega arith;
  others = λ other differ. record { written = refl; named = refl; unwritten = refl; write_faults = refl };
}

pub puts_then : (a b c : Shown) (out : Out) → OnlyPuts a b out → OnlyPuts b c out → OnlyPuts a c out
puts_then a b c out first then = record {
  held = then.held ∙ first.held;
  load_faults = then.load_faults ∙ first.load_faults;
  named = then.named ∙ first.named;
  write_faults = λ any. omega (arith, first.write_faults any, then.write_faults any);
  others = λ other differ. record {
    written = (then.others other differ).written ∙ (first.others other differ).written;
    named = (then.others other differ).named ∙ (first.others other differ).named;
    unwritten = (then.others other differ).unwritten ∙ (first.others other differ).unwritten;
    write_faults = (then.others other differ).write_faults ∙ (first.others other differ).write_faults;
  };
}
