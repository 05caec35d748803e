-- What a log that stands for a book says of it.
use Rattle.std.proofs.Common.{◌≡◌, ℕ, List, [], ◌∷◌, Option, Some, None, subst, sym, ap, ◌∙◌}
use Rattle.atomic_table.specs.Table.{rest}
use Rattle.snes_defs.specs.declared.ports.Side.TheVariants.{Console, Sound}
use Rattle.port_log.specs.Kept.{LogValue}
use Rattle.port_log.specs.Entries.{WritesRiseBelow}
use Rattle.port_log.specs.Known.{Book, KeptValue}
use Rattle.port_log.specs.ListRule.{IsOrderly}
use Rattle.port_log.specs.KeptBook.{StandsForBook}

pub orderly-by : (log : LogValue) (b : Book) → StandsForBook log b → IsOrderly b
orderly-by log b s = record {
  console = subst (λ (k : ℕ). WritesRiseBelow k b.entries.console) s.console_clock (s.stands.rises Console);
  sound = subst (λ (k : ℕ). WritesRiseBelow k b.entries.sound) s.sound_clock (s.stands.rises Sound);
  console_bytes = s.stands.bytes Console;
  sound_bytes = s.stands.bytes Sound;
}

-- the value in the slot that a seat took last
abbrev slot_of : List (ℕ × Option KeptValue) → Option KeptValue
slot_of [] = None
slot_of (p ∷ ps) = p.1

-- what is read out of the slot is what the step said of it
pub read-is : (l more : List (ℕ × Option KeptValue)) (x : Option KeptValue) (kept read : KeptValue)
    → l ≡ (0, x) ∷ more → l ≡ (0, Some kept) ∷ [] → x ≡ Some read → read ≡ kept
read-is l more x kept read e f g =
    let same : Some read ≡ Some kept = sym g ∙ sym (ap slot_of e) ∙ ap slot_of f in
    cc

pub rest-is : (l : List (ℕ × Option KeptValue)) → l ≡ (0, None) ∷ [] → rest l ≡ []
rest-is l e = ap rest e
