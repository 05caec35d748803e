-- What a call over two seats knows between taking the log and giving it back.
use Rattle.std.proofs.Common.{◌≡◌, ℕ, List, [], Option, Some, None, refl, ap, sym, subst, arith, append-nil}
use Rattle.std.specs.Prelude.{unwrap_or, IfSome}
use Rattle.snes_defs.specs.declared.ports.Side.{Side}
use Rattle.snes_defs.specs.declared.ports.Side.TheVariants.{Console, Sound}
use Rattle.port_entries.specs.Entry.{Entry}
use Rattle.port_log.specs.Kept.{LogValue, clock_of, other_side}
use Rattle.port_log.specs.Known.{Half, Book, ListKnown}
use Rattle.port_log.specs.Sums.{count_of}
use Rattle.port_log.specs.ListRule.{clock_in, IsTrueHalf, IsTrueTo, logged}
use Rattle.port_log.specs.KeptBook.{StandsForBook}
use Rattle.port_log.specs.Seating.{no_half, half_option, half_in}

-- what a view knows of a side that it has is so by the book
half-of : (P : Half → Type 0) (o : Option Half) → IfSome o P → count_of o ≡ 1 → P (unwrap_or o no_half)
half-of P None h e = absurd (omega arith)
half-of P (Some x) h e = h

pub half-true : (side : Side) (b : Book) (v : ListKnown) → IsTrueTo b v → count_of (half_option side v) ≡ 1
    → IsTrueHalf side b (half_in side v)
half-true Console b v t e = half-of (IsTrueHalf Console b) v.console t.console e
half-true Sound b v t e = half-of (IsTrueHalf Sound b) v.sound t.sound e

-- the clocks of a log are those of its book
pub clock-by : (side : Side) (log : LogValue) (b : Book) → StandsForBook log b → clock_of side log ≡ clock_in side b
clock-by Console log b s = s.console_clock
clock-by Sound log b s = s.sound_clock

-- a call that logs nothing and publishes nothing leaves the book
pub logged-nothing : (side : Side) (b : Book) → logged side [] (clock_in side b) b ≡ b
logged-nothing Console b =
    ap (λ (l : List Entry). let c : Book = record b { entries = record b.entries { console = l } } in c) (append-nil b.entries.console)
logged-nothing Sound b =
    ap (λ (l : List Entry). let c : Book = record b { entries = record b.entries { sound = l } } in c) (append-nil b.entries.sound)

-- a log that a call has not changed stands for the book as it was
pub stands-still : (side : Side) (log now : LogValue) (b : Book) (clock : ℕ) → StandsForBook log b → now ≡ log
    → clock ≡ clock_in side b → StandsForBook now (logged side [] clock b)
stands-still side log now b clock s same at =
    subst (λ (l : LogValue). StandsForBook l (logged side [] clock b)) (sym same)
    (subst (λ (k : ℕ). StandsForBook log (logged side [] k b)) (sym at)
    (subst (λ (x : Book). StandsForBook log x) (sym (logged-nothing side b)) s))

-- a side that logs leaves the other side's clock
pub other-clock : (side : Side) (es : List Entry) (clock : ℕ) (b : Book)
    → clock_in (other_side side) (logged side es clock b) ≡ clock_in (other_side side) b
other-clock Console es clock b = refl
other-clock Sound es clock b = refl
