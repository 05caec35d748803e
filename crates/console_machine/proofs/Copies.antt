-- A console side whose script has another room, goes on, or has a reset more, stays in the console state that it was in.
use Rattle.std.proofs.Common.{◌≡◌, ℕ, ap, subst, sym, Result, Ok, Err, OnOk, OnErr}
use mathlib.Core.Logic.{∥∥₁_map}
use Rattle.snes_defs.specs.declared.script.Span.{Span}
use Rattle.console_bus.specs.BusState.{BusState}
use Rattle.console_bus.specs.Playing.{played, pressed}
use Rattle.console_steps.specs.ConsoleState.{ConsoleState}
use Rattle.console_machine.specs.Side.{ConsoleValue, IsSome, StandsAt}
use Rattle.console_machine.specs.Playing.{rest_with_room, value_with_room, console_with_room, value_played, console_played, value_pressed, console_pressed}

pub stands_roomy : (v : ConsoleValue) (n : ℕ) (w : ConsoleState) → StandsAt v w → StandsAt (value_with_room v n) (console_with_room w n)
stands_roomy v n w h = record {
  at = record { processor = h.at.processor; rest = ap (λ r. rest_with_room r n) h.at.rest };
  stamp = h.stamp;
  console = record { region = h.console.region; line = h.console.line };
}

pub stands_played : (v : ConsoleValue) (span : Span) (w : ConsoleState) → StandsAt v w → StandsAt (value_played v span) (console_played w span)
stands_played v span w h = record {
  at = record { processor = h.at.processor; rest = ap (λ r. played r span) h.at.rest };
  stamp = h.stamp;
  console = record { region = h.console.region; line = h.console.line };
}

pub stands_pressed : (v : ConsoleValue) (frame : ℕ) (w : ConsoleState) → StandsAt v w → StandsAt (value_pressed v frame) (console_pressed w frame)
stands_pressed v frame w h = record {
  at = record { processor = h.at.processor; rest = ap (λ r. pressed r frame) h.at.rest };
  stamp = h.stamp;
  console = record { region = h.console.region; line = h.console.line };
}

-- the same of a value that is told by an equation
pub copied : (v x : ConsoleValue) (n : ℕ) (w : ConsoleState) → x ≡ value_with_room v n → StandsAt v w → StandsAt x (console_with_room w n)
copied v x n w e h = subst (λ y. StandsAt y (console_with_room w n)) (sym e) (stands_roomy v n w h)

pub goes_on : (v x : ConsoleValue) (span : Span) (w : ConsoleState) → x ≡ value_played v span → StandsAt v w → StandsAt x (console_played w span)
goes_on v x span w e h = subst (λ y. StandsAt y (console_played w span)) (sym e) (stands_played v span w h)

pub is_pressed : (v x : ConsoleValue) (frame : ℕ) (w : ConsoleState) → x ≡ value_pressed v frame → StandsAt v w → StandsAt x (console_pressed w frame)
is_pressed v x frame w e h = subst (λ y. StandsAt y (console_pressed w frame)) (sym e) (stands_pressed v frame w h)

-- a reservation that was made, or that was refused and changed nothing
pub reserved : {A E : Type 0} (v : ConsoleValue) (r : BusState) (n : ℕ) (result : Result A E) → OnOk result (r ≡ rest_with_room v.rest n) → OnErr result (r ≡ v.rest) → IsSome v
    → IsSome (record v { rest = r })
reserved v r n (Ok u) ok err some = ∥∥₁_map some (λ p. (console_with_room p.0 n, copied v (record v { rest = r }) n p.0 (ap (λ q. record v { rest = q }) ok) p.1))
reserved v r n (Err e) ok err some = subst (λ q. IsSome (record v { rest = q })) (sym err) some
