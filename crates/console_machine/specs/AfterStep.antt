-- A console side stands in the console state that its step leads to.
use Rattle.std.proofs.Common.{◌≡◌, ℕ, ◌+◌, ◌*◌, refl, sym, ap, subst, ◌∙◌, arith}
use Rattle.snes_defs.specs.declared.region.Region.{Region}
use Rattle.snes_defs.specs.declared.region.Region.TheVariants.{Ntsc, Pal}
use Rattle.snes_defs.specs.declared.cart.Cart.{Cart}
use Rattle.snes_defs.specs.Script.{Script}
use Rattle.cpu65816.specs.Instruction.{at_reset}
use Rattle.cpu65816.specs.Stands.{Stands}
use Rattle.snes_defs.specs.declared.ports.Side.TheVariants.{Console}
use Rattle.clock_ratio.specs.Stamp.{rate_of, stamp_of}
use Rattle.side_law.specs.Moves.{taken}
use Rattle.console_bus.specs.BusState.{bus_start}
use Rattle.console_steps.specs.ConsoleState.{ConsoleState, due_of, act_of, due_clocks, console_after, console_moves}
use Rattle.console_steps.specs.ConsoleState.{console_start}
use Rattle.console_steps.specs.Stands.{IsAt}
use Rattle.console_machine.specs.Side.{ConsoleValue, StandsAt}
use Rattle.console_machine.specs.SideLaws.{step_keeps}
use Rattle.console_machine.specs.Taken.{console_step_taken}

pub stamp_stands : (x : ConsoleValue) (w : ConsoleState) → StandsAt x w → console_moves.stamp w ≡ x.stamp
stamp_stands x w h = ap (λ r. stamp_of r Console w.clock) h.console.region ∙ sym h.stamp

distributes : (region : Region) (c n : ℕ)
    → rate_of region Console * c + rate_of region Console * n ≡ rate_of region Console * (c + n)
distributes Ntsc c n = omega arith
distributes Pal c n = omega arith

pub stamp_on : (a b : Region) (s t c d n : ℕ) → b ≡ a → t ≡ s + rate_of a Console * n → s ≡ rate_of a Console * c
    → d ≡ c + n → t ≡ rate_of b Console * d
stamp_on a b s t c d n eb et es ed = rw (eb, et, es, ed) (distributes a c n)

-- the processor and all else are at the console state after the step, and the stamp has risen by its clocks
pub goes_on : (v x : ConsoleValue) (w : ConsoleState) (got n : ℕ) → StandsAt v w
    → IsAt x.cpu x.rest (console_after w (due_of w) got) → x.region ≡ v.region
    → x.stamp ≡ v.stamp + rate_of v.region Console * n → n ≡ due_clocks (due_of w) w.rest.io.fast
    → StandsAt x (console_after w (due_of w) (taken (act_of w.rest (due_of w)) got))
goes_on v x w got n h at er es en =
    let k = step_keeps w (due_of w) got h.console.line in
    let P : ConsoleState → Type 0 = λ y. StandsAt x y in
    let Q : ℕ → Type 0 = λ m. x.stamp ≡ v.stamp + rate_of v.region Console * m in
    subst P (sym (console_step_taken w (due_of w) got)) (record {
      at = at;
      stamp = stamp_on v.region x.region v.stamp x.stamp w.clock (console_after w (due_of w) got).clock
          (due_clocks (due_of w) w.rest.io.fast)
          er (subst Q en es) h.stamp k.clock;
      console = record { region = k.region ∙ h.console.region ∙ sym er; line = k.line };
    })

-- ---- at its start

no_stamp : (region : Region) → 0 ≡ rate_of region Console * 0
no_stamp Ntsc = refl
no_stamp Pal = refl

pub starts_at : (v : ConsoleValue) (cart : Cart) (script : Script) (region : Region) → Stands v.cpu at_reset
    → v.rest ≡ bus_start cart script region → v.region ≡ region → v.stamp ≡ 0
    → StandsAt v (console_start cart script region)
starts_at v cart script region s r e z = record {
  at = record { processor = s; rest = r };
  stamp = z ∙ no_stamp v.region;
  console = record { region = sym e; line = omega arith };
}
