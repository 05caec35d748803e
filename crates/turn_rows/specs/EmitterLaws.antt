-- An emitter keeps the laws of a machine.
use Rattle.std.proofs.Common.{◌≡◌, ℕ, ◌==◌, ◌≤◌, List, [], length, if◌then◌else◌, Bool, true, false, sym, subst, arith}
use Rattle.snes_defs.specs.declared.region.Region.{Region}
use Rattle.side_law.specs.Moves.{IsLawful}
use Rattle.turn_rows.specs.Emitter.{EmitterState, IsEmitter, emitter_moves}

length_if : (b : Bool) (row : List ℕ) (most : ℕ) → length row ≤ most → length (if b then row else []) ≤ most
length_if true row most h = h
length_if false row most h = omega arith

pub emitter_is_lawful : (most : ℕ) (region : Region) → IsLawful region (IsEmitter most region) most emitter_moves
emitter_is_lawful most region = record {
  at_ports = λ m valid. tt;
  stays_valid = λ m got valid byte. record { is = valid.is; least = valid.least; most_rise = valid.most_rise; short = valid.short };
  rises = λ m got valid byte. omega (arith, valid.least);
  rises_at_most = λ m got valid byte. omega (arith, valid.most_rise);
  emits_at_most = λ m got valid byte. length_if (m.left == 0) m.row most valid.short;
}

-- what holds of the state of a value
pub state_is_emitter : (most : ℕ) (state t : EmitterState) → state ≡ t → IsEmitter most t.region t → IsEmitter most state.region t
state_is_emitter most state t is h = subst (λ (q : EmitterState). IsEmitter most q.region t) (sym is) h
