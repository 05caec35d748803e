-- A tape keeps the laws of a machine.
use Rattle.std.proofs.Common.{◌≡◌, ℕ, ◌+◌, ◌≤◌, List, [], ◌∷◌, length, drop, zero, suc, refl, ap, subst, sym, arith}
use Rattle.std.proofs.Common.{add-one}
use Rattle.snes_defs.specs.declared.ports.Act.{Act}
use Rattle.snes_defs.specs.declared.ports.Act.TheVariants.{Quiet, Read, Write, Clear}
use Rattle.snes_defs.specs.declared.region.Region.{Region}
use Rattle.clock_ratio.proofs.Numbers.{numbers}
use Rattle.side_law.specs.declared.beat.Beat.{Beat}
use Rattle.side_law.specs.Moves.{IsLawful}
use Rattle.side_law.specs.Tape.{IsBeat, AreBeats, TapeState, first_beat, later_beats, echo, tape_moves, IsTape}

-- the next beat is in range
pub first_is_beat : (region : Region) (beats : List Beat) → AreBeats region beats
    → IsBeat region (first_beat region beats)
first_is_beat region [] h =
    record {
      least = omega arith;
      most = omega (arith, (numbers region).cycle_low, (numbers region).cycle_high);
      at_ports = tt;
    }
first_is_beat region (b ∷ bs) h = h.0

pub later_are_beats : (region : Region) (beats : List Beat) → AreBeats region beats
    → AreBeats region (later_beats beats)
later_are_beats region [] h = h
later_are_beats region (b ∷ bs) h = h.1

length-echo : (act : Act) (got : ℕ) → length (echo act got) ≤ 1
length-echo Quiet got = omega arith
length-echo (Read port) got = omega arith
length-echo (Write port byte) got = omega arith
length-echo (Clear mask) got = omega arith

-- the next beat of a tape of a region is in range there
first_of_tape : (region : Region) (t : TapeState) → IsTape region t → IsBeat region (first_beat t.region t.beats)
first_of_tape region t valid =
    subst (λ r. IsBeat region (first_beat r t.beats)) (sym valid.0) (first_is_beat region t.beats valid.1)

pub tape_is_lawful : (region : Region) → IsLawful region (IsTape region) 1 tape_moves
tape_is_lawful region = record {
  at_ports = λ m valid. (first_of_tape region m valid).at_ports;
  stays_valid = λ m got valid byte. (valid.0, later_are_beats region m.beats valid.1);
  rises = λ m got valid byte. omega (arith, (first_of_tape region m valid).least);
  rises_at_most = λ m got valid byte. omega (arith, (first_of_tape region m valid).most);
  emits_at_most = λ m got valid byte. length-echo (first_beat m.region m.beats).act got;
}

-- what holds of the state of a value
pub state_is_tape : (state t : TapeState) → state ≡ t → IsTape t.region t → IsTape state.region t
state_is_tape state t is h =
    let same = ap (λ (q : TapeState). q.region) (sym is) in
    (same, subst (λ r. AreBeats r t.beats) same h.1)

-- the list from a place on, past its first beat
later-drop-suc : (beats : List Beat) (k : ℕ) → later_beats (drop k beats) ≡ drop (suc k) beats
later-drop-suc [] zero = refl
later-drop-suc [] (suc k) = refl
later-drop-suc (b ∷ bs) zero = refl
later-drop-suc (b ∷ bs) (suc k) = later-drop-suc bs k

pub later_drop : (beats : List Beat) (k : ℕ) → later_beats (drop k beats) ≡ drop (k + 1) beats
later_drop beats k = rw add-one (later-drop-suc beats k)

-- past the end nothing changes
pub later_past : (beats : List Beat) (k : ℕ) → length beats ≤ k → later_beats (drop k beats) ≡ drop k beats
later_past [] zero h = refl
later_past [] (suc k) h = refl
later_past (b ∷ bs) zero h = absurd (omega arith)
later_past (b ∷ bs) (suc k) h = later_past bs k (omega arith)

-- the beats from the next place on are in range where those from this one on are
pub drop_are_beats : (region : Region) (beats : List Beat) (k : ℕ) → AreBeats region (drop k beats)
    → AreBeats region (drop (k + 1) beats)
drop_are_beats region beats k h = subst (AreBeats region) (later_drop beats k) (later_are_beats region (drop k beats) h)

pub ruleset tape_steps = (later_drop, later_past, drop_are_beats)
