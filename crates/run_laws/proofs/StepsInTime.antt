-- In the serial run no side waits long: after at most 8 * (i + 1) turns it has made i steps.
use Rattle.std.proofs.Common.{◌≡◌, ℕ, zero, suc, ◌+◌, ◌*◌, ◌<◌, ◌≤◌, refl, ap, sym, subst, ⊎_elim, arith}
use Rattle.std.proofs.Math.Nat.{le_of_mul-le-mul_left}
use Rattle.std.proofs.lemmas.Bool.{cases_lt}
use Rattle.snes_defs.specs.declared.region.Region.{Region}
use Rattle.snes_defs.specs.declared.ports.Side.TheVariants.{Console, Sound}
use Rattle.clock_ratio.specs.Stamp.{least_of, most_of}
use Rattle.clock_ratio.proofs.Numbers.{numbers}
use Rattle.port_entries.proofs.Seen.{seen_le}
use Rattle.side_law.specs.Moves.{Moves, IsLawful}
use Rattle.commute_laws.specs.History.{History}
use Rattle.commute_laws.specs.OnRun.{serial_run}
use Rattle.commute_laws.proofs.Sequences.{TurnAt, own_turn, other_turn}
use Rattle.commute_laws.proofs.HistoryRun.{console_turns, sound_turns}

-- after `turns` turns, at `i` steps of one side and `j` of the other, each with its stamp, where each
-- step lasts at least `least` and at most seven times as long
record Balance (least turns i at j other : ℕ) : Type 0 where
  sum : i + j ≡ turns
  low : least * i ≤ at
  high : at ≤ 7 * (least * i)
  other_low : least * j ≤ other
  other_high : other ≤ 7 * (least * j)
  ahead : i ≤ 7 * j + 1
  behind : j ≤ 7 * i + 1

-- a side that isn't later has made at most seven times as many steps
not_later : (least i at j other : ℕ) → 1 ≤ least → least * i ≤ at → at ≤ other → other ≤ 7 * (least * j) → i ≤ 7 * j
not_later least i at j other some low le high =
    let h : least * i ≤ least * (7 * j) = omega arith in
    le_of_mul-le-mul_left h (omega arith)

balance_own : (least most n i at j other at_next : ℕ) → 1 ≤ least → most ≤ 7 * least
    → Balance least n i at j other → at ≤ other
    → at + least ≤ at_next → at_next ≤ at + most → Balance least (suc n) (suc i) at_next j other
balance_own least most n i at j other at_next some few b le low high = record {
  sum = omega (arith, b.sum);
  low = omega (arith, b.low);
  high = omega (arith, b.high);
  other_low = b.other_low;
  other_high = b.other_high;
  ahead = omega (arith, not_later least i at j other some b.low le b.other_high);
  behind = omega (arith, b.behind);
}

balance_other : (least most n i at j other next : ℕ) → 1 ≤ least → most ≤ 7 * least
    → Balance least n i at j other → other ≤ at
    → other + least ≤ next → next ≤ other + most → Balance least (suc n) i at (suc j) next
balance_other least most n i at j other next some few b le low high = record {
  sum = omega (arith, b.sum);
  low = b.low;
  high = b.high;
  other_low = omega (arith, b.other_low);
  other_high = omega (arith, b.other_high);
  ahead = omega (arith, b.ahead);
  behind = omega (arith, not_later least j other i at some b.other_low le b.high);
}

-- a count that grows by at most one a place takes every number on its way
passes : (z : ℕ → ℕ) → z 0 ≡ 0 → ((n : ℕ) → z (suc n) ≤ suc (z n)) → (n i : ℕ) → i ≤ z n → (k : ℕ) × (k ≤ n) × (z k ≡ i)
passes z first each zero i le = (0, omega arith, omega arith)
passes z first each (suc n) i le =
    ⊎_elim (λ (lt : i < z (suc n)).
    let r = passes z first each n i (omega (arith, each n)) in
    (r.0, omega (arith, r.1), r.2))
    (λ (ge : z (suc n) ≤ i). (suc n, omega arith, omega arith))
    (cases_lt i (z (suc n)))

module _ {C S : Type 0} (region : Region) (console_valid : C → Type 0) (sound_valid : S → Type 0) (console_most sound_most : ℕ)
    (cm : Moves C) (sm : Moves S)
    (console_lawful : IsLawful region console_valid console_most cm) (sound_lawful : IsLawful region sound_valid sound_most sm)
    (c0 : C) (s0 : S) (c0_valid : console_valid c0) (s0_valid : sound_valid s0)
    (c0_first : cm.stamp c0 ≡ 0) (s0_first : sm.stamp s0 ≡ 0) where
  balance_on : (n : ℕ) → TurnAt region Console cm sm (λ k. (serial_run cm sm c0 s0 k).console) (λ k. (serial_run cm sm c0 s0 k).sound) n
      → Balance (least_of region) n (serial_run cm sm c0 s0 n).console.steps (cm.stamp (serial_run cm sm c0 s0 n).console.now)
      (serial_run cm sm c0 s0 n).sound.steps (sm.stamp (serial_run cm sm c0 s0 n).sound.now)
      → Balance (least_of region) (suc n) (serial_run cm sm c0 s0 (suc n)).console.steps (cm.stamp (serial_run cm sm c0 s0 (suc n)).console.now)
      (serial_run cm sm c0 s0 (suc n)).sound.steps (sm.stamp (serial_run cm sm c0 s0 (suc n)).sound.now)
  balance_on n (own_turn first step advances same) b =
      let c = (serial_run cm sm c0 s0 n).console in
      let s = (serial_run cm sm c0 s0 n).sound in
      let d = (serial_run cm sm c0 s0 (suc n)).console in
      subst (λ (q : History S). Balance (least_of region) (suc n) d.steps (cm.stamp d.now) q.steps (sm.stamp q.now)) (sym same)
      (subst (λ i. Balance (least_of region) (suc n) i (cm.stamp d.now) s.steps (sm.stamp s.now)) (sym advances.steps)
      (balance_own (least_of region) (most_of region) n c.steps (cm.stamp c.now) s.steps (sm.stamp s.now) (cm.stamp d.now) (numbers region).rises (numbers region).few b
      (seen_le Sound (cm.stamp c.now) (sm.stamp s.now) first) advances.rises advances.rises_at_most))
  balance_on n (other_turn first same advances) b =
      let c = (serial_run cm sm c0 s0 n).console in
      let s = (serial_run cm sm c0 s0 n).sound in
      let t = (serial_run cm sm c0 s0 (suc n)).sound in
      subst (λ (q : History C). Balance (least_of region) (suc n) q.steps (cm.stamp q.now) t.steps (sm.stamp t.now)) (sym same)
      (subst (λ j. Balance (least_of region) (suc n) c.steps (cm.stamp c.now) j (sm.stamp t.now)) (sym advances.steps)
      (balance_other (least_of region) (most_of region) n c.steps (cm.stamp c.now) s.steps (sm.stamp s.now) (sm.stamp t.now) (numbers region).rises (numbers region).few b
      (seen_le Console (sm.stamp s.now) (cm.stamp c.now) first) advances.rises advances.rises_at_most))

  balance : (n : ℕ)
      → Balance (least_of region) n (serial_run cm sm c0 s0 n).console.steps (cm.stamp (serial_run cm sm c0 s0 n).console.now)
      (serial_run cm sm c0 s0 n).sound.steps (sm.stamp (serial_run cm sm c0 s0 n).sound.now)
  balance zero = record {
    sum = refl;
    low = omega (arith, c0_first);
    high = omega (arith, c0_first);
    other_low = omega (arith, s0_first);
    other_high = omega (arith, s0_first);
    ahead = omega arith;
    behind = omega arith;
  }
  balance (suc n) =
      balance_on n (console_turns region console_valid sound_valid console_most sound_most cm sm console_lawful sound_lawful c0 s0 c0_valid s0_valid n) (balance n)

  console_by_one : (n : ℕ) → (serial_run cm sm c0 s0 (suc n)).console.steps ≤ suc (serial_run cm sm c0 s0 n).console.steps
  console_by_one n =
      go (console_turns region console_valid sound_valid console_most sound_most cm sm console_lawful sound_lawful c0 s0 c0_valid s0_valid n)
    where
      go : TurnAt region Console cm sm (λ k. (serial_run cm sm c0 s0 k).console) (λ k. (serial_run cm sm c0 s0 k).sound) n
          → (serial_run cm sm c0 s0 (suc n)).console.steps ≤ suc (serial_run cm sm c0 s0 n).console.steps
      go (own_turn first step advances same) = omega (arith, advances.steps)
      go (other_turn first same advances) = omega (arith, ap (λ (q : History C). q.steps) same)

  sound_by_one : (n : ℕ) → (serial_run cm sm c0 s0 (suc n)).sound.steps ≤ suc (serial_run cm sm c0 s0 n).sound.steps
  sound_by_one n =
      go (sound_turns region console_valid sound_valid console_most sound_most cm sm console_lawful sound_lawful c0 s0 c0_valid s0_valid n)
    where
      go : TurnAt region Sound sm cm (λ k. (serial_run cm sm c0 s0 k).sound) (λ k. (serial_run cm sm c0 s0 k).console) n
          → (serial_run cm sm c0 s0 (suc n)).sound.steps ≤ suc (serial_run cm sm c0 s0 n).sound.steps
      go (own_turn first step advances same) = omega (arith, advances.steps)
      go (other_turn first same advances) = omega (arith, ap (λ (q : History S). q.steps) same)

  pub console_in_time : (i : ℕ) → (n : ℕ) × (n ≤ 8 * (i + 1)) × ((serial_run cm sm c0 s0 n).console.steps ≡ i)
  console_in_time i =
      let b = balance (8 * (i + 1)) in
      passes (λ n. (serial_run cm sm c0 s0 n).console.steps) refl console_by_one (8 * (i + 1)) i
      (omega (arith, b.sum, b.behind))

  pub sound_in_time : (j : ℕ) → (n : ℕ) × (n ≤ 8 * (j + 1)) × ((serial_run cm sm c0 s0 n).sound.steps ≡ j)
  sound_in_time j =
      let b = balance (8 * (j + 1)) in
      passes (λ n. (serial_run cm sm c0 s0 n).sound.steps) refl sound_by_one (8 * (j + 1)) j
      (omega (arith, b.sum, b.ahead))
