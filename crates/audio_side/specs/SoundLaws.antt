-- The sound machine keeps the laws of a machine: its acts are at the four ports, at each step its stamp rises
-- within the region's two bounds, and a step emits at most four bytes.
use Rattle.std.proofs.Common.{◌≡◌, ℕ, Bool, true, false, ◌+◌, ◌-◌, ◌*◌, ◌<◌, ◌≤◌, ◌==◌, ◌&&◌, nat_le, nat_lt, length, arith, sym, ap, subst, refl, lit≤}
use Rattle.snes_defs.specs.declared.ports.Act.TheVariants.{Clear}
use Rattle.snes_defs.specs.declared.ports.Side.TheVariants.{Sound}
use Rattle.snes_defs.specs.declared.region.Region.{Region}
use Rattle.snes_defs.specs.declared.region.Region.TheVariants.{Ntsc, Pal}
use Rattle.clock_ratio.specs.Stamp.{least_of, most_of, rate_of}
use Rattle.side_law.specs.Moves.{IsLawful, IsAtPorts}
use Rattle.spc_tables.specs.declared.access.SpcAccess.{SpcAccess}
use Rattle.spc_tables.specs.declared.access.SpcAccess.TheVariants as Access
use Rattle.spc700.specs.Instruction.{next_of}
use Rattle.audio_side.specs.HardwareState.{HardwareState}
use Rattle.audio_side.specs.Clock.{Clock, is_reset_due, stamp_now}
use Rattle.audio_side.specs.Effect.{act_of, act_of_load, act_of_store, cleared_ports, emitted, is_sampling, sample_bytes}
use Rattle.audio_side.specs.Sound.{AudioValue, SoundState, StandsAt, IsSound, hardware_before_end, sound_act, sound_moves}

pub region_stands : (x : AudioValue) (m : SoundState) → StandsAt x m → IsSound x.clock.region m
region_stands x m h = sym (ap (λ (c : Clock). c.region) h.clock)

pub stamp_stands : (x : AudioValue) (m : SoundState) → StandsAt x m → sound_moves.stamp m ≡ stamp_now x.clock
stamp_stands x m h = sym (ap stamp_now h.clock)

-- a test goes one way or the other
pub by_test : {P : Type 0} (b : Bool) → (b ≡ true → P) → (b ≡ false → P) → P
by_test true f g = f refl
by_test false f g = g refl

below_four : (at : ℕ) → nat_le 0xF4 at && nat_le at 0xF7 ≡ true → at - 0xF4 < 4
below_four at h = grind arith

load_at_ports : (at : ℕ) → IsAtPorts (act_of_load at)
unfolding act_of_load
load_at_ports at = by_test (nat_le 0xF4 at && nat_le at 0xF7) (λ e. rw e (below_four at e)) (λ e. rw e tt)

mask_at_ports : (byte : ℕ) → nat_lt 0 (cleared_ports byte) ≡ true → IsAtPorts (Clear (cleared_ports byte))
mask_at_ports byte some = (grind arith, grind arith)

store_at_ports : (at byte : ℕ) → IsAtPorts (act_of_store at byte)
unfolding act_of_store
store_at_ports at byte =
    by_test (nat_le 0xF4 at && nat_le at 0xF7) (λ e. rw e (below_four at e, omega arith))
    (λ e. rw e (by_test (at == 0xF1 && nat_lt 0 (cleared_ports byte)) (λ f. rw f (mask_at_ports byte (grind arith))) (λ f. rw f tt)))

access_at_ports : (a : SpcAccess) → IsAtPorts (act_of a)
access_at_ports (Access.Fetch at) = load_at_ports at
access_at_ports (Access.Read at) = load_at_ports at
access_at_ports (Access.Write at byte) = store_at_ports at byte
access_at_ports Access.Inner = tt

act_at_ports : (m : SoundState) → IsAtPorts (sound_act m)
unfolding sound_act
act_at_ports m =
    by_test (is_reset_due m.clock) (λ e. rw e (lit≤ tt, lit≤ tt)) (λ e. rw e (access_at_ports (next_of m.processor)))

pub rises_in : (r : Region) (n : ℕ) → rate_of r Sound * n + least_of r ≤ rate_of r Sound * (n + 1)
rises_in Ntsc n = omega arith
rises_in Pal n = omega arith

rises_at_most_in : (r : Region) (n : ℕ) → rate_of r Sound * (n + 1) ≤ rate_of r Sound * n + most_of r
rises_at_most_in Ntsc n = omega arith
rises_at_most_in Pal n = omega arith

few_bytes : (n : ℕ) (b : HardwareState) → length (emitted n b) ≤ 4
unfolding emitted sample_bytes
few_bytes n b = by_test (is_sampling n) (λ e. rw e (lit≤ tt)) (λ e. rw e (lit≤ tt))

pub sound_is_lawful : (region : Region) → IsLawful region (IsSound region) 4 sound_moves
sound_is_lawful region = record {
  at_ports = λ m valid. act_at_ports m;
  stays_valid = λ m got valid byte. valid;
  rises = λ m got valid byte. subst (λ (r : Region). stamp_now m.clock + least_of r ≤ rate_of m.clock.region Sound * (m.clock.cycle + 1)) valid (rises_in m.clock.region m.clock.cycle);
  rises_at_most = λ m got valid byte. subst (λ (r : Region). rate_of m.clock.region Sound * (m.clock.cycle + 1) ≤ stamp_now m.clock + most_of r) valid (rises_at_most_in m.clock.region m.clock.cycle);
  emits_at_most = λ m got valid byte. few_bytes m.clock.cycle (hardware_before_end m);
}
