-- A step of the sound side keeps its boot ROM and its table. It is the same under another list of resets, before the
-- first frame in which they differ.
use Rattle.std.proofs.Common.{◌≡◌, ℕ, ◌<◌, ◌==◌, ◌||◌, ◌&&◌, ◌/◌, ◌%◌, Bool, true, false, nat_le, nat_lt, refl, ap, sym, subst, ◌∙◌, if◌then◌else◌}
use Rattle.snes_defs.specs.declared.ports.Act.TheVariants.{Clear}
use Rattle.snes_defs.specs.declared.ports.Side.TheVariants.{Sound}
use Rattle.snes_defs.specs.declared.region.Region.{Region}
use Rattle.snes_defs.specs.Script.{Script, is_reset}
use Rattle.clock_ratio.specs.Stamp.{rate_of, frame_of, end_stamp_of}
use Rattle.spc_tables.specs.declared.access.SpcAccess.{SpcAccess}
use Rattle.spc_tables.specs.declared.access.SpcAccess.TheVariants as Access
use Rattle.spc700.specs.Instruction.{at_reset, moved_on, next_of}
use Rattle.audio_side.specs.HardwareState.{HardwareState, vector}
use Rattle.audio_side.specs.Clock.{gone_on, is_reset_due, reset_frames, stamp_now}
use Rattle.audio_side.specs.Effect.{act_of, after_load, controlled, dsp_written, effect, emitted, given, is_sampling, passed, register_stored, reset_hardware, sampled, stored, timed}
use Rattle.audio_side.specs.Sound.{SoundState, hardware_before_end, processor_after, sound_act, sound_moves, sound_next}
use Rattle.snapshot.proofs.Numbers.{frame_below}

-- two hardware with one boot ROM and one table
pub record SameRoms (a b : HardwareState) : Type 0 where
  pub boot : b.boot ≡ a.boot
  pub table : b.table ≡ a.table

itself : (a : HardwareState) → SameRoms a a
itself a = record { boot = refl; table = refl }

roms_then : (a b d : HardwareState) → SameRoms a b → SameRoms b d → SameRoms a d
roms_then a b d f g = record { boot = g.boot ∙ f.boot; table = g.table ∙ f.table }

either_roms : (b : Bool) (a x y : HardwareState) → SameRoms a x → SameRoms a y → SameRoms a (if b then x else y)
either_roms true a x y h k = h
either_roms false a x y h k = k

same : (a x : HardwareState) → x.boot ≡ a.boot → x.table ≡ a.table → SameRoms a x
same a x boot table = record { boot = boot; table = table }

load_roms : (a : HardwareState) (at : ℕ) → SameRoms a (after_load a at)
unfolding after_load
load_roms a at =
    either_roms (at == 0xFD) a _ _ (same a _ refl refl)
    (either_roms (at == 0xFE) a _ _ (same a _ refl refl)
    (either_roms (at == 0xFF) a _ _ (same a _ refl refl) (itself a)))

control_roms : (a : HardwareState) (byte : ℕ) → SameRoms a (controlled a byte)
unfolding controlled
control_roms a byte = same a _ refl refl

dsp_roms : (a : HardwareState) (byte : ℕ) → SameRoms a (dsp_written a byte)
unfolding dsp_written
dsp_roms a byte = either_roms (nat_lt a.address 128) a _ a (same a _ refl refl) (itself a)

register_roms : (a : HardwareState) (at byte : ℕ) → SameRoms a (register_stored a at byte)
unfolding register_stored
register_roms a at byte =
    either_roms (at == 0xF1) a _ _ (control_roms a byte)
    (either_roms (at == 0xF2) a _ _ (same a _ refl refl)
    (either_roms (at == 0xF3) a _ _ (dsp_roms a byte)
    (either_roms (at == 0xF8 || at == 0xF9) a _ _ (same a _ refl refl)
    (either_roms (at == 0xFA) a _ _ (same a _ refl refl)
    (either_roms (at == 0xFB) a _ _ (same a _ refl refl)
    (either_roms (at == 0xFC) a _ _ (same a _ refl refl) (itself a)))))))

store_roms : (a : HardwareState) (at byte : ℕ) → SameRoms a (stored a at byte)
unfolding stored
store_roms a at byte = either_roms (nat_le 0xF0 at && nat_le at 0xFF) a _ _ (register_roms a at byte) (same a _ refl refl)

effect_roms : (a : HardwareState) (x : SpcAccess) → SameRoms a (effect a x)
effect_roms a (Access.Fetch at) = load_roms a at
effect_roms a (Access.Read at) = load_roms a at
effect_roms a (Access.Write at byte) = store_roms a at byte
effect_roms a Access.Inner = itself a

reset_roms : (a : HardwareState) → SameRoms a (reset_hardware a)
unfolding reset_hardware
reset_roms a = same a _ refl refl

timed_roms : (n : ℕ) (a : HardwareState) → SameRoms a (timed n a)
unfolding timed
timed_roms n a = same a _ refl refl

sampled_roms : (s : ℕ) (a : HardwareState) → SameRoms a (sampled s a)
unfolding sampled
sampled_roms s a = same a _ refl refl

passed_roms : (n : ℕ) (a : HardwareState) → SameRoms a (passed n a)
unfolding passed
passed_roms n a = either_roms (is_sampling n) a _ _ (roms_then a _ _ (timed_roms n a) (sampled_roms (n / 32) (timed n a))) (timed_roms n a)

before_roms : (m : SoundState) → SameRoms m.hardware (hardware_before_end m)
unfolding hardware_before_end
before_roms m = either_roms (is_reset_due m.clock) m.hardware _ _ (reset_roms m.hardware) (effect_roms m.hardware (next_of m.processor))

pub step_roms : (m : SoundState) (got : ℕ) → SameRoms m.hardware (sound_next m got).hardware
step_roms m got = roms_then m.hardware _ _ (before_roms m) (passed_roms m.clock.cycle (hardware_before_end m))

-- ---- a sound side that has the resets of another script, and room for as many

abbrev pub sound_put : Script → SoundState → SoundState
sound_put t m = record m { clock = record m.clock { resets = reset_frames t.resets 36001; room = t.room } }

-- whether its next step is a reset, before a frame up to which the two lists are alike
pub put_due : (region : Region) (f : ℕ) (t : Script) (m : SoundState) → m.clock.region ≡ region
    → ((n : ℕ) → n < f → is_reset (reset_frames t.resets 36001) n ≡ is_reset m.clock.resets n)
    → sound_moves.stamp m < end_stamp_of region f → is_reset_due (sound_put t m).clock ≡ is_reset_due m.clock
put_due region f t m region_is same early =
    let there = frame_below m.clock.region f (stamp_now m.clock) (subst (λ r. stamp_now m.clock < end_stamp_of r f) (sym region_is) early) in
    ap (λ b. nat_lt (stamp_now m.clock % frame_of m.clock.region) (rate_of m.clock.region Sound) && b) (same (stamp_now m.clock / frame_of m.clock.region) there)

module _ (t : Script) (m : SoundState) where
  put_processor : (got : ℕ) → is_reset_due (sound_put t m).clock ≡ is_reset_due m.clock → processor_after (sound_put t m) got ≡ processor_after m got
  unfolding processor_after
  put_processor got due = ap (λ b. if b then at_reset (vector m.hardware) else moved_on m.processor (given m.hardware (next_of m.processor) got)) due

  put_hardware : is_reset_due (sound_put t m).clock ≡ is_reset_due m.clock → hardware_before_end (sound_put t m) ≡ hardware_before_end m
  unfolding hardware_before_end
  put_hardware due = ap (λ b. if b then reset_hardware m.hardware else effect m.hardware (next_of m.processor)) due

  pub put_act : is_reset_due (sound_put t m).clock ≡ is_reset_due m.clock → sound_act (sound_put t m) ≡ sound_act m
  unfolding sound_act
  put_act due = ap (λ b. if b then Clear 15 else act_of (next_of m.processor)) due

  pub put_next : (got : ℕ) → is_reset_due (sound_put t m).clock ≡ is_reset_due m.clock → sound_next (sound_put t m) got ≡ sound_put t (sound_next m got)
  put_next got due =
      let clock = gone_on (sound_put t m).clock in
      ap (λ p. record { processor = p; hardware = passed m.clock.cycle (hardware_before_end (sound_put t m)); clock = clock }) (put_processor got due)
      ∙ ap (λ b. record { processor = processor_after m got; hardware = passed m.clock.cycle b; clock = clock }) (put_hardware due)

  pub put_bytes : is_reset_due (sound_put t m).clock ≡ is_reset_due m.clock → emitted m.clock.cycle (hardware_before_end (sound_put t m)) ≡ emitted m.clock.cycle (hardware_before_end m)
  put_bytes due = ap (λ b. emitted m.clock.cycle b) (put_hardware due)
