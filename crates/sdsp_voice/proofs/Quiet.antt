use Rattle.std.proofs.Common.{◌≡◌, ◌^◌, ℕ, ℤ, pos, zero, suc, Bool, true, false, ◌+◌, ◌<◌, ◌+ℤ◌, ◌-◌, ◌/◌, ◌%◌, ◌∙◌, List, slice_set, FitsSigned, refl, sym, ap, subst, arith, if◌then◌else◌}
use Rattle.std.specs.Int.{w16}
use Rattle.std.proofs.Math.Nat.{zero-div}
use Rattle.std.proofs.Math.IntN.{*ℤ-zero, zero-*ℤ}
use Rattle.std.proofs.lemmas.List.{set-get_or}
use Rattle.std.proofs.lemmas.Int.{ints, clamps}
use Rattle.sdsp_voice.specs.Signed.{clamped_16}
use Rattle.sdsp_voice.specs.Envelope.{after_envelope, is_released}
use Rattle.sdsp_voice.proofs.Steps.{no_sample}
use Rattle.sdsp_voice.specs.Registers.{bit, kept, setting, voice}
use Rattle.sdsp_voice.specs.Keys.{after_keys, keyed, keyed_below, looks}
use Rattle.sdsp_voice.specs.Sample.{added, by_volume, gone_on, mixed, moved, output, pass, pitch_of, shown, turn, IsResting}
use Rattle.sdsp_voice.specs.declared.voice.Phase.TheVariants.{Release}
use Rattle.sdsp_voice.specs.declared.voice.Voice.{Voice}
use Rattle.sdsp_voice.specs.declared.setting.Setting.{Setting}
use Rattle.sdsp_voice.specs.declared.sums.Sums.{Sums}
use Rattle.sdsp_voice.specs.declared.voices.Voices.{Voices}

-- no bit of 0 is set
pub bit-zero : (k : ℕ) → bit 0 k ≡ false
bit-zero k = rw (zero-div (2 ^ k)) refl

-- where no key is held or noted, the keys leave a voice as it is
keyed_idle : (ram : List ℕ) (d : Voices) (v : ℕ) (w : Voice) → bit (kept d 0x6C) 7 ≡ false → keyed ram d 0 0 v w ≡ w
unfolding keyed
keyed_idle ram d v w loud = rw (loud, bit-zero v) refl

-- and the first n voices
voices_idle : (ram : List ℕ) (d : Voices) (n : ℕ) → bit (kept d 0x6C) 7 ≡ false → keyed_below ram d 0 0 n ≡ d.voices
unfolding keyed_below
voices_idle ram d zero loud = refl
voices_idle ram d (suc n) loud = rw (voices_idle ram d n loud, keyed_idle ram d n _ loud) (set-get_or d.voices n _)

pub both_ways : {A : Type 0} (b : Bool) (x y z : A) → x ≡ z → y ≡ z → (if b then x else y) ≡ z
both_ways true x y z e f = e
both_ways false x y z e f = f

idle_by : (ram : List ℕ) (d : Voices) (off on left : ℕ) → bit (kept d 0x6C) 7 ≡ false → off ≡ 0 → on ≡ 0 → left ≡ d.notes → record d { voices = keyed_below ram d off on 8; notes = left } ≡ d
idle_by ram d off on left loud no_off no_on same = rw (no_off, no_on, same, voices_idle ram d 8 loud) refl

-- and all, in any sample
pub keys_idle : (ram : List ℕ) (s : ℕ) (d : Voices) → bit (kept d 0x6C) 7 ≡ false → kept d 0x5C ≡ 0 → d.notes ≡ 0 → after_keys ram s d ≡ d
unfolding after_keys
keys_idle ram s d loud off on =
    let seen : Bool = looks d.profile s in
    idle_by ram d _ _ _ loud (both_ways seen (kept d 0x5C) 0 0 off refl) (both_ways seen d.notes 0 0 on refl) (both_ways seen 0 d.notes d.notes (sym on) refl)

-- an envelope of 0 is silence
pub output_of_none : (table : List ℕ) (noise : ℕ) (t : Setting) (w : Voice) → w.envelope ≡ 0 → output table noise t w ≡ pos 0
unfolding output
output_of_none table noise t w none = rw (none, *ℤ-zero) refl

-- a number of 16 bits is held as it is
clamped-fits : (z : ℤ) → FitsSigned w16 z → clamped_16 z ≡ z
unfolding clamped_16
clamped-fits z fits = omega (arith, ints, clamps)

-- silence adds nothing
added_silence : (z v : ℤ) → FitsSigned w16 z → added z (pos 0) v ≡ z
unfolding added by_volume
added_silence z v fits =
    let e : z ≡ z +ℤ pos 0 = omega (arith, ints) in rw zero-*ℤ (subst (λ (x : ℤ). clamped_16 x ≡ z) e (clamped-fits z fits))

either_way : {A : Type 0} (b : Bool) (x : A) → (if b then x else x) ≡ x
either_way b x = both_ways b x x x refl refl

pub mixed_silence : (sums : Sums) (t : Setting) → FitsSigned w16 sums.left → FitsSigned w16 sums.right → FitsSigned w16 sums.echo_left → FitsSigned w16 sums.echo_right → mixed sums (pos 0) t ≡ sums
unfolding mixed
mixed_silence sums t l r el er =
    rw (added_silence sums.left t.left l, added_silence sums.right t.right r, added_silence sums.echo_left t.left el, added_silence sums.echo_right t.right er, either_way t.echoed sums.echo_left, either_way t.echoed sums.echo_right) refl

shown_silence : (w : Voice) → w.envelope ≡ 0 → shown (pos 0) w ≡ record w { envx = 0; outx = 0 }
unfolding shown
shown_silence w none = rw none refl

envelope_at_rest : (t : Setting) (s : ℕ) (w : Voice) → w.phase ≡ Release → w.envelope ≡ 0 → after_envelope t s w ≡ w
unfolding after_envelope
envelope_at_rest t s w released none =
    let r : is_released w.phase ≡ true = ap is_released released in
    let e : w.envelope - 8 ≡ w.envelope = omega arith in
    rw r (ap (λ (x : ℕ). record w { envelope = x }) e)

moved_at_rest : (ram : List ℕ) (entry : ℕ) (w : Voice) → w.position < 4096 → moved ram entry 0 w ≡ w
unfolding moved
moved_at_rest ram entry w near =
    let a : (w.position + 0) / 4096 ≡ 0 = omega arith in
    let b : (w.position + 0) % 4096 ≡ w.position = omega arith in
    rw a (no_sample ram entry (record w { position = (w.position + 0) % 4096 }) ∙ ap (λ (x : ℕ). record w { position = x }) b)

pitch_of_none : (t : Setting) (before : ℤ) → t.pitch ≡ 0 → pitch_of t before ≡ 0
unfolding pitch_of
pitch_of_none t before still = rw (still, *ℤ-zero) (either_way t.modulated 0)

-- a voice at rest shows zeros, and stays
pub gone_on_at_rest : (ram : List ℕ) (t : Setting) (s : ℕ) (before : ℤ) (w : Voice) → w.phase ≡ Release → w.envelope ≡ 0 → w.position < 4096 → t.pitch ≡ 0 → gone_on ram t s before (pos 0) w ≡ record w { envx = 0; outx = 0 }
unfolding gone_on
gone_on_at_rest ram t s before w released none near still =
    let shown_now : Voice = record w { envx = 0; outx = 0 } in
    rw (shown_silence w none, pitch_of_none t before still, envelope_at_rest t s shown_now released none) (moved_at_rest ram t.entry shown_now near)

-- the turn of a voice at rest
pub turn_at_rest : (ram table : List ℕ) (s : ℕ) (d : Voices) (v : ℕ) (sums : Sums) (before : ℤ) → IsResting d v → FitsSigned w16 sums.left → FitsSigned w16 sums.right → FitsSigned w16 sums.echo_left → FitsSigned w16 sums.echo_right
    → turn ram table s d v (pass d sums before) ≡ record { voices = slice_set d.voices v (record (voice d v) { envx = 0; outx = 0 }); sums = sums; before = pos 0 }
unfolding turn
turn_at_rest ram table s d v sums before h l r el er =
    rw (output_of_none table d.noise (setting d v) (voice d v) h.silent, mixed_silence sums (setting d v) l r el er, gone_on_at_rest ram (setting d v) s before (voice d v) h.released h.silent h.near h.still) refl
