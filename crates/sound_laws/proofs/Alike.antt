-- Voices whose volumes differ and nothing else: their voices go on alike.
use Rattle.std.proofs.Common.{◌≡◌, ◌≢◌, ◌∙◌, ℕ, ℤ, zero, suc, Bool, true, false, ◌+◌, ◌*◌, ◌%◌, ◌<◌, ◌==◌, ◌||◌, List, slice_index_or, slice_set, refl, ap, sym, arith, if◌then◌else◌}
use Rattle.std.proofs.lemmas.Bool.{false≢true}
use Rattle.std.proofs.lemmas.List.{get_or-set_other}
use Rattle.sdsp_voice.specs.Envelope.{after_attack, after_decay, after_envelope, after_gain, after_phase, after_sustain}
use Rattle.sdsp_voice.specs.Keys.{after_keys, keyed, keyed_below, looks}
use Rattle.sdsp_voice.specs.Noise.{after_noise}
use Rattle.sdsp_voice.specs.Registers.{bit, kept, resting_voice, setting, written}
use Rattle.sdsp_voice.specs.Sample.{Pass, added, gone_on, mixed, output, pitch_of, prepared, turn, turns}
use Rattle.sdsp_voice.specs.declared.setting.Setting.{Setting}
use Rattle.sdsp_voice.specs.declared.voice.Phase.{Phase}
use Rattle.sdsp_voice.specs.declared.voice.Phase.TheVariants.{Attack, Decay, Sustain, Release}
use Rattle.sdsp_voice.specs.declared.voice.Voice.{Voice}
use Rattle.sdsp_voice.specs.declared.voices.Voices.{Voices}
use Rattle.audio_side.specs.SoundLaws.{by_test}
use Rattle.audio_side.specs.Stem.{silenced, silenced_below, stem_voices}

-- a register of a volume: x0 VOLL, x1 VOLR, 2C EVOLL, 3C EVOLR
abbrev pub is_volume : ℕ → Bool
is_volume reg = reg % 16 == 0 || reg % 16 == 1 || reg == 0x2C || reg == 0x3C

pub record IsAlike (d d' : Voices) : Type 0 where
  pub voices_same : d'.voices ≡ d.voices
  pub noise_same : d'.noise ≡ d.noise
  pub notes_same : d'.notes ≡ d.notes
  pub profile_same : d'.profile ≡ d.profile
  pub kept_same : (reg : ℕ) → is_volume reg ≡ false → kept d' reg ≡ kept d reg

alike_refl : (d : Voices) → IsAlike d d
alike_refl d = record { voices_same = refl; noise_same = refl; notes_same = refl; profile_same = refl; kept_same = λ reg h. refl }

alike_then : (a b c : Voices) → IsAlike a b → IsAlike b c → IsAlike a c
alike_then a b c f g =
    record {
      voices_same = g.voices_same ∙ f.voices_same;
      noise_same = g.noise_same ∙ f.noise_same;
      notes_same = g.notes_same ∙ f.notes_same;
      profile_same = g.profile_same ∙ f.profile_same;
      kept_same = λ reg h. g.kept_same reg h ∙ f.kept_same reg h;
    }

-- a write of a volume sets its byte and nothing else
pub volume_written : (d : Voices) (reg byte : ℕ) → is_volume reg ≡ true → written d reg byte ≡ record d { registers = slice_set d.registers reg byte }
unfolding written
volume_written d reg byte is =
    let ended : (reg == 0x7C) ≡ false = grind arith in
    let level : (reg % 16 == 8) ≡ false = grind arith in
    let shown : (reg % 16 == 9) ≡ false = grind arith in
    let key : (reg == 0x4C) ≡ false = grind arith in
    rw (ended, level, shown, key) refl

no_volume : (reg other : ℕ) → is_volume reg ≡ true → is_volume other ≡ false → other ≢ reg
no_volume reg other is none = λ e. false≢true (sym none ∙ ap is_volume e ∙ is)

pub written_alike : (d : Voices) (reg byte : ℕ) → is_volume reg ≡ true → IsAlike d (written d reg byte)
written_alike d reg byte is =
    rw (volume_written d reg byte is) (record {
      voices_same = refl;
      noise_same = refl;
      notes_same = refl;
      profile_same = refl;
      kept_same = λ other none. get_or-set_other d.registers reg other byte 0 (no_volume reg other is none);
    })

pub silenced_alike : (stem part left right : ℕ) (d : Voices) → is_volume left ≡ true → is_volume right ≡ true → IsAlike d (silenced stem part left right d)
unfolding silenced
silenced_alike stem part left right d l r =
    by_test (bit stem part) (λ e. rw e (alike_refl d))
    (λ e. rw e (alike_then _ _ _ (written_alike d left 0 l) (written_alike (written d left 0) right 0 r)))

pub left_volume : (v : ℕ) → is_volume (16 * v) ≡ true
left_volume v = grind arith

pub right_volume : (v : ℕ) → is_volume (16 * v + 1) ≡ true
right_volume v = grind arith

pub below_alike : (stem n : ℕ) (d : Voices) → IsAlike d (silenced_below stem n d)
unfolding silenced_below
below_alike stem zero d = alike_refl d
below_alike stem (suc v) d = alike_then _ _ _ (below_alike stem v d) (silenced_alike stem v (16 * v) (16 * v + 1) _ (left_volume v) (right_volume v))

pub stem_alike : (stem : ℕ) (d : Voices) → IsAlike d (stem_voices stem d)
unfolding stem_voices
stem_alike stem d = alike_then _ _ _ (below_alike stem 8 d) (silenced_alike stem 8 0x2C 0x3C _ refl refl)

-- ---- what follows from it

module _ (d d' : Voices) (same : IsAlike d d') where
  -- a voice's registers but its volumes
  other_of : (v k : ℕ) → v < 8 → 1 < k → k < 8 → is_volume (16 * v + k) ≡ false
  other_of v k near some few = grind arith

  source_same : (v : ℕ) → v < 8 → kept d' (16 * v + 4) ≡ kept d (16 * v + 4)
  source_same v near = same.kept_same (16 * v + 4) (other_of v 4 near (omega arith) (omega arith))

  pub setting_same : (v : ℕ) → v < 8 → setting d' v ≡ record (setting d v) { left = (setting d' v).left; right = (setting d' v).right }
  unfolding setting
  setting_same v near =
      rw (
        same.kept_same (16 * v + 2) (other_of v 2 near (omega arith) (omega arith)),
        same.kept_same (16 * v + 3) (other_of v 3 near (omega arith) (omega arith)),
        source_same v near,
        same.kept_same (16 * v + 5) (other_of v 5 near (omega arith) (omega arith)),
        same.kept_same (16 * v + 6) (other_of v 6 near (omega arith) (omega arith)),
        same.kept_same (16 * v + 7) (other_of v 7 near (omega arith) (omega arith)),
        same.kept_same 0x5D refl,
        same.kept_same 0x2D refl,
        same.kept_same 0x3D refl,
        same.kept_same 0x4D refl,
      ) refl

  keyed_same : (ram : List ℕ) (off on v : ℕ) (w : Voice) → v < 8 → keyed ram d' off on v w ≡ keyed ram d off on v w
  unfolding keyed setting
  keyed_same ram off on v w near = rw (same.kept_same 0x6C refl, same.kept_same 0x5D refl, source_same v near) refl

  keys_same : (ram : List ℕ) (off on n : ℕ) → n < 9 → keyed_below ram d' off on n ≡ keyed_below ram d off on n
  unfolding keyed_below
  keys_same ram off on zero near = same.voices_same
  keys_same ram off on (suc v) near =
      ap (λ (xs : List Voice). slice_set xs v (keyed ram d' off on v (slice_index_or xs v resting_voice)))
      (keys_same ram off on v (omega arith))
      ∙ ap (λ (w : Voice). slice_set (keyed_below ram d off on v) v w)
      (keyed_same ram off on v (slice_index_or (keyed_below ram d off on v) v resting_voice) (omega arith))

  -- what of KOFF and the notes of KON a sample looks at, and the notes that it leaves
  seen_same : (s : ℕ) → looks d'.profile s ≡ looks d.profile s
  seen_same s = ap (λ p. looks p s) same.profile_same

  off_same : (s : ℕ) → (if looks d'.profile s then kept d' 0x5C else 0) ≡ (if looks d.profile s then kept d 0x5C else 0)
  off_same s = rw (seen_same s, same.kept_same 0x5C refl) refl

  on_same : (s : ℕ) → (if looks d'.profile s then d'.notes else 0) ≡ (if looks d.profile s then d.notes else 0)
  on_same s = rw (seen_same s, same.notes_same) refl

  left_same : (s : ℕ) → (if looks d'.profile s then 0 else d'.notes) ≡ (if looks d.profile s then 0 else d.notes)
  left_same s = rw (seen_same s, same.notes_same) refl

  pub prepared_alike : (ram : List ℕ) (s : ℕ) → IsAlike (prepared ram s d) (prepared ram s d')
  unfolding prepared after_keys after_noise
  prepared_alike ram s =
      record {
        voices_same = ap (λ off. keyed_below ram d' off (if looks d'.profile s then d'.notes else 0) 8) (off_same s)
            ∙ ap (λ on. keyed_below ram d' (if looks d.profile s then kept d 0x5C else 0) on 8) (on_same s)
            ∙ keys_same ram (if looks d.profile s then kept d 0x5C else 0) (if looks d.profile s then d.notes else 0) 8 (omega arith);
        noise_same = rw (same.noise_same, same.kept_same 0x6C refl) refl;
        notes_same = left_same s;
        profile_same = same.profile_same;
        kept_same = same.kept_same;
      }

-- the volumes of a setting are for nothing but the sums
module _ (t : Setting) (l r : ℤ) where
  abbrev louder : Setting
  louder = record t { left = l; right = r }

  phase_same : (p : Phase) (s : ℕ) (w : Voice) → after_phase p louder s w ≡ after_phase p t s w
  unfolding after_attack after_decay after_sustain
  phase_same Attack s w = refl
  phase_same Decay s w = refl
  phase_same Sustain s w = refl
  phase_same Release s w = refl

  envelope_same : (s : ℕ) (w : Voice) → after_envelope louder s w ≡ after_envelope t s w
  unfolding after_envelope after_gain
  envelope_same s w = rw (phase_same w.phase s w) refl

  pub gone_on_same : (ram : List ℕ) (s : ℕ) (before out : ℤ) (w : Voice) → gone_on ram louder s before out w ≡ gone_on ram t s before out w
  unfolding gone_on pitch_of
  gone_on_same ram s before out w = rw (envelope_same s _) refl

  pub output_same : (table : List ℕ) (noise : ℕ) (w : Voice) → output table noise louder w ≡ output table noise t w
  unfolding output
  output_same table noise w = refl

-- the turns of alike voices: the same voices and outputs, and sums by the other volumes
module _ (ram table : List ℕ) (s : ℕ) (d d' : Voices) (same : IsAlike d d') where
  pub record IsTurn (n : ℕ) : Type 0 where
    pub voices_same : (turns ram table s d' n).voices ≡ (turns ram table s d n).voices
    pub before_same : (turns ram table s d' n).before ≡ (turns ram table s d n).before

  one_turn : (v : ℕ) (p p' : Pass) → v < 8 → p'.voices ≡ p.voices → p'.before ≡ p.before
      → turn ram table s d' v p'
      ≡ record {
        voices = (turn ram table s d v p).voices;
        sums = mixed p'.sums (turn ram table s d v p).before (record (setting d v) { left = (setting d' v).left; right = (setting d' v).right });
        before = (turn ram table s d v p).before;
      }
  unfolding turn
  one_turn v p p' near voices before =
      let t = setting d v in
      let l = (setting d' v).left in
      let r = (setting d' v).right in
      let w = slice_index_or p.voices v resting_voice in
      let out = output table d.noise t w in
      let made : Setting → ℕ → List Voice → ℤ → Pass =
      λ u noise xs b.
      let x = slice_index_or xs v resting_voice in
      let o = output table noise u x in
      record { voices = slice_set xs v (gone_on ram u s b o x); sums = mixed p'.sums o u; before = o } in
      ap (λ (u : Setting). made u d'.noise p'.voices p'.before) (setting_same d d' same v near)
      ∙ ap (λ (n : ℕ). made (louder t l r) n p'.voices p'.before) same.noise_same
      ∙ ap (λ (xs : List Voice). made (louder t l r) d.noise xs p'.before) voices
      ∙ ap (λ (b : ℤ). made (louder t l r) d.noise p.voices b) before
      ∙ ap (λ (o : ℤ). record { voices = slice_set p.voices v (gone_on ram (louder t l r) s p.before o w); sums = mixed p'.sums o (louder t l r); before = o }) (output_same t l r table d.noise w)
      ∙ ap (λ (x : Voice). record { voices = slice_set p.voices v x; sums = mixed p'.sums out (louder t l r); before = out }) (gone_on_same t l r ram s p.before out w)

  pub turns_alike : (n : ℕ) → n < 9 → IsTurn n
  unfolding turns
  turns_alike zero near = record { voices_same = same.voices_same; before_same = refl }
  turns_alike (suc v) near =
      let h = turns_alike v (omega arith) in
      let e = one_turn v (turns ram table s d v) (turns ram table s d' v) (omega arith) h.voices_same h.before_same in
      record { voices_same = ap (λ (p : Pass). p.voices) e; before_same = ap (λ (p : Pass). p.before) e }

  -- the sums after one more voice
  pub left_more : (v : ℕ) → v < 8 → (turns ram table s d' (suc v)).sums.left
      ≡ added (turns ram table s d' v).sums.left (turns ram table s d (suc v)).before (setting d' v).left
  unfolding turns mixed
  left_more v near =
      let h = turns_alike v (omega arith) in
      ap (λ (p : Pass). p.sums.left) (one_turn v (turns ram table s d v) (turns ram table s d' v) near h.voices_same h.before_same)

  pub right_more : (v : ℕ) → v < 8 → (turns ram table s d' (suc v)).sums.right
      ≡ added (turns ram table s d' v).sums.right (turns ram table s d (suc v)).before (setting d' v).right
  unfolding turns mixed
  right_more v near =
      let h = turns_alike v (omega arith) in
      ap (λ (p : Pass). p.sums.right) (one_turn v (turns ram table s d v) (turns ram table s d' v) near h.voices_same h.before_same)
