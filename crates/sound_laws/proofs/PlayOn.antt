-- Two sound sides that play by themselves, whose memories differ where nobody looks and whose cycles lie a number of periods
-- apart: they emit the same.
use Rattle.std.proofs.Common.{◌≡◌, ℕ, Bool, true, false, zero, suc, ◌+◌, ◌*◌, ◌/◌, ◌%◌, ◌==◌, ◌&&◌, if◌then◌else◌, List, [], ◌++◌, refl, ap, sym, subst, ◌∙◌, arith}
use Rattle.snes_defs.specs.declared.region.Region.TheVariants.{Ntsc}
use Rattle.spc700.specs.Instruction.{SpcState, moved_on, next_of}
use Rattle.side_law.specs.Serial.{got_of, incoming_after}
use Rattle.audio_side.specs.HardwareState.{HardwareState}
use Rattle.audio_side.specs.Clock.{is_reset_due}
use Rattle.audio_side.specs.Effect.{act_of, effect, emitted, given, passed, sampled, sample_bytes, timed}
use Rattle.audio_side.specs.Sound.{SoundState, sound_act, processor_after, hardware_before_end}
use Rattle.spc_player.specs.Play.{Playing, after_steps, output, step_emits, stepped}
use Rattle.sound_laws.specs.PlaysOn.{IsAlike, IsBlind, StaysBlind, with_memory, at_end}
use Rattle.sound_laws.proofs.Memory.{Follows, effect_follows, given_same, timed_follows}
use Rattle.sound_laws.proofs.Rates.{sample_again, bytes_again}

abbrev state : SpcState → HardwareState → ℕ → SoundState
state s b n = record { processor = s; hardware = b; clock = record { region = Ntsc; resets = []; cycle = n; room = 0 } }

abbrev playing : SpcState → HardwareState → ℕ → List ℕ → Playing
playing s b n ports' = record { sound = state s b n; ports = ports' }

and_false : (c : Bool) → c && false ≡ false
and_false true = refl
and_false false = refl

-- no reset comes
not_due : (n : ℕ) → is_reset_due (record { region = Ntsc; resets = []; cycle = n; room = 0 }) ≡ false
not_due n = and_false _

act_is : (s : SpcState) (b : HardwareState) (n : ℕ) → sound_act (state s b n) ≡ act_of (next_of s)
unfolding sound_act
act_is s b n = rw (not_due n) refl

processor_is : (s : SpcState) (b : HardwareState) (n got' : ℕ) → processor_after (state s b n) got' ≡ moved_on s (given b (next_of s) got')
unfolding processor_after
processor_is s b n got' = rw (not_due n) refl

hardware_is : (s : SpcState) (b : HardwareState) (n : ℕ) → hardware_before_end (state s b n) ≡ effect b (next_of s)
unfolding hardware_before_end
hardware_is s b n = rw (not_due n) refl

-- what a step makes, and emits
got_is : SpcState → List ℕ → ℕ
got_is s ports' = got_of (act_of (next_of s)) ports'

step_is : (s : SpcState) (b : HardwareState) (n : ℕ) (ports' : List ℕ) → stepped (playing s b n ports')
    ≡ playing (moved_on s (given b (next_of s) (got_is s ports'))) (passed n (effect b (next_of s))) (n + 1) (incoming_after (act_of (next_of s)) ports')
unfolding got_is
step_is s b n ports' = rw (act_is s b n, processor_is s b n (got_of (act_of (next_of s)) ports'), hardware_is s b n) refl

emits_is : (s : SpcState) (b : HardwareState) (n : ℕ) (ports' : List ℕ) → step_emits (playing s b n ports') ≡ emitted n (effect b (next_of s))
emits_is s b n ports' = ap (emitted n) (hardware_is s b n)

-- cycles that are periods apart come at the same time for timers and samples
module _ (n k : ℕ) where
  pub sampling_again : (n + 983040 * k) % 32 ≡ n % 32
  sampling_again = omega arith

  pub number_again : (n + 983040 * k) / 32 ≡ n / 32 + 30720 * k
  number_again = omega arith

  slow_again : (n + 983040 * k + 1) % 128 ≡ (n + 1) % 128
  slow_again = omega arith

  fast_again : (n + 983040 * k + 1) % 16 ≡ (n + 1) % 16
  fast_again = omega arith

  pub timed_again : (b : HardwareState) → timed (n + 983040 * k) b ≡ timed n b
  unfolding timed
  timed_again b = rw (slow_again, fast_again) refl

  pub passed_again : (b : HardwareState) → passed (n + 983040 * k) b ≡ passed n b
  unfolding passed
  passed_again b = rw (sampling_again, number_again, timed_again b, sample_again (n / 32) k (timed n b)) refl

  pub emitted_again : (b : HardwareState) → emitted (n + 983040 * k) b ≡ emitted n b
  unfolding emitted
  emitted_again b = rw (sampling_again, number_again, timed_again b, bytes_again (n / 32) k (timed n b)) refl

-- the end of a cycle whose sample, if there is one, looks at no hidden byte
passed_follows : (seen : Bool) (boot' : List ℕ) (n : ℕ) (b other : HardwareState) → IsBlind seen (n / 32) (timed n b) → Follows seen boot' b other
    → Follows seen boot' (passed n b) (passed n other)
unfolding passed
passed_follows seen boot' n b other blind h =
    let t = timed_follows seen boot' n b other h in
    let m = blind.makes t.ram' boot' t.alike in
    elim (n % 32 == 31) as (λ c. Follows seen boot' (if c then sampled (n / 32) (timed n b) else timed n b) (if c then sampled (n / 32) (timed n other) else timed n other)) [
      | true ↦ record { ram' = m.0; alike = m.1; is = ap (sampled (n / 32)) t.is ∙ m.2 }
      | false ↦ t
    ]

emitted_follows : (seen : Bool) (boot' : List ℕ) (n : ℕ) (b other : HardwareState) → IsBlind seen (n / 32) (timed n b) → Follows seen boot' b other
    → emitted n other ≡ emitted n b
unfolding emitted
emitted_follows seen boot' n b other blind h =
    let t = timed_follows seen boot' n b other h in
    elim (n % 32 == 31) as (λ c. (if c then sample_bytes (n / 32) (timed n other) else []) ≡ (if c then sample_bytes (n / 32) (timed n b) else [])) [
      | true ↦ ap (sample_bytes (n / 32)) t.is ∙ blind.heard t.ram' boot' t.alike
      | false ↦ refl
    ]

-- two that play: they are the same but for memory that nobody looks at, and the other stands some periods earlier
pub record IsBeside (seen : Bool) (k : ℕ) (w other : Playing) : Type 0 where
  pub s : SpcState
  pub b : HardwareState
  pub n : ℕ
  pub ports' : List ℕ
  pub ram' : List ℕ
  pub boot' : List ℕ
  pub w_is : w ≡ playing s b (n + 983040 * k) ports'
  pub other_is : other ≡ playing s (with_memory b ram' boot') n ports'
  pub alike : IsAlike seen ram' b.ram
  pub boot_same : seen ≡ true → boot' ≡ b.boot

same_memory : (seen : Bool) (one : List ℕ) → IsAlike seen one one
same_memory seen one = record { size = refl; same = λ at shown. refl }

module _ (seen : Bool) (k : ℕ) (w other : Playing) (h : IsBeside seen k w other) (blind : IsBlind seen (w.sound.clock.cycle / 32) (at_end w.sound)) where
  blind_here : IsBlind seen ((h.n + 983040 * k) / 32) (timed (h.n + 983040 * k) (effect h.b (next_of h.s)))
  blind_here =
      subst (λ (x : HardwareState). IsBlind seen ((h.n + 983040 * k) / 32) (timed (h.n + 983040 * k) x)) (hardware_is h.s h.b (h.n + 983040 * k))
      (subst (λ (v : Playing). IsBlind seen (v.sound.clock.cycle / 32) (at_end v.sound)) h.w_is blind)

  pub emits_same : step_emits other ≡ step_emits w
  emits_same =
      let a = next_of h.s in
      let there = effect (with_memory h.b h.ram' h.boot') a in
      ap step_emits h.other_is ∙ emits_is h.s (with_memory h.b h.ram' h.boot') h.n h.ports' ∙ sym (emitted_again h.n k there)
      ∙ emitted_follows seen h.boot' (h.n + 983040 * k) (effect h.b a) there blind_here (effect_follows seen h.b h.ram' h.boot' h.alike a)
      ∙ sym (ap step_emits h.w_is ∙ emits_is h.s h.b (h.n + 983040 * k) h.ports')

  -- no step changes the boot ROM
  boot_kept : (passed (h.n + 983040 * k) (effect h.b (next_of h.s))).boot ≡ h.b.boot
  boot_kept =
      let f = passed_follows seen h.b.boot (h.n + 983040 * k) (effect h.b (next_of h.s)) (effect h.b (next_of h.s)) blind_here
      (effect_follows seen h.b h.b.ram h.b.boot (same_memory seen h.b.ram) (next_of h.s)) in
      ap (λ (x : HardwareState). x.boot) f.is

  pub beside_next : w.sound.hardware.boot_seen ≡ seen → IsBeside seen k (stepped w) (stepped other)
  beside_next seen_here =
      let a = next_of h.s in
      let here = effect h.b a in
      let there = effect (with_memory h.b h.ram' h.boot') a in
      let late = h.n + 983040 * k in
      let byte = got_is h.s h.ports' in
      let left = incoming_after (act_of a) h.ports' in
      let f : Follows seen h.boot' (passed late here) (passed late there)
      = passed_follows seen h.boot' late here there blind_here (effect_follows seen h.b h.ram' h.boot' h.alike a) in
      let is : h.b.boot_seen ≡ seen = subst (λ (v : Playing). v.sound.hardware.boot_seen ≡ seen) h.w_is seen_here in
      let given_is = given_same seen h.b h.ram' h.boot' is h.alike h.boot_same a byte in
      let next : moved_on h.s (given (with_memory h.b h.ram' h.boot') a byte) ≡ moved_on h.s (given h.b a byte) = ap (moved_on h.s) given_is in
      let number : late + 1 ≡ (h.n + 1) + 983040 * k = omega arith in
      record {
        s = moved_on h.s (given h.b a byte);
        b = passed late here;
        n = h.n + 1;
        ports' = left;
        ram' = f.ram';
        boot' = h.boot';
        w_is = ap stepped h.w_is ∙ step_is h.s h.b late h.ports' ∙ ap (λ (c : ℕ). playing (moved_on h.s (given h.b a byte)) (passed late here) c left) number;
        other_is =
            ap stepped h.other_is ∙ step_is h.s (with_memory h.b h.ram' h.boot') h.n h.ports'
            ∙ ap (λ (s : SpcState). playing s (passed h.n there) (h.n + 1) left) next
            ∙ ap (λ (x : HardwareState). playing (moved_on h.s (given h.b a byte)) x (h.n + 1) left) (sym (passed_again h.n k there) ∙ f.is);
        alike = f.alike;
        boot_same = λ e. h.boot_same e ∙ sym boot_kept;
      }

module _ (seen : Bool) (k : ℕ) (w other : Playing) (start : IsBeside seen k w other) (stays : StaysBlind seen w) where
  beside_after : (m : ℕ) → IsBeside seen k (after_steps w m) (after_steps other m)
  beside_after zero = start
  beside_after (suc m) = beside_next seen k (after_steps w m) (after_steps other m) (beside_after m) (stays.blind m) (stays.seen_still m)

  pub same_output : (m : ℕ) → output other m ≡ output w m
  same_output zero = refl
  same_output (suc m) =
      ap (λ (l : List ℕ). l ++ step_emits (after_steps other m)) (same_output m)
      ∙ ap (λ (l : List ℕ). output w m ++ l) (emits_same seen k (after_steps w m) (after_steps other m) (beside_after m) (stays.blind m))
