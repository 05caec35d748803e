-- Steps of a player one after another, and the pairs that they emit.
use Rattle.std.proofs.Common.{◌≡◌, ℕ, zero, suc, ◌+◌, ◌-◌, ◌*◌, ◌/◌, ◌%◌, ◌^◌, ◌<◌, ◌≤◌, ◌==◌, false, List, [], ◌++◌, length, refl, ap, sym, subst, ◌∙◌, append_assoc, ⊎_elim, arith}
use mathlib.Core.Logic.{∥∥₁_elim}
use Rattle.std.proofs.Math.Bridge.{le_prop}
use Rattle.std.proofs.Math.Nat.{eq-or-lt_of_le}
use Rattle.std.proofs.lemmas.Bool.{ne_eqb}
use Rattle.std.proofs.lemmas.Bool.Decides.{nat_tests}
use Rattle.std.proofs.lemmas.List.{append-nil, length-append}
use Rattle.snes_defs.specs.declared.region.Region.{Region}
use Rattle.snes_defs.specs.declared.region.Region.TheVariants.{Ntsc}
use Rattle.snes_defs.specs.declared.ports.Side.TheVariants.{Sound}
use Rattle.clock_ratio.specs.Stamp.{rate_of}
use Rattle.side_law.specs.Serial.{outgoing_after}
use Rattle.side_law.specs.Sides.{SideState}
use Rattle.serial_console.specs.declared.bytes.Bytes.{Bytes}
use Rattle.serial_console.specs.Bytes.{room_for}
use Rattle.serial_console.specs.Lead.{SideSteps, HasLed}
use Rattle.audio_side.specs.HardwareState.{HardwareState}
use Rattle.audio_side.specs.Clock.{Clock}
use Rattle.audio_side.specs.Effect.{emitted, sample_bytes}
use Rattle.audio_side.specs.Sound.{AudioValue, SoundState, StandsAt, hardware_before_end, sound_moves}
use Rattle.spc_player.specs.Play.{Playing, IsNear, after_steps, output, step_emits, stepped, to_sample}
use Rattle.spc_player.specs.Player.{PlayerValue, IsPlaying, at, stamp_of}

-- the number of the next cycle
abbrev pub cycle_of : Playing → ℕ
cycle_of w = w.sound.clock.cycle

-- some steps, and some more
pub steps_more : (w : Playing) (a b : ℕ) → after_steps w (b + a) ≡ after_steps (after_steps w a) b
steps_more w a zero =
    let e : 0 + a ≡ a = omega arith in
    ap (after_steps w) e
steps_more w a (suc b) =
    let e : suc b + a ≡ suc (b + a) = omega arith in
    ap (after_steps w) e ∙ ap stepped (steps_more w a b)

pub output_more : (w : Playing) (a b : ℕ) → output w (b + a) ≡ output w a ++ output (after_steps w a) b
output_more w a zero =
    let e : 0 + a ≡ a = omega arith in
    ap (output w) e ∙ sym (append-nil (output w a))
output_more w a (suc b) =
    let e : suc b + a ≡ suc (b + a) = omega arith in
    ap (output w) e
    ∙ ap (λ (l : List ℕ). l ++ step_emits (after_steps w (b + a))) (output_more w a b)
    ∙ ap (λ (v : Playing). (output w a ++ output (after_steps w a) b) ++ step_emits v) (steps_more w a b)
    ∙ append_assoc (output w a) (output (after_steps w a) b) (step_emits (after_steps (after_steps w a) b))

-- each step is a cycle, and the region stays
pub cycle_after : (w : Playing) (n : ℕ) → cycle_of (after_steps w n) ≡ cycle_of w + n
cycle_after w zero = omega arith
cycle_after w (suc n) = omega (arith, cycle_after w n)

pub region_after : (w : Playing) (n : ℕ) → (after_steps w n).sound.clock.region ≡ w.sound.clock.region
region_after w zero = refl
region_after w (suc n) = region_after w n

-- a sample comes with the last of 32 cycles, and only there
pub emits_none : (n : ℕ) (b : HardwareState) → n % 32 < 31 → emitted n b ≡ []
unfolding emitted
emits_none n b before =
    let none : (n % 32 == 31) ≡ false = ne_eqb (n % 32) 31 (λ e. omega (arith, e, before)) in
    rw none refl

pub emits_four : (n : ℕ) (b : HardwareState) → n % 32 ≡ 31 → length (emitted n b) ≡ 4
unfolding emitted sample_bytes
emits_four n b is = rw is refl

-- steps before the next sample emit nothing
pub silent : (w : Playing) (n : ℕ) → cycle_of w % 32 + n ≤ 31 → output w n ≡ []
silent w zero before = refl
silent w (suc n) before =
    let v = after_steps w n in
    let now : cycle_of v % 32 < 31 = omega (arith, cycle_after w n, before) in
    ap (λ (l : List ℕ). l ++ step_emits v) (silent w n (omega (arith, before))) ∙ emits_none (cycle_of v) (hardware_before_end v.sound) now

-- and those up to it a pair of two numbers of two bytes
one_pair : (w : Playing) (n : ℕ) → cycle_of w % 32 + n ≡ 31 → length (output w (suc n)) ≡ 4
one_pair w n last =
    let v = after_steps w n in
    let now : cycle_of v % 32 ≡ 31 = omega (arith, cycle_after w n, last) in
    ap (λ (l : List ℕ). length (l ++ step_emits v)) (silent w n (omega (arith, last))) ∙ emits_four (cycle_of v) (hardware_before_end v.sound) now

pub pair : (w : Playing) → length (output w (to_sample w)) ≡ 4
pair w =
    let k = 31 - cycle_of w % 32 in
    let e : to_sample w ≡ suc k = omega arith in
    ap (λ (n : ℕ). length (output w n)) e ∙ one_pair w k (omega arith)

-- as many at most
few_emitted : (w : Playing) (n : ℕ) → n ≤ to_sample w → length (output w n) ≤ 4
few_emitted w n few = ⊎_elim
    (λ same. let e = ap (λ (k : ℕ). length (output w k)) same in omega (arith, e, pair w))
    (λ less. let e = ap (length {A = ℕ}) (silent w n (omega (arith, less))) in omega (arith, e))
    (eq-or-lt_of_le few)

-- the stamp of a player by its cycle
pub stamp_at : (p : PlayerValue) (w : Playing) → w.sound.clock.region ≡ Ntsc → IsPlaying p w → stamp_of p ≡ 118125 * cycle_of w
stamp_at p w region h =
    ap (λ (k : Clock). rate_of k.region Sound * k.cycle) h.sound.clock ∙ ap (λ (r : Region). rate_of r Sound * cycle_of w) region

-- a player that has run some of the steps before a stamp
pub record HasRun (from now : PlayerValue) (w : Playing) (most : ℕ) : Type 0 where
  pub steps : ℕ
  pub plays : IsPlaying now (after_steps w steps)
  pub waits : now.side.waiting ≡ from.side.waiting ++ output w steps
  pub within : steps ≤ most

-- a player as one side whose other side is stopped
abbrev pub side_of : Playing → List ℕ → SideState SoundState
side_of w outgoing = record { own = w.sound; incoming = w.ports; outgoing = outgoing }

abbrev place_of : SideState SoundState → Playing
place_of q = record { sound = q.own; ports = q.incoming }

-- where steps of that side lead
record HasWalked (w : Playing) (from most : ℕ) (q : SideState SoundState) (emitted : List ℕ) : Type 0 where
  steps : ℕ
  there : after_steps w steps ≡ place_of q
  emits : output w steps ≡ output w from ++ emitted
  within : steps ≤ most

walked : (w : Playing) (first end n : ℕ) → w.sound.clock.region ≡ Ntsc → IsNear w end n → (k s : ℕ) (outgoing : List ℕ) (q : SideState SoundState) (emitted : List ℕ) → s ≤ n
    → SideSteps sound_moves first end k (side_of (after_steps w s) outgoing) q emitted → HasWalked w s n q emitted
walked w first end n ntsc near zero s outgoing q emitted le (same, none) = record {
  steps = s;
  there = ap place_of same;
  emits = sym (append-nil (output w s)) ∙ ap (λ (l : List ℕ). output w s ++ l) (sym none);
  within = le;
}
walked w first end n ntsc near (suc k) s outgoing q emitted le (may, (later, joined, rest)) =
    let v = after_steps w s in
    let stamp : sound_moves.stamp v.sound ≡ 118125 * cycle_of v = ap (λ (r : Region). rate_of r Sound * cycle_of v) (region_after w s ∙ ntsc) in
    let one : suc s ≤ n = omega (arith, may.before, stamp, cycle_after w s, near.end_is) in
    let h = walked w first end n ntsc near k (suc s) (outgoing_after (sound_moves.act v.sound) outgoing) q later one rest in
    record {
      steps = h.steps;
      there = h.there;
      emits = h.emits ∙ append_assoc (output w s) (step_emits v) later ∙ ap (λ (l : List ℕ). output w s ++ l) joined;
      within = h.within;
    }

-- where a player stands by a state of its sound side
abbrev pub place_at : PlayerValue → SoundState → Playing
place_at p m = record { sound = m; ports = p.ports }

pub run_starts : (from : PlayerValue) (w : Playing) (n : ℕ) → IsPlaying from w → HasRun from from w n
run_starts from w n start = record { steps = 0; plays = start; waits = sym (append-nil from.side.waiting); within = omega arith }

module _ (from now : PlayerValue) (w : Playing) (end n : ℕ) (ntsc : from.side.clock.region ≡ Ntsc) (start : IsPlaying from w) (near : IsNear w end n) (run : HasRun from now w n) where
  region_is : w.sound.clock.region ≡ Ntsc
  region_is = ap (λ (k : Clock). k.region) (sym start.sound.clock) ∙ ntsc

  stamp_now_is : stamp_of now ≡ 118125 * (cycle_of w + run.steps)
  stamp_now_is =
      stamp_at now (after_steps w run.steps) (region_after w run.steps ∙ region_is) run.plays ∙ ap (λ (n : ℕ). 118125 * n) (cycle_after w run.steps)

  all_made : end ≤ stamp_of now → run.steps ≡ n
  all_made le = omega (arith, le, near.end_is, stamp_now_is, run.within)

  -- nothing was emitted before the end
  pub room_before : stamp_of now < end → length from.side.waiting ≤ 512 → length now.side.waiting ≤ 512
  room_before lt room =
      let none = silent w run.steps (omega (arith, lt, near.end_is, stamp_now_is, near.few)) in
      let same = ap (length {A = ℕ}) (run.waits ∙ ap (λ (l : List ℕ). from.side.waiting ++ l) none ∙ append-nil from.side.waiting) in
      omega (arith, same, room)

  -- some steps further
  pub run_goes_on : (side : AudioValue) (first : ℕ) (incoming outgoing before : List ℕ)
      → ((m : SoundState) → StandsAt now.side m → HasLed sound_moves first end (StandsAt side) now.side.waiting side.waiting incoming outgoing (record { own = m; incoming = now.ports; outgoing = before }))
      → HasRun from (at side incoming) w n
  run_goes_on side first incoming outgoing before made =
      let v = after_steps w run.steps in
      let led = subst (λ (i : List ℕ). HasLed sound_moves first end (StandsAt side) now.side.waiting side.waiting incoming outgoing (record { own = v.sound; incoming = i; outgoing = before }))
      run.plays.ports (made v.sound run.plays.sound) in
      let walk = walked w first end n region_is near led.steps run.steps before (record { own = led.to; incoming = incoming; outgoing = outgoing }) led.emitted run.within led.made in
      record {
        steps = walk.steps;
        plays = subst (λ (u : Playing). IsPlaying (at side incoming) u) (sym walk.there) (record { sound = led.now_stands; ports = refl });
        waits = sym led.waits_is ∙ ap (λ (l : List ℕ). l ++ led.emitted) run.waits ∙ append_assoc from.side.waiting (output w run.steps) led.emitted
            ∙ ap (λ (l : List ℕ). from.side.waiting ++ l) (sym walk.emits);
        within = walk.within;
      }

  -- at the end all were made
  pub run_plays : end ≤ stamp_of now → IsPlaying now (after_steps w n)
  run_plays le = subst (λ (k : ℕ). IsPlaying now (after_steps w k)) (all_made le) run.plays

  pub run_waits : end ≤ stamp_of now → now.side.waiting ≡ from.side.waiting ++ output w n
  run_waits le = subst (λ (k : ℕ). now.side.waiting ≡ from.side.waiting ++ output w k) (all_made le) run.waits

  pub run_stamp : end ≤ stamp_of now → stamp_of now ≡ end
  run_stamp le = omega (arith, all_made le, near.end_is, stamp_now_is)

  pub run_few : end ≤ stamp_of now → length now.side.waiting ≤ length from.side.waiting + 4
  run_few le =
      let both = length-append from.side.waiting (output w n) in
      omega (arith, ap (length {A = ℕ}) (run_waits le), both, few_emitted w n near.few)

-- where a sound side stands is a place of a player
pub stands_at : (side : AudioValue) (ports : List ℕ) (m : SoundState) → StandsAt side m → (w : Playing) × IsPlaying (at side ports) w
stands_at side ports m stands = (record { sound = m; ports = ports }, record { sound = stands; ports = refl })

-- a step may emit while no more than 512 bytes wait, if nothing else holds it
pub room_free : (p : Bytes) (n stamp : ℕ) → p.hold ≡ 2 ^ 64 - 1 → n ≤ 512 → stamp < 2 ^ 64 - 1 → stamp < room_for p n
room_free p n stamp hold few early = grind (arith, nat_tests)

-- a bound that holds wherever a player stands, since it stands somewhere
pub bound_by_place : (side : AudioValue) (p : PlayerValue) (a b : ℕ) → side ≡ p.side → ∥ ((m : SoundState) × StandsAt side m) ∥₁
    → ((w : Playing) → IsPlaying p w → a ≤ b) → a ≤ b
bound_by_place side p a b is stands le =
    ∥∥₁_elim stands le_prop (λ q. le (place_at p q.0) (record { sound = subst (λ (v : AudioValue). StandsAt v q.0) is q.1; ports = refl }))

-- the stamp of the step after it
pub sample_is_near : (w : Playing) (end : ℕ) → end ≡ 118125 * (32 * (cycle_of w / 32) + 32) → IsNear w end (to_sample w)
sample_is_near w end is = record { end_is = omega (arith, is); few = omega arith }

-- the region of a player by what its value has inside
pub start_is : (stamp : ℕ) (p : PlayerValue) (w : Playing) → p.side.clock.region ≡ Ntsc → IsPlaying p w → stamp ≡ stamp_of p → stamp ≡ 118125 * cycle_of w
start_is stamp p w ntsc start is =
    is ∙ stamp_at p w (ap (λ (k : Clock). k.region) (sym start.sound.clock) ∙ ntsc) start
