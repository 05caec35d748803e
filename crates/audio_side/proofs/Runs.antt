-- Runs of plain accesses: none, one more, those of a halted processor; and that nothing comes at the ends of free cycles.
use Rattle.std.proofs.Common.{◌≡◌, ◌≢◌, ◌∙◌, ◌%◌, ◌+◌, ◌==◌, ℕ, Bool, zero, suc, true, false, [], refl, sym, ap, subst, arith, add-zero}
use Rattle.std.proofs.lemmas.Bool.{ne_eqb}
use Rattle.snes_defs.specs.declared.ports.Act.TheVariants.{Quiet}
use Rattle.spc_tables.specs.declared.access.SpcAccess.{SpcAccess}
use Rattle.spc_tables.specs.declared.access.SpcAccess.TheVariants as Access
use Rattle.spc_modes.specs.Plan.{first_access}
use Rattle.spc700.specs.Instruction.{SpcState, moved_on, next_of}
use Rattle.spc700.specs.Stands.{Stands, access_of}
use Rattle.spc700.specs.declared.processor.Spc.{Spc}
use Rattle.audio_side.specs.HardwareState.{HardwareState}
use Rattle.audio_side.specs.Clock.{Clock, gone_on}
use Rattle.audio_side.specs.Effect.{act_of, effect, emitted, given, passed}
use Rattle.audio_side.specs.Runs.{later, beat_of, PlainAccesses, HasRun}
use Rattle.audio_side.proofs.Ticks.{passes_nothing, rests_nothing}

-- ---- runs

-- one access more
plain_more : (n : ℕ) (s : SpcState) (b : HardwareState) (to : SpcState) (b' : HardwareState) → PlainAccesses n s b to b' → act_of (next_of to) ≡ Quiet
    → (effect b' (next_of to)).timer2 ≡ b'.timer2 → PlainAccesses (suc n) s b (moved_on to (given b' (next_of to) 0)) (effect b' (next_of to))
plain_more zero s b to b' (same, is) quiet timer =
    let P : SpcState → Type 0 = λ x. PlainAccesses 1 x b (moved_on to (given b' (next_of to) 0)) (effect b' (next_of to)) in
    let Q : HardwareState → Type 0 = λ x. PlainAccesses 1 to x (moved_on to (given b' (next_of to) 0)) (effect b' (next_of to)) in
    subst P (sym same) (subst Q (sym is) (quiet, timer, (refl, refl)))
plain_more (suc n) s b to b' (first, still, rest) quiet timer =
    (first, still, plain_more n (moved_on s (given b (next_of s) 0)) (effect b (next_of s)) to b' rest quiet timer)

-- a run after a run
pub plain_then : (n k : ℕ) (s : SpcState) (b : HardwareState) (mid : SpcState) (c : HardwareState) (to : SpcState) (b' : HardwareState)
    → PlainAccesses n s b mid c → PlainAccesses k mid c to b' → PlainAccesses (n + k) s b to b'
plain_then zero k s b mid c to b' (same, is) then =
    let all : k ≡ 0 + k = omega arith in
    let R : ℕ → Type 0 = λ x. PlainAccesses x s b to b' in
    let P : SpcState → Type 0 = λ x. PlainAccesses k x b to b' in
    let Q : HardwareState → Type 0 = λ x. PlainAccesses k mid x to b' in
    subst R all (subst P (sym same) (subst Q (sym is) then))
plain_then (suc n) k s b mid c to b' (first, still, rest) then =
    let all : suc (n + k) ≡ suc n + k = omega arith in
    let R : ℕ → Type 0 = λ x. PlainAccesses x s b to b' in
    subst R all (first, still, plain_then n k (moved_on s (given b (next_of s) 0)) (effect b (next_of s)) mid c to b' rest then)

pub no_run : (spc : Spc) (b : HardwareState) (s : SpcState) → Stands spc s → HasRun spc b s b 0
no_run spc b s stands = record { to = s; run = (refl, refl); stands = stands }

-- a run and one access more
pub run_on : (old new : Spc) (mid end : HardwareState) (s : SpcState) (b : HardwareState) (n k : ℕ) → (h : HasRun old mid s b n)
    → act_of (next_of h.to) ≡ Quiet → end.timer2 ≡ mid.timer2 → Stands new (moved_on h.to (given mid (next_of h.to) 0)) → end ≡ effect mid (next_of h.to)
    → k ≡ suc n → HasRun new end s b k
run_on old new mid end s b n k h quiet timer stands is sum =
    let still : (effect mid (next_of h.to)).timer2 ≡ mid.timer2 = ap (λ (x : HardwareState). x.timer2) (sym is) ∙ timer in
    let P : HardwareState → Type 0 = λ x. HasRun new x s b k in
    let Q : ℕ → Type 0 = λ x. HasRun new (effect mid (next_of h.to)) s b x in
    subst P (sym is) (subst Q (sym sum) (record {
      to = moved_on h.to (given mid (next_of h.to) 0);
      run = plain_more n s b h.to mid h.run quiet still;
      stands = stands;
    }))

-- a processor that has halted makes as many as are wanted
pub halted_run : (n : ℕ) (spc : Spc) (b : HardwareState) (s : SpcState) → access_of spc ≡ Access.Inner
    → ((t : SpcState) (byte : ℕ) → Stands spc t → Stands spc (moved_on t byte)) → Stands spc s → HasRun spc b s b n
halted_run zero spc b s inner stays stands = no_run spc b s stands
halted_run (suc n) spc b s inner stays stands =
    let is : next_of s ≡ Access.Inner = sym (ap first_access stands.left) ∙ inner in
    let rest = halted_run n spc b (moved_on s 0) inner stays (stays s 0 stands) in
    let P : SpcAccess → Type 0 = λ a. (act_of a ≡ Quiet) × ((effect b a).timer2 ≡ b.timer2) × PlainAccesses n (moved_on s (given b a 0)) (effect b a) rest.to b in
    record { to = rest.to; run = subst P (sym is) (refl, refl, rest.run); stands = rest.stands }

-- ---- steps of the sound side

-- nothing comes at the end of a cycle whose number is none of those at which something may
pub ends_nothing : (fast : Bool) (n : ℕ) (b : HardwareState) → b.timer2.on ≡ fast → (n + 1) % beat_of fast ≢ 0 → passed n b ≡ b
ends_nothing true n b is none = passes_nothing n b none
ends_nothing false n b is none = rests_nothing n b is none

pub emits_none : (fast : Bool) (n : ℕ) (b : HardwareState) → (n + 1) % beat_of fast ≢ 0 → emitted n b ≡ []
unfolding emitted
emits_none true n b none =
    let sample : (n % 32 == 31) ≡ false = ne_eqb (n % 32) 31 (λ e. none (omega (arith, e))) in
    rw sample refl
emits_none false n b none =
    let sample : (n % 32 == 31) ≡ false = ne_eqb (n % 32) 31 (λ e. none (omega (arith, e))) in
    rw sample refl

pub later_none : (c : Clock) → later 0 c ≡ c
later_none c = ap (λ (n : ℕ). record c { cycle = n }) (add-zero c.cycle)

pub later_more : (n : ℕ) (c : Clock) → later n (gone_on c) ≡ later (suc n) c
later_more n c = ap (λ (k : ℕ). record c { cycle = k }) (omega arith)
