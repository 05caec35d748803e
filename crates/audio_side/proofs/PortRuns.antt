-- Runs of accesses over ports: of the memory and the registers, and of the ports.
use Rattle.std.proofs.Common.{◌≡◌, ◌∙◌, ◌+◌, ◌*◌, ◌<◌, ◌≤◌, ℕ, Bool, zero, suc, List, ◌++◌, refl, sym, ap, subst, arith}
use Rattle.std.proofs.lemmas.List.{append-nil}
use Rattle.snes_defs.specs.declared.ports.Act.{Act}
use Rattle.snes_defs.specs.declared.ports.Side.TheVariants.{Sound}
use Rattle.clock_ratio.specs.Stamp.{least_of, rate_of}
use Rattle.side_law.specs.declared.ports.Stop.TheVariants.{Refused}
use Rattle.side_law.specs.Gone.{Calls, Over, HasMoved, Leads, IsAnswered, IsRefused, Goes, Gone, IsOnWay, HasGone}
use Rattle.side_law.proofs.Gone.{gone_none, gone_on, gone_then}
use Rattle.spc700.specs.Instruction.{SpcState, moved_on, next_of}
use Rattle.spc700.specs.Stands.{Stands}
use Rattle.spc700.specs.declared.processor.Spc.{Spc}
use Rattle.audio_side.specs.HardwareState.{HardwareState}
use Rattle.audio_side.specs.declared.timer.Timer.{Timer}
use Rattle.audio_side.specs.Clock.{Clock, gone_on as clock_on, stamp_now}
use Rattle.audio_side.specs.Effect.{act_of, effect, given}
use Rattle.audio_side.specs.PortRuns.{HasMade, PortRun, IsHeld}
use Rattle.audio_side.specs.Runs.{later, IsFree, AreFree, PlainAccesses, HasRun}
use Rattle.audio_side.specs.Sound.{AudioValue, SoundState, StandsAt, hardware_before_end, sound_moves}
use Rattle.audio_side.specs.SoundLaws.{rises_in}
use Rattle.audio_side.proofs.Moves.{same_state, state_with}
use Rattle.audio_side.proofs.Runs.{emits_none, later_more, later_none}
use Rattle.audio_side.proofs.FreeSteps.{free_step, free_act}

-- ---- runs

pub later_then : (l m : ℕ) (k : Clock) → later m (later l k) ≡ later (l + m) k
later_then l m k = ap (λ (n : ℕ). record k { cycle = n }) (omega arith)

-- those of the cycles that are left are free
free_left : (fast : Bool) (until l m most : ℕ) (k : Clock) → l + m ≤ most → AreFree fast until most k → AreFree fast until m (later l k)
free_left fast until l m most k few free = λ j less. subst (λ (c : Clock). IsFree fast until c) (sym (later_then l j k)) (free (l + j) (omega (arith, less, few)))

-- the next cycle's stamp is at least a step's least rise later
pub stamp_next : (k : Clock) (l n rise : ℕ) → rise ≤ least_of k.region → l + 1 ≡ n → stamp_now (later l k) + rise ≤ stamp_now (later n k)
stamp_next k l n rise apart sum =
    let up = rises_in k.region (k.cycle + l) in
    let is : k.cycle + l + 1 ≡ k.cycle + n = omega (arith, sum) in
    let to : rate_of k.region Sound * (k.cycle + l) + least_of k.region ≤ rate_of k.region Sound * (k.cycle + n) =
    subst (λ (x : ℕ). rate_of k.region Sound * (k.cycle + l) + least_of k.region ≤ rate_of k.region Sound * x) is up in
    omega (arith, to, apart)

module _ {Ports : Type 0} (calls : Calls Ports) (until : ℕ) (waits : List ℕ) where
  abbrev pub over : SpcState → HardwareState → Clock → Ports → Over SoundState Ports
  over s b k p = record { own = state_with s b k; ports = p; waits = waits }

  -- an access in a free cycle is a step
  goes_free : (fast : Bool) (s : SpcState) (b : HardwareState) (k : Clock) (p q : Ports) (got : ℕ) → (effect b (next_of s)).timer2.on ≡ fast → IsFree fast until k → got < 256
      → IsAnswered calls (stamp_now k) (act_of (next_of s)) got p q
      → Goes sound_moves calls until (over s b k p) (over (moved_on s (given b (next_of s) got)) (effect b (next_of s)) (clock_on k) q)
  goes_free fast s b k p q got on free small answered = record {
    early = free.early;
    got = got;
    byte = small;
    called = q;
    answered = subst (λ (a : Act). IsAnswered calls (stamp_now k) a got p q) (sym (free_act fast until s b k free)) answered;
    own = free_step fast until s b k got on free;
    waits = ap (λ (e : List ℕ). waits ++ e) (emits_none fast k.cycle (hardware_before_end (state_with s b k)) free.no_end) ∙ append-nil waits;
    silent = λ same. refl;
    room = λ some. absurd (omega (arith, some));
    told = λ some. absurd (omega (arith, some));
  }

  -- quiet accesses in free cycles
  plain_over : (fast : Bool) (n : ℕ) (s : SpcState) (b : HardwareState) (k : Clock) (to : SpcState) (b' : HardwareState) (p : Ports) → b.timer2.on ≡ fast
      → PlainAccesses n s b to b' → AreFree fast until n k → Gone sound_moves calls until (over s b k p) (over to b' (later n k) p)
  plain_over fast zero s b k to b' p on (same, is) free =
      let R : Over SoundState Ports → Type 0 = λ y. Gone sound_moves calls until (over s b k p) y in
      subst R (ap (λ (t : SpcState). over t b k p) same ∙ ap (λ (c : HardwareState). over to c k p) is ∙ ap (λ (c : Clock). over to b' c p) (sym (later_none k)))
      (gone_none sound_moves calls until (over s b k p))
  plain_over fast (suc n) s b k to b' p on (quiet, still, rest) free =
      let F : Clock → Type 0 = λ c. IsFree fast until c in
      let here : IsFree fast until k = subst F (later_none k) (free 0 (omega arith)) in
      let s' = moved_on s (given b (next_of s) 0) in
      let b'' = effect b (next_of s) in
      let on' : b''.timer2.on ≡ fast = ap (λ (t : Timer). t.on) still ∙ on in
      let goes = goes_free fast s b k p p 0 on' here (omega arith) (subst (λ (a : Act). IsAnswered calls (stamp_now k) a 0 p p) (sym quiet) (refl, refl)) in
      let one = gone_on sound_moves calls until (over s b k p) (over s b k p) (over s' b'' (clock_on k) p) (gone_none sound_moves calls until (over s b k p)) goes in
      let more = plain_over fast n s' b'' (clock_on k) to b' p on' rest (λ j less. subst F (sym (later_more j k)) (free (suc j) (omega (arith, less)))) in
      let R : Clock → Type 0 = λ c. Gone sound_moves calls until (over s' b'' (clock_on k) p) (over to b' c p) in
      gone_then sound_moves calls until (over s b k p) (over s' b'' (clock_on k) p) (over to b' (later (suc n) k) p) one (subst R (later_more n k) more)

-- quiet accesses leave timer 2
plain_on : (n : ℕ) (s : SpcState) (b : HardwareState) (to : SpcState) (b' : HardwareState) → PlainAccesses n s b to b' → b'.timer2.on ≡ b.timer2.on
plain_on zero s b to b' (same, is) = ap (λ (c : HardwareState). c.timer2.on) (sym is)
plain_on (suc n) s b to b' (quiet, still, rest) =
    plain_on n (moved_on s (given b (next_of s) 0)) (effect b (next_of s)) to b' rest ∙ ap (λ (t : Timer). t.on) still

module _ {Ports : Type 0} (calls : Calls Ports) (until : ℕ) (k : Clock) (waits : List ℕ) (s : SpcState) (b : HardwareState) (p : Ports) where
  -- no access
  pub run_none : (spc : Spc) (stand : Ports → Type 0) → Stands spc s → stand p → PortRun calls until spc b k 0 (λ to. stand) waits s b p
  run_none spc stand stands now =
      let R : Clock → Type 0 = λ c. Gone sound_moves calls until (over calls until waits s b k p) (over calls until waits s b c p) in
      record { to = s; stands = stands; ports = p; ports_stand = now; gone = subst R (sym (later_none k)) (gone_none sound_moves calls until (over calls until waits s b k p)); on = refl }

  -- quiet ones more
  pub run_plainly : (x y : Spc) (c d : HardwareState) (l m n most : ℕ) (stand : Ports → Type 0) (run : PortRun calls until x c k l (λ to. stand) waits s b p)
      → HasRun y d run.to c m → l + m ≡ n → n ≤ most → AreFree b.timer2.on until most k → PortRun calls until y d k n (λ to. stand) waits s b p
  run_plainly x y c d l m n most stand run more sum few free =
      let there = plain_over calls until waits b.timer2.on m run.to c (later l k) more.to d run.ports run.on more.run (free_left b.timer2.on until l m most k (omega (arith, sum, few)) free) in
      let R : Clock → Type 0 = λ j. Gone sound_moves calls until (over calls until waits run.to c (later l k) run.ports) (over calls until waits more.to d j run.ports) in
      record {
        to = more.to;
        stands = more.stands;
        ports = run.ports;
        ports_stand = run.ports_stand;
        gone = gone_then sound_moves calls until (over calls until waits s b k p) (over calls until waits run.to c (later l k) run.ports) (over calls until waits more.to d (later n k) run.ports)
            run.gone (subst R (later_then l m k ∙ ap (λ (j : ℕ). later j k) sum) there);
        on = plain_on m run.to c more.to d more.run ∙ run.on;
      }

  -- one of any kind more
  pub run_made : (x y : Spc) (c d : HardwareState) (at l n : ℕ) (stood stand : Ports → Type 0) (run : PortRun calls until x c k l (λ to. stood) waits s b p)
      → HasMade calls at y c d stand run.to run.ports → at ≡ stamp_now (later l k) → l + 1 ≡ n → IsFree b.timer2.on until (later l k) → PortRun calls until y d k n (λ to. stand) waits s b p
  run_made x y c d at l n stood stand run made is sum free =
      let next = moved_on run.to (given c (next_of run.to) made.got) in
      let on : (effect c (next_of run.to)).timer2.on ≡ b.timer2.on = ap (λ (e : HardwareState). e.timer2.on) made.leaves ∙ made.on ∙ run.on in
      let answered = subst (λ (t : ℕ). IsAnswered calls t (act_of (next_of run.to)) made.got run.ports made.ports) is made.answered in
      let goes = goes_free calls until waits b.timer2.on run.to c (later l k) run.ports made.ports made.got on free made.small answered in
      let one = gone_on sound_moves calls until (over calls until waits s b k p) (over calls until waits run.to c (later l k) run.ports)
      (over calls until waits next (effect c (next_of run.to)) (clock_on (later l k)) made.ports) run.gone goes in
      let R : Over SoundState Ports → Type 0 = λ z. Gone sound_moves calls until (over calls until waits s b k p) z in
      let then_is : clock_on (later l k) ≡ later n k = ap (λ (j : ℕ). record k { cycle = j }) (omega (arith, sum)) in
      record {
        to = next;
        stands = made.processor;
        ports = made.ports;
        ports_stand = made.ports_stand;
        gone = subst R (ap (λ (e : HardwareState). over calls until waits next e (clock_on (later l k)) made.ports) made.leaves ∙ ap (λ (j : Clock). over calls until waits next d j made.ports) then_is) one;
        on = made.on ∙ run.on;
      }

  -- and the next one was refused
  pub run_held : (x : Spc) (c : HardwareState) (at l : ℕ) (stood stand : Ports → Type 0) (run : PortRun calls until x c k l (λ to. stood) waits s b p)
      → at ≡ stamp_now (later l k) → Leads stood stand (IsRefused calls at (act_of (next_of run.to)))
      → PortRun calls until x c k l (IsHeld calls k l stand) waits s b p
  run_held x c at l stood stand run is refused =
      let held = refused run.ports run.ports_stand in
      record {
        to = run.to;
        stands = run.stands;
        ports = run.ports;
        ports_stand = subst (λ (t : ℕ). HasMoved stand (IsRefused calls t (act_of (next_of run.to)) run.ports)) is held;
        gone = run.gone;
        on = run.on;
      }

-- ---- steps of the sound side

module _ {Ports : Type 0} (calls : Calls Ports) (until : ℕ) (old new : AudioValue) (m : SoundState) (p : Ports) (h : StandsAt old m) (n : ℕ) (clock : new.clock ≡ later n old.clock) where
  -- a run over ports is steps
  pub run_on_way : (stand : Ports → Type 0) (run : PortRun calls until new.processor new.hardware old.clock n (λ to. stand) old.waiting m.processor old.hardware p)
      → IsOnWay sound_moves calls until (StandsAt new) stand old.waiting old.waiting m p
  run_on_way stand run =
      let end : Over SoundState Ports = over calls until old.waiting run.to new.hardware (later n old.clock) run.ports in
      let R : SoundState → Type 0 = λ from. Gone sound_moves calls until (record { own = from; ports = p; waits = old.waiting }) end in
      record {
        to = state_with run.to new.hardware (later n old.clock);
        now_stands = record { processor = run.stands; hardware = refl; clock = clock };
        ports = run.ports;
        ports_stand = run.ports_stand;
        gone = subst R (same_state old m h) run.gone;
      }

  -- and so is one whose next access was refused
  pub run_refused : (fast : Bool) (most cap : ℕ) (stand : Ports → Type 0) → IsFree fast until (later n old.clock)
      → (run : PortRun calls until new.processor new.hardware old.clock n (IsHeld calls old.clock n stand) old.waiting m.processor old.hardware p)
      → HasGone sound_moves calls until most cap (StandsAt new) stand old.waiting old.waiting Refused m p
  run_refused fast most cap stand free run =
      let to = state_with run.to new.hardware (later n old.clock) in
      let moved = run.ports_stand in
      let end : Over SoundState Ports = over calls until old.waiting run.to new.hardware (later n old.clock) run.ports in
      let R : SoundState → Type 0 = λ from. Gone sound_moves calls until (record { own = from; ports = p; waits = old.waiting }) end in
      record {
        to = to;
        now_stands = record { processor = run.stands; hardware = refl; clock = clock };
        ports = moved.to;
        ports_stand = moved.now_stands;
        stopped = record {
          called = run.ports;
          gone = subst R (same_state old m h) run.gone;
          early = free.early;
          refused = subst (λ (a : Act). IsRefused calls (stamp_now (later n old.clock)) a run.ports moved.to) (sym (free_act fast until run.to new.hardware (later n old.clock) free)) moved.led;
        };
      }
