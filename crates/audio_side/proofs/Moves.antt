use Rattle.std.proofs.Common.{◌≡◌, ◌∙◌, ℕ, false, ◌&&◌, ◌++◌, nat_le, List, refl, sym, ap, subst}
use Rattle.side_law.specs.Moves.{taken}
use Rattle.spc_tables.specs.declared.access.SpcAccess.{SpcAccess}
use Rattle.spc_tables.specs.declared.access.SpcAccess.TheVariants as Access
use Rattle.spc700.specs.Instruction.{SpcState, moved_on, next_of}
use Rattle.spc700.specs.Stands.{Stands}
use Rattle.audio_side.specs.HardwareState.{HardwareState}
use Rattle.audio_side.specs.Clock.{Clock, gone_on, is_reset_due}
use Rattle.audio_side.specs.Effect.{act_of, act_of_load, effect, emitted, given, loaded, passed, register_shown}
use Rattle.audio_side.specs.Sound.{AudioValue, SoundState, StandsAt, hardware_before_end, processor_after, sound_act, sound_next}
use Rattle.audio_side.specs.SoundLaws.{by_test}

-- an access that takes no byte of a port doesn't look at the one offered
loaded_taken : (b : HardwareState) (at got : ℕ) → loaded b at (taken (act_of_load at) got) ≡ loaded b at got
unfolding loaded register_shown act_of_load
loaded_taken b at got = by_test (nat_le 0xF4 at && nat_le at 0xF7) (λ e. rw e refl) (λ e. rw e refl)

given_taken : (b : HardwareState) (a : SpcAccess) (got : ℕ) → given b a (taken (act_of a) got) ≡ given b a got
given_taken b (Access.Fetch at) got = loaded_taken b at got
given_taken b (Access.Read at) got = loaded_taken b at got
given_taken b (Access.Write at byte) got = refl
given_taken b Access.Inner got = refl

processor_taken : (m : SoundState) (got : ℕ) → processor_after m (taken (sound_act m) got) ≡ processor_after m got
unfolding processor_after sound_act
processor_taken m got =
    by_test (is_reset_due m.clock) (λ e. rw e refl) (λ e. rw e (ap (moved_on m.processor) (given_taken m.hardware (next_of m.processor) got)))

-- the state of a value, by the processor that it stands for
abbrev pub state_with : SpcState → HardwareState → Clock → SoundState
state_with s b k = record { processor = s; hardware = b; clock = k }

pub same_state : (x : AudioValue) (m : SoundState) → StandsAt x m → state_with m.processor x.hardware x.clock ≡ m
same_state x m h =
    ap (λ (b : HardwareState). state_with m.processor b x.clock) h.hardware ∙ ap (λ (k : Clock). state_with m.processor m.hardware k) h.clock

pub next_stands : (old new : AudioValue) (m : SoundState) (got : ℕ) → StandsAt old m
    → ((s : SpcState) → Stands old.processor s → Stands new.processor (processor_after (record { processor = s; hardware = old.hardware; clock = old.clock }) got))
    → ((s : SpcState) → Stands old.processor s → new.hardware ≡ passed old.clock.cycle (hardware_before_end (record { processor = s; hardware = old.hardware; clock = old.clock })))
    → new.clock ≡ gone_on old.clock → StandsAt new (sound_next m (taken (sound_act m) got))
next_stands old new m got h p b k =
    let e : state_with m.processor old.hardware old.clock ≡ m = same_state old m h in
    record {
      processor = subst (λ (q : SpcState). Stands new.processor q) (sym (processor_taken m got)) (subst (λ (n : SoundState). Stands new.processor (processor_after n got)) e (p m.processor h.processor));
      hardware = subst (λ (n : SoundState). new.hardware ≡ passed n.clock.cycle (hardware_before_end n)) e (b m.processor h.processor);
      clock = k ∙ ap gone_on h.clock;
    }

pub bytes_emitted : (old : AudioValue) (more : List ℕ) (m : SoundState) → StandsAt old m
    → ((s : SpcState) → Stands old.processor s → more ≡ old.waiting ++ emitted old.clock.cycle (hardware_before_end (record { processor = s; hardware = old.hardware; clock = old.clock })))
    → more ≡ old.waiting ++ emitted m.clock.cycle (hardware_before_end m)
bytes_emitted old more m h b =
    subst (λ (n : SoundState). more ≡ old.waiting ++ emitted n.clock.cycle (hardware_before_end n)) (same_state old m h) (b m.processor h.processor)

pub act_stands : (old : AudioValue) (m : SoundState) → StandsAt old m → sound_act (record { processor = m.processor; hardware = old.hardware; clock = old.clock }) ≡ sound_act m
act_stands old m h = ap sound_act (same_state old m h)

-- ---- a step without a reset

pub not_reset_processor : (s : SpcState) (b : HardwareState) (k : Clock) (got : ℕ) → is_reset_due k ≡ false → processor_after (state_with s b k) got ≡ moved_on s (given b (next_of s) got)
unfolding processor_after
not_reset_processor s b k got e = rw e refl

pub not_reset_hardware : (s : SpcState) (b : HardwareState) (k : Clock) → is_reset_due k ≡ false → hardware_before_end (state_with s b k) ≡ effect b (next_of s)
unfolding hardware_before_end
not_reset_hardware s b k e = rw e refl
