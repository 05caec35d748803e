-- The serial run of two machines with their histories: its bytes at the ports are last values, so
-- each turn is a step of one side against the other's entries so far.
use Rattle.std.proofs.Common.{◌≡◌, ℕ, zero, suc, ◌<◌, List, [], ◌∷◌, get_or, refl, ap, sym, ◌∙◌, subst, arith}
use Rattle.std.proofs.lemmas.Bool.{le-leb, lt-ltb}
use Rattle.snes_defs.specs.declared.region.Region.{Region}
use Rattle.snes_defs.specs.declared.ports.Side.{Side}
use Rattle.snes_defs.specs.declared.ports.Side.TheVariants.{Console, Sound}
use Rattle.snes_defs.specs.declared.ports.Act.{Act}
use Rattle.snes_defs.specs.declared.ports.Act.TheVariants.{Quiet, Read, Write, Clear}
use Rattle.port_entries.specs.Entry.{Entry, entry_stamp}
use Rattle.port_entries.specs.LastValue.{last_value}
use Rattle.port_entries.proofs.Seen.{seen_back}
use Rattle.side_law.specs.Moves.{Moves, IsLawful, IsAtPorts}
use Rattle.side_law.specs.Serial.{SerialState, got_of, console_step, sound_step, turn}
use Rattle.commute_laws.specs.History.{History, history_of, history_after, recorded}
use Rattle.commute_laws.specs.Heard.{heard_got}
use Rattle.commute_laws.specs.OnRun.{serial_run}
use Rattle.commute_laws.proofs.Ports.{Shows, incoming_step, outgoing_step, All_map}
use Rattle.side_law.proofs.SerialKeeps.{IsServing, serving_at_first, got_small, TurnOf, by_console, by_sound, turn_of, turn_console, turn_sound, turn_serves}
use Rattle.commute_laws.proofs.Later.{Advances, step_advances}
use Rattle.commute_laws.proofs.Sequences.{TurnAt, own_turn, other_turn}

-- the machine that records its history keeps the laws
pub recorded_lawful : {State : Type 0} (region : Region) (valid : State → Type 0) (most : ℕ) (moves : Moves State)
    → IsLawful region valid most moves → IsLawful region (λ (h : History State). valid h.now) most (recorded moves)
recorded_lawful region valid most moves lawful = record {
  at_ports = λ h ok. lawful.at_ports h.now ok;
  stays_valid = λ h got ok small. lawful.stays_valid h.now got ok small;
  rises = λ h got ok small. lawful.rises h.now got ok small;
  rises_at_most = λ h got ok small. lawful.rises_at_most h.now got ok small;
  emits_at_most = λ h got ok small. lawful.emits_at_most h.now got ok small;
}

-- what a step gets at the ports is what it hears
got_is_heard : (side : Side) (own others : List Entry) (at : ℕ) (act : Act) (bytes : List ℕ)
    → Shows side own others at bytes → IsAtPorts act → got_of act bytes ≡ heard_got side own others at act
got_is_heard side own others at Quiet bytes h ports = refl
got_is_heard side own others at (Read port) bytes h ports = h.values port ports
got_is_heard side own others at (Write port byte) bytes h ports = refl
got_is_heard side own others at (Clear mask) bytes h ports = refl

shows_at_first : (side : Side) (at : ℕ) → Shows side [] [] at (0 ∷ 0 ∷ 0 ∷ 0 ∷ [])
shows_at_first side at = record { four = refl; seen = tt; values = values }
  where
    values : (port : ℕ) → port < 4 → get_or (0 ∷ 0 ∷ 0 ∷ 0 ∷ []) port 0 ≡ last_value side [] port at []
    values zero lt = refl
    values (suc zero) lt = refl
    values (suc (suc zero)) lt = refl
    values (suc (suc (suc zero))) lt = refl
    values (suc (suc (suc (suc port)))) lt = absurd (omega arith)

module _ {C S : Type 0} (region : Region) (console_valid : C → Type 0) (sound_valid : S → Type 0) (console_most sound_most : ℕ)
    (cm : Moves C) (sm : Moves S)
    (console_lawful : IsLawful region console_valid console_most cm) (sound_lawful : IsLawful region sound_valid sound_most sm) where
  -- what holds at each moment of the run
  pub record RunFacts (w : SerialState (History C) (History S)) : Type 0 where
    pub serves : IsServing (λ (h : History C). console_valid h.now) (λ (h : History S). sound_valid h.now) w
    pub to_console : Shows Console w.console.entries w.sound.entries (cm.stamp w.console.now) w.to_console
    pub to_sound : Shows Sound w.sound.entries w.console.entries (sm.stamp w.sound.now) w.to_sound

  console_advances : (w : SerialState (History C) (History S)) → RunFacts w
      → Advances region cm w.console (console_step (recorded cm) (recorded sm) w).console
  console_advances w h =
      step_advances cm region console_valid console_most console_lawful w.console (got_of (cm.act w.console.now) w.to_console)
      h.serves.console (got_small (cm.act w.console.now) w.to_console h.serves.to_console)

  sound_advances : (w : SerialState (History C) (History S)) → RunFacts w
      → Advances region sm w.sound (sound_step (recorded cm) (recorded sm) w).sound
  sound_advances w h =
      step_advances sm region sound_valid sound_most sound_lawful w.sound (got_of (sm.act w.sound.now) w.to_sound)
      h.serves.sound (got_small (sm.act w.sound.now) w.to_sound h.serves.to_sound)

  turn_keeps_serving : (w : SerialState (History C) (History S)) → RunFacts w
      → IsServing (λ (h : History C). console_valid h.now) (λ (h : History S). sound_valid h.now) (turn (recorded cm) (recorded sm) w)
  turn_keeps_serving w h =
      turn_serves region (λ (x : History C). console_valid x.now) (λ (x : History S). sound_valid x.now) console_most sound_most
      (recorded cm) (recorded sm)
      (recorded_lawful region console_valid console_most cm console_lawful) (recorded_lawful region sound_valid sound_most sm sound_lawful)
      w h.serves

  turn_keeps : (w : SerialState (History C) (History S)) → RunFacts w → RunFacts (turn (recorded cm) (recorded sm) w)
  turn_keeps w h = go (turn_of (recorded cm) (recorded sm) w)
    where
      go : TurnOf (recorded cm) (recorded sm) w → RunFacts (turn (recorded cm) (recorded sm) w)
      go (by_console le e) =
          let same = sym (turn_console (recorded cm) (recorded sm) w e) in
          record {
            serves = turn_keeps_serving w h;
            to_console = subst (λ (v : SerialState (History C) (History S)). Shows Console v.console.entries v.sound.entries (cm.stamp v.console.now) v.to_console) same
                (incoming_step Console w.console.entries w.sound.entries (cm.stamp w.console.now)
                (cm.stamp (console_step (recorded cm) (recorded sm) w).console.now) (cm.act w.console.now) w.to_console
                h.to_console (omega (arith, (console_advances w h).rises)));
            to_sound = subst (λ (v : SerialState (History C) (History S)). Shows Sound v.sound.entries v.console.entries (sm.stamp v.sound.now) v.to_sound) same
                (outgoing_step Sound w.sound.entries w.console.entries (sm.stamp w.sound.now) (cm.stamp w.console.now)
                (cm.act w.console.now) w.to_sound h.to_sound (console_lawful.at_ports w.console.now h.serves.console)
                (le-leb (cm.stamp w.console.now) (sm.stamp w.sound.now) le)
                (All_map _ _ (λ x seen. seen_back Console (entry_stamp x) (cm.stamp w.console.now) seen) w.sound.entries h.to_console.seen));
          }
      go (by_sound lt e) =
          let same = sym (turn_sound (recorded cm) (recorded sm) w e) in
          record {
            serves = turn_keeps_serving w h;
            to_console = subst (λ (v : SerialState (History C) (History S)). Shows Console v.console.entries v.sound.entries (cm.stamp v.console.now) v.to_console) same
                (outgoing_step Console w.console.entries w.sound.entries (cm.stamp w.console.now) (sm.stamp w.sound.now)
                (sm.act w.sound.now) w.to_console h.to_console (sound_lawful.at_ports w.sound.now h.serves.sound)
                (lt-ltb (sm.stamp w.sound.now) (cm.stamp w.console.now) lt)
                (All_map _ _ (λ x seen. seen_back Sound (entry_stamp x) (sm.stamp w.sound.now) seen) w.console.entries h.to_sound.seen));
            to_sound = subst (λ (v : SerialState (History C) (History S)). Shows Sound v.sound.entries v.console.entries (sm.stamp v.sound.now) v.to_sound) same
                (incoming_step Sound w.sound.entries w.console.entries (sm.stamp w.sound.now)
                (sm.stamp (sound_step (recorded cm) (recorded sm) w).sound.now) (sm.act w.sound.now) w.to_sound
                h.to_sound (omega (arith, (sound_advances w h).rises)));
          }

  module _ (c : C) (s : S) (c_valid : console_valid c) (s_valid : sound_valid s) where
    pub run_facts : (n : ℕ) → RunFacts (serial_run cm sm c s n)
    run_facts zero = record {
      serves = serving_at_first (λ (h : History C). console_valid h.now) (λ (h : History S). sound_valid h.now) (history_of c) (history_of s) c_valid s_valid;
      to_console = shows_at_first Console (cm.stamp c);
      to_sound = shows_at_first Sound (sm.stamp s);
    }
    run_facts (suc n) = turn_keeps (serial_run cm sm c s n) (run_facts n)

    -- the run, seen from the console
    pub console_turns : (n : ℕ)
        → TurnAt region Console cm sm (λ k. (serial_run cm sm c s k).console) (λ k. (serial_run cm sm c s k).sound) n
    console_turns n = go (turn_of (recorded cm) (recorded sm) (serial_run cm sm c s n))
      where
        go : TurnOf (recorded cm) (recorded sm) (serial_run cm sm c s n)
            → TurnAt region Console cm sm (λ k. (serial_run cm sm c s k).console) (λ k. (serial_run cm sm c s k).sound) n
        go (by_console le e) =
            let same = turn_console (recorded cm) (recorded sm) (serial_run cm sm c s n) e in
            own_turn
            (le-leb (cm.stamp (serial_run cm sm c s n).console.now) (sm.stamp (serial_run cm sm c s n).sound.now) le)
            (ap (λ (v : SerialState (History C) (History S)). v.console) same
            ∙ ap (history_after cm (serial_run cm sm c s n).console)
            (got_is_heard Console (serial_run cm sm c s n).console.entries (serial_run cm sm c s n).sound.entries
            (cm.stamp (serial_run cm sm c s n).console.now) (cm.act (serial_run cm sm c s n).console.now) (serial_run cm sm c s n).to_console
            (run_facts n).to_console (console_lawful.at_ports (serial_run cm sm c s n).console.now (run_facts n).serves.console)))
            (subst (λ (v : SerialState (History C) (History S)). Advances region cm (serial_run cm sm c s n).console v.console) (sym same)
            (console_advances (serial_run cm sm c s n) (run_facts n)))
            (ap (λ (v : SerialState (History C) (History S)). v.sound) same)
        go (by_sound lt e) =
            let same = turn_sound (recorded cm) (recorded sm) (serial_run cm sm c s n) e in
            other_turn
            (lt-ltb (sm.stamp (serial_run cm sm c s n).sound.now) (cm.stamp (serial_run cm sm c s n).console.now) lt)
            (ap (λ (v : SerialState (History C) (History S)). v.console) same)
            (subst (λ (v : SerialState (History C) (History S)). Advances region sm (serial_run cm sm c s n).sound v.sound) (sym same)
            (sound_advances (serial_run cm sm c s n) (run_facts n)))

    -- the run, seen from the sound side
    pub sound_turns : (n : ℕ)
        → TurnAt region Sound sm cm (λ k. (serial_run cm sm c s k).sound) (λ k. (serial_run cm sm c s k).console) n
    sound_turns n = go (turn_of (recorded cm) (recorded sm) (serial_run cm sm c s n))
      where
        go : TurnOf (recorded cm) (recorded sm) (serial_run cm sm c s n)
            → TurnAt region Sound sm cm (λ k. (serial_run cm sm c s k).sound) (λ k. (serial_run cm sm c s k).console) n
        go (by_sound lt e) =
            let same = turn_sound (recorded cm) (recorded sm) (serial_run cm sm c s n) e in
            own_turn
            (lt-ltb (sm.stamp (serial_run cm sm c s n).sound.now) (cm.stamp (serial_run cm sm c s n).console.now) lt)
            (ap (λ (v : SerialState (History C) (History S)). v.sound) same
            ∙ ap (history_after sm (serial_run cm sm c s n).sound)
            (got_is_heard Sound (serial_run cm sm c s n).sound.entries (serial_run cm sm c s n).console.entries
            (sm.stamp (serial_run cm sm c s n).sound.now) (sm.act (serial_run cm sm c s n).sound.now) (serial_run cm sm c s n).to_sound
            (run_facts n).to_sound (sound_lawful.at_ports (serial_run cm sm c s n).sound.now (run_facts n).serves.sound)))
            (subst (λ (v : SerialState (History C) (History S)). Advances region sm (serial_run cm sm c s n).sound v.sound) (sym same)
            (sound_advances (serial_run cm sm c s n) (run_facts n)))
            (ap (λ (v : SerialState (History C) (History S)). v.console) same)
        go (by_console le e) =
            let same = turn_console (recorded cm) (recorded sm) (serial_run cm sm c s n) e in
            other_turn
            (le-leb (cm.stamp (serial_run cm sm c s n).console.now) (sm.stamp (serial_run cm sm c s n).sound.now) le)
            (ap (λ (v : SerialState (History C) (History S)). v.sound) same)
            (subst (λ (v : SerialState (History C) (History S)). Advances region cm (serial_run cm sm c s n).console v.console) (sym same)
            (console_advances (serial_run cm sm c s n) (run_facts n)))
