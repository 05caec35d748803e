-- The two theorems on steps that commute: what two sides do by themselves, they do in the serial run.
use Rattle.std.proofs.Common.{◌≡◌, ℕ, zero, suc, ◌+◌, ◌<◌, ◌≤◌, List, ◌++◌, refl, ap, sym, ◌∙◌, subst, ⊎_elim, arith}
use Rattle.std.specs.Prelude.{◌⊎◌}
use Rattle.std.specs.List.{AllByRecursion}
use Rattle.std.proofs.lemmas.Bool.{cases_lt}
use Rattle.snes_defs.specs.declared.region.Region.{Region}
use Rattle.snes_defs.specs.declared.ports.Side.TheVariants.{Console, Sound}
use Rattle.port_entries.specs.Entry.{Entry, entry_stamp, CarryBytes}
use Rattle.port_entries.specs.Window.{IsSettled}
use Rattle.port_entries.proofs.Seen.{settled_later}
use Rattle.side_law.specs.Moves.{Moves, IsLawful}
use Rattle.commute_laws.specs.History.{History}
use Rattle.commute_laws.specs.Heard.{heard_step, after_heard, LooksSettled, StepsBelow, OnLook, IsHeard, RanAlone}
use Rattle.commute_laws.specs.OnRun.{serial_run, IsOnRun, StaysBelow}
use Rattle.commute_laws.proofs.Later.{Advances, on_look, always_on_look, before_next, same_steps}
use Rattle.commute_laws.proofs.Sequences.{one_heard_step, own_each}
use Rattle.commute_laws.proofs.HistoryRun.{run_facts, console_turns, sound_turns}
use Rattle.commute_laws.proofs.HeardRuns.{comes}

module _ {C S : Type 0} (region : Region) (console_valid : C → Type 0) (sound_valid : S → Type 0) (console_most sound_most : ℕ)
    (cm : Moves C) (sm : Moves S)
    (console_lawful : IsLawful region console_valid console_most cm) (sound_lawful : IsLawful region sound_valid sound_most sm)
    (c0 : C) (s0 : S) (c0_valid : console_valid c0) (s0_valid : sound_valid s0) where
  pub console_each : (n : ℕ) → ((serial_run cm sm c0 s0 (suc n)).console ≡ (serial_run cm sm c0 s0 n).console)
      ⊎ Advances region cm (serial_run cm sm c0 s0 n).console (serial_run cm sm c0 s0 (suc n)).console
  console_each = own_each region Console cm sm (λ k. (serial_run cm sm c0 s0 k).console) (λ k. (serial_run cm sm c0 s0 k).sound)
      (console_turns region console_valid sound_valid console_most sound_most cm sm console_lawful sound_lawful c0 s0 c0_valid s0_valid)

  pub sound_each : (n : ℕ) → ((serial_run cm sm c0 s0 (suc n)).sound ≡ (serial_run cm sm c0 s0 n).sound)
      ⊎ Advances region sm (serial_run cm sm c0 s0 n).sound (serial_run cm sm c0 s0 (suc n)).sound
  sound_each = own_each region Sound sm cm (λ k. (serial_run cm sm c0 s0 k).sound) (λ k. (serial_run cm sm c0 s0 k).console)
      (sound_turns region console_valid sound_valid console_most sound_most cm sm console_lawful sound_lawful c0 s0 c0_valid s0_valid)

  -- states on the run are valid
  pub on_run_console : (c : History C) (s : History S) → IsOnRun cm sm c0 s0 c s → console_valid c.now
  on_run_console c s on =
      subst (λ (h : History C). console_valid h.now) on.console_is
      (run_facts region console_valid sound_valid console_most sound_most cm sm console_lawful sound_lawful c0 s0 c0_valid s0_valid on.console_turns).serves.console

  pub on_run_sound : (c : History C) (s : History S) → IsOnRun cm sm c0 s0 c s → sound_valid s.now
  on_run_sound c s on =
      subst (λ (h : History S). sound_valid h.now) on.sound_is
      (run_facts region console_valid sound_valid console_most sound_most cm sm console_lawful sound_lawful c0 s0 c0_valid s0_valid on.sound_turns).serves.sound

  -- two pairs on the run after as many steps are one pair
  pub one_place : (c d : History C) (s t : History S) → IsOnRun cm sm c0 s0 c s → IsOnRun cm sm c0 s0 d t
      → c.steps ≡ d.steps → s.steps ≡ t.steps → (c ≡ d) × (s ≡ t)
  one_place c d s t on off same_c same_s = (
    sym on.console_is
        ∙ same_steps region cm (λ k. (serial_run cm sm c0 s0 k).console) console_each on.console_turns off.console_turns
        (ap (λ (q : History C). q.steps) on.console_is ∙ same_c ∙ ap (λ (q : History C). q.steps) (sym off.console_is))
        ∙ off.console_is,
    sym on.sound_is
        ∙ same_steps region sm (λ k. (serial_run cm sm c0 s0 k).sound) sound_each on.sound_turns off.sound_turns
        (ap (λ (q : History S). q.steps) on.sound_is ∙ same_s ∙ ap (λ (q : History S). q.steps) (sym off.sound_is))
        ∙ off.sound_is,
  )

  -- one step of the console against the beginning of a list that the sound side comes to
  pub console_heard : (c : History C) (s : History S) → IsOnRun cm sm c0 s0 c s
      → (heard whole : List Entry) (upto : ℕ) → IsHeard heard whole upto
      → (rest : List Entry) → s.entries ++ rest ≡ whole → AllByRecursion (λ e. sm.stamp s.now ≤ entry_stamp e) rest
      → OnLook (cm.act c.now) (IsSettled Console (cm.stamp c.now) upto)
      → OnLook (cm.act c.now) (IsSettled Console (cm.stamp c.now) (sm.stamp s.now))
      → IsOnRun cm sm c0 s0 (heard_step Console cm heard c) s × Advances region cm c (heard_step Console cm heard c)
  console_heard c s on heard whole upto all_heard rest joined stamped settled_upto settled =
      let r = one_heard_step region Console cm sm (λ k. (serial_run cm sm c0 s0 k).console) (λ k. (serial_run cm sm c0 s0 k).sound)
      (console_turns region console_valid sound_valid console_most sound_most cm sm console_lawful sound_lawful c0 s0 c0_valid s0_valid)
      on.console_turns on.sound_turns c s heard whole upto on.console_is on.sound_is all_heard rest joined stamped settled_upto settled in
      (record { console_turns = r.0; console_is = r.1; sound_turns = on.sound_turns; sound_is = on.sound_is }, r.2)

  -- and of the sound side
  pub sound_heard : (c : History C) (s : History S) → IsOnRun cm sm c0 s0 c s
      → (heard whole : List Entry) (upto : ℕ) → IsHeard heard whole upto
      → (rest : List Entry) → c.entries ++ rest ≡ whole → AllByRecursion (λ e. cm.stamp c.now ≤ entry_stamp e) rest
      → OnLook (sm.act s.now) (IsSettled Sound (sm.stamp s.now) upto)
      → OnLook (sm.act s.now) (IsSettled Sound (sm.stamp s.now) (cm.stamp c.now))
      → IsOnRun cm sm c0 s0 c (heard_step Sound sm heard s) × Advances region sm s (heard_step Sound sm heard s)
  sound_heard c s on heard whole upto all_heard rest joined stamped settled_upto settled =
      let r = one_heard_step region Sound sm cm (λ k. (serial_run cm sm c0 s0 k).sound) (λ k. (serial_run cm sm c0 s0 k).console)
      (sound_turns region console_valid sound_valid console_most sound_most cm sm console_lawful sound_lawful c0 s0 c0_valid s0_valid)
      on.sound_turns on.console_turns s c heard whole upto on.sound_is on.console_is all_heard rest joined stamped settled_upto settled in
      (record { console_turns = on.console_turns; console_is = on.console_is; sound_turns = r.0; sound_is = r.1 }, r.2)

  -- a step that was made below the end keeps the pair below it
  pub console_below_next : (end : ℕ) (c : History C) (s : History S) → IsOnRun cm sm c0 s0 c s
      → StaysBelow cm sm c0 s0 end c s → cm.stamp c.now < end
      → (next : History C) → next.steps ≡ suc c.steps → StaysBelow cm sm c0 s0 end next s
  console_below_next end c s on below lt next steps = record {
    console = λ n fewer.
        before_next region cm (λ k. (serial_run cm sm c0 s0 k).console) console_each end c.steps on.console_turns below.console
        (ap (λ (q : History C). q.steps) on.console_is)
        (subst (λ (q : History C). cm.stamp q.now < end) (sym on.console_is) lt) n (omega (arith, fewer, steps));
    sound = below.sound;
  }

  pub sound_below_next : (end : ℕ) (c : History C) (s : History S) → IsOnRun cm sm c0 s0 c s
      → StaysBelow cm sm c0 s0 end c s → sm.stamp s.now < end
      → (next : History S) → next.steps ≡ suc s.steps → StaysBelow cm sm c0 s0 end c next
  sound_below_next end c s on below lt next steps = record {
    console = below.console;
    sound = λ n fewer.
        before_next region sm (λ k. (serial_run cm sm c0 s0 k).sound) sound_each end s.steps on.sound_turns below.sound
        (ap (λ (q : History S). q.steps) on.sound_is)
        (subst (λ (q : History S). sm.stamp q.now < end) (sym on.sound_is) lt) n (omega (arith, fewer, steps));
  }

  module _ (console_heard_list sound_heard_list : List Entry) (console_bytes : CarryBytes console_heard_list) (sound_bytes : CarryBytes sound_heard_list)
      (console_upto sound_upto : ℕ) where
    -- what is left of the two runs
    record Left (k l : ℕ) (c : History C) (s : History S) : Type 0 where
      on : IsOnRun cm sm c0 s0 c s
      console_settled : LooksSettled Console cm console_heard_list console_upto k c
      sound_settled : LooksSettled Sound sm sound_heard_list sound_upto l s
      console_all : IsHeard console_heard_list (after_heard Sound sm sound_heard_list l s).entries console_upto
      sound_all : IsHeard sound_heard_list (after_heard Console cm console_heard_list k c).entries sound_upto
      console_published : console_upto ≤ sm.stamp (after_heard Sound sm sound_heard_list l s).now
      sound_published : sound_upto ≤ cm.stamp (after_heard Console cm console_heard_list k c).now

    console_next : (k l : ℕ) (c : History C) (s : History S) → Left (suc k) l c s
        → OnLook (cm.act c.now) (IsSettled Console (cm.stamp c.now) (sm.stamp s.now))
        → Left k l (heard_step Console cm console_heard_list c) s
    console_next k l c s h settled =
        let m = comes region Sound sound_valid sound_most sm sound_lawful sound_heard_list l s sound_bytes (on_run_sound c s h.on) in
        let r = console_heard c s h.on console_heard_list (after_heard Sound sm sound_heard_list l s).entries console_upto
        h.console_all m.later.rest m.later.entries m.later.stamped h.console_settled.0 settled in
        record {
          on = r.0;
          console_settled = h.console_settled.1;
          sound_settled = h.sound_settled;
          console_all = h.console_all;
          sound_all = h.sound_all;
          console_published = h.console_published;
          sound_published = h.sound_published;
        }

    sound_next : (k l : ℕ) (c : History C) (s : History S) → Left k (suc l) c s
        → OnLook (sm.act s.now) (IsSettled Sound (sm.stamp s.now) (cm.stamp c.now))
        → Left k l c (heard_step Sound sm sound_heard_list s)
    sound_next k l c s h settled =
        let m = comes region Console console_valid console_most cm console_lawful console_heard_list k c console_bytes (on_run_console c s h.on) in
        let r = sound_heard c s h.on sound_heard_list (after_heard Console cm console_heard_list k c).entries sound_upto
        h.sound_all m.later.rest m.later.entries m.later.stamped h.sound_settled.0 settled in
        record {
          on = r.0;
          console_settled = h.console_settled;
          sound_settled = h.sound_settled.1;
          console_all = h.console_all;
          sound_all = h.sound_all;
          console_published = h.console_published;
          sound_published = h.sound_published;
        }

    -- the main induction, on the number of steps that are left: the earlier side goes next
    both_run : (fuel k l : ℕ) (c : History C) (s : History S) → k + l ≤ fuel → Left k l c s
        → IsOnRun cm sm c0 s0 (after_heard Console cm console_heard_list k c) (after_heard Sound sm sound_heard_list l s)
    both_run fuel zero zero c s small h = h.on
    both_run zero (suc k) l c s small h = absurd (omega arith)
    both_run zero zero (suc l) c s small h = absurd (omega arith)
    both_run (suc fuel) (suc k) zero c s small h =
        both_run fuel k zero (heard_step Console cm console_heard_list c) s (omega arith)
        (console_next k zero c s h
        (on_look (cm.act c.now) _ _ (λ q. settled_later Console (cm.stamp c.now) console_upto (sm.stamp s.now) q h.console_published) h.console_settled.0))
    both_run (suc fuel) zero (suc l) c s small h =
        both_run fuel zero l c (heard_step Sound sm sound_heard_list s) (omega arith)
        (sound_next zero l c s h
        (on_look (sm.act s.now) _ _ (λ q. settled_later Sound (sm.stamp s.now) sound_upto (cm.stamp c.now) q h.sound_published) h.sound_settled.0))
    both_run (suc fuel) (suc k) (suc l) c s small h =
        ⊎_elim
        (λ lt. both_run fuel (suc k) l c (heard_step Sound sm sound_heard_list s) (omega arith)
        (sound_next (suc k) l c s h (always_on_look (sm.act s.now) _ lt)))
        (λ le. both_run fuel k (suc l) (heard_step Console cm console_heard_list c) s (omega arith)
        (console_next k (suc l) c s h (always_on_look (cm.act c.now) _ le)))
        (cases_lt (sm.stamp s.now) (cm.stamp c.now))

    -- where each of the steps that are left is below an end, the pair stays below it
    record LeftBelow (end k l : ℕ) (c : History C) (s : History S) : Type 0 where
      left : Left k l c s
      console_below : StepsBelow Console cm console_heard_list end k c
      sound_below : StepsBelow Sound sm sound_heard_list end l s
      below : StaysBelow cm sm c0 s0 end c s

    console_next_below : (end k l : ℕ) (c : History C) (s : History S) → LeftBelow end (suc k) l c s
        → OnLook (cm.act c.now) (IsSettled Console (cm.stamp c.now) (sm.stamp s.now))
        → LeftBelow end k l (heard_step Console cm console_heard_list c) s
    console_next_below end k l c s h settled = record {
      left = console_next k l c s h.left settled;
      console_below = h.console_below.1;
      sound_below = h.sound_below;
      below = console_below_next end c s h.left.on h.below h.console_below.0 (heard_step Console cm console_heard_list c) refl;
    }

    sound_next_below : (end k l : ℕ) (c : History C) (s : History S) → LeftBelow end k (suc l) c s
        → OnLook (sm.act s.now) (IsSettled Sound (sm.stamp s.now) (cm.stamp c.now))
        → LeftBelow end k l c (heard_step Sound sm sound_heard_list s)
    sound_next_below end k l c s h settled = record {
      left = sound_next k l c s h.left settled;
      console_below = h.console_below;
      sound_below = h.sound_below.1;
      below = sound_below_next end c s h.left.on h.below h.sound_below.0 (heard_step Sound sm sound_heard_list s) refl;
    }

    both_below : (fuel end k l : ℕ) (c : History C) (s : History S) → k + l ≤ fuel → LeftBelow end k l c s
        → StaysBelow cm sm c0 s0 end (after_heard Console cm console_heard_list k c) (after_heard Sound sm sound_heard_list l s)
    both_below fuel end zero zero c s small h = h.below
    both_below zero end (suc k) l c s small h = absurd (omega arith)
    both_below zero end zero (suc l) c s small h = absurd (omega arith)
    both_below (suc fuel) end (suc k) zero c s small h =
        both_below fuel end k zero (heard_step Console cm console_heard_list c) s (omega arith)
        (console_next_below end k zero c s h
        (on_look (cm.act c.now) _ _ (λ q. settled_later Console (cm.stamp c.now) console_upto (sm.stamp s.now) q h.left.console_published) h.left.console_settled.0))
    both_below (suc fuel) end zero (suc l) c s small h =
        both_below fuel end zero l c (heard_step Sound sm sound_heard_list s) (omega arith)
        (sound_next_below end zero l c s h
        (on_look (sm.act s.now) _ _ (λ q. settled_later Sound (sm.stamp s.now) sound_upto (cm.stamp c.now) q h.left.sound_published) h.left.sound_settled.0))
    both_below (suc fuel) end (suc k) (suc l) c s small h =
        ⊎_elim
        (λ lt. both_below fuel end (suc k) l c (heard_step Sound sm sound_heard_list s) (omega arith)
        (sound_next_below end (suc k) l c s h (always_on_look (sm.act s.now) _ lt)))
        (λ le. both_below fuel end k (suc l) (heard_step Console cm console_heard_list c) s (omega arith)
        (console_next_below end k (suc l) c s h (always_on_look (cm.act c.now) _ le)))
        (cases_lt (sm.stamp s.now) (cm.stamp c.now))

  -- what is left at the start of two runs by themselves
  start_of : (c after_c : History C) (s after_s : History S) (console_clock sound_clock : ℕ)
      → IsOnRun cm sm c0 s0 c s
      → (cr : RanAlone Console cm c after_c after_s.entries sound_clock)
      → (sr : RanAlone Sound sm s after_s after_c.entries console_clock)
      → console_clock ≤ cm.stamp after_c.now → sound_clock ≤ sm.stamp after_s.now
      → Left cr.heard sr.heard cr.bytes sr.bytes cr.upto sr.upto cr.ran.steps sr.ran.steps c s
  start_of c after_c s after_s console_clock sound_clock on cr sr console_le sound_le =
      let e = cr.ran.after_is in
      let f = sr.ran.after_is in
      record {
        on = on;
        console_settled = cr.ran.settled;
        sound_settled = sr.ran.settled;
        console_all = subst (λ (q : History S). IsHeard cr.heard q.entries cr.upto) (sym f) cr.all_heard;
        sound_all = subst (λ (q : History C). IsHeard sr.heard q.entries sr.upto) (sym e) sr.all_heard;
        console_published = subst (λ (q : History S). cr.upto ≤ sm.stamp q.now) (sym f) (omega (arith, cr.published));
        sound_published = subst (λ (q : History C). sr.upto ≤ cm.stamp q.now) (sym e) (omega (arith, sr.published));
      }

  -- both sides ran by themselves from a pair on the run: the pair that they came to is on the run
  pub heard_on_run : (c after_c : History C) (s after_s : History S) (console_clock sound_clock : ℕ)
      → IsOnRun cm sm c0 s0 c s
      → RanAlone Console cm c after_c after_s.entries sound_clock
      → RanAlone Sound sm s after_s after_c.entries console_clock
      → console_clock ≤ cm.stamp after_c.now → sound_clock ≤ sm.stamp after_s.now
      → IsOnRun cm sm c0 s0 after_c after_s
  heard_on_run c after_c s after_s console_clock sound_clock on cr sr console_le sound_le =
      subst (λ (q : History C). IsOnRun cm sm c0 s0 q after_s) cr.ran.after_is
      (subst (λ (q : History S). IsOnRun cm sm c0 s0 (after_heard Console cm cr.heard cr.ran.steps c) q) sr.ran.after_is
      (both_run cr.heard sr.heard cr.bytes sr.bytes cr.upto sr.upto (cr.ran.steps + sr.ran.steps) cr.ran.steps sr.ran.steps c s (omega arith)
      (start_of c after_c s after_s console_clock sound_clock on cr sr console_le sound_le)))

  -- and it stays below an end below which each of those steps was made
  pub heard_below : (end : ℕ) (c after_c : History C) (s after_s : History S) (console_clock sound_clock : ℕ)
      → IsOnRun cm sm c0 s0 c s
      → (cr : RanAlone Console cm c after_c after_s.entries sound_clock)
      → (sr : RanAlone Sound sm s after_s after_c.entries console_clock)
      → console_clock ≤ cm.stamp after_c.now → sound_clock ≤ sm.stamp after_s.now
      → StepsBelow Console cm cr.heard end cr.ran.steps c → StepsBelow Sound sm sr.heard end sr.ran.steps s
      → StaysBelow cm sm c0 s0 end c s
      → StaysBelow cm sm c0 s0 end after_c after_s
  heard_below end c after_c s after_s console_clock sound_clock on cr sr console_le sound_le console_below sound_below below =
      subst (λ (q : History C). StaysBelow cm sm c0 s0 end q after_s) cr.ran.after_is
      (subst (λ (q : History S). StaysBelow cm sm c0 s0 end (after_heard Console cm cr.heard cr.ran.steps c) q) sr.ran.after_is
      (both_below cr.heard sr.heard cr.bytes sr.bytes cr.upto sr.upto (cr.ran.steps + sr.ran.steps) end cr.ran.steps sr.ran.steps c s (omega arith)
      (record {
        left = start_of c after_c s after_s console_clock sound_clock on cr sr console_le sound_le;
        console_below = console_below;
        sound_below = sound_below;
        below = below;
      })))
