-- The serial run of a path, and of the path that goes on by a span or has a reset more: up to the end of the first they
-- are one run.
use Rattle.std.proofs.Common.{◌≡◌, ℕ, zero, suc, ◌+◌, ◌*◌, ◌-◌, ◌<◌, ◌≤◌, Bool, true, false, List, [], ◌∷◌, ◌++◌, drop, replicate, lit<, refl, ap, sym, ◌∙◌, subst, ⊎_elim, arith, ltb}
use Rattle.std.specs.Prelude.{if◌then◌else◌, nat_le, ◌==◌, ◌||◌}
use Rattle.std.proofs.lemmas.Bool.{cases_lt}
use Rattle.std.proofs.lemmas.Bool.Decides.{nat_tests}
use Rattle.snes_defs.specs.declared.ports.Act.{Act}
use Rattle.snes_defs.specs.declared.ports.Side.TheVariants.{Console}
use Rattle.snes_defs.specs.declared.region.Region.{Region}
use Rattle.snes_defs.specs.declared.profile.Profile.{Profile}
use Rattle.snes_defs.specs.declared.profile.Profile.TheVariants.{First}
use Rattle.clock_ratio.specs.Stamp.{rate_of, end_stamp_of}
use Rattle.snes_defs.specs.declared.cart.Job.{Job}
use Rattle.snes_defs.specs.declared.script.Span.{Span}
use Rattle.snes_defs.specs.Script.{Script, frames_of, is_reset, pads_at}
use Rattle.side_law.specs.Serial.{SerialState, got_of, incoming_after, outgoing_after, is_console_first, console_step, sound_step, turn, console_emits, sound_emits}
use Rattle.side_law.specs.SerialRun.{after_turns, console_output, sound_output, IsPast, IsUnderway}
use Rattle.side_law.proofs.SerialKeeps.{TurnOf, by_console, by_sound, turn_of, turn_console, turn_sound}
use Rattle.snes_defs.specs.declared.cart.Cart.{Cart}
use Rattle.io_math.specs.declared.registers.IoRegisters.{IoRegisters}
use Rattle.io_math.specs.Registers.{framed, registers_start}
use Rattle.io_math.specs.Words.{with_words}
use Rattle.console_bus.specs.declared.cart_board.CartBoard.{CartBoard}
use Rattle.console_bus.specs.BusState.{board_of, memory_start}
use Rattle.console_bus.specs.Playing.{lengthened, reset_in}
use Rattle.console_steps.specs.ConsoleState.{ConsoleState, act_of, due_of, due_clocks, console_after, bytes_after, console_moves}
use Rattle.console_machine.specs.SideLaws.{due_step}
use Rattle.console_machine.specs.Playing.{console_played, console_pressed}
use Rattle.audio_side.specs.HardwareState.{table_of, hardware_at_start}
use Rattle.audio_side.specs.Clock.{is_reset_due, reset_frames}
use Rattle.audio_side.specs.Sound.{SoundState, sound_moves, sound_next}
use Rattle.audio_side.specs.Playing.{sound_pressed}
use Rattle.plan_drive.specs.Paths.{Path, MayPress, longer, pressed, path_script}
use Rattle.snapshot.specs.Path.{start_of, end_of_path, console_of_path}
use Rattle.snapshot.proofs.Numbers.{longest, some_lines, early_clock, frame_before, frame_from, ends_within, ends_rise}
use Rattle.snapshot.proofs.Clocks.{IsTimed, Agree, Alike, console_put, words_of, nothing_harmless, words_harmless}
use Rattle.snapshot.proofs.ConsoleStates.{IsOwn, step_own, step_alike, step_act, clocks_timed, effect_timed}
use Rattle.snapshot.proofs.Sounding.{step_roms, sound_put, put_due, put_act, put_next, put_bytes}
use Rattle.snapshot.proofs.Resets.{other_frame, last_frame, rise_last, frames_pressed}

-- ---- what a serial run keeps

pub record IsOf (region : Region) (board : CartBoard) (script : Script) (rom boot table : List ℕ) (w : SerialState ConsoleState SoundState) : Type 0 where
  pub own : IsOwn board script rom w.console.rest
  pub timed : IsTimed region w.console
  pub boot_is : w.sound.hardware.boot ≡ boot
  pub table_is : w.sound.hardware.table ≡ table
  pub resets_are : w.sound.clock.resets ≡ reset_frames script.resets 36001
  pub room_is : w.sound.clock.room ≡ script.room
  pub sound_region : w.sound.clock.region ≡ region

stamp_is : (region : Region) (w : ConsoleState) → IsTimed region w → console_moves.stamp w ≡ rate_of region Console * w.clock
stamp_is region w t = ap (λ r. rate_of r Console * w.clock) t.region

step_timed : (region : Region) (w : ConsoleState) (got : ℕ) → IsTimed region w → rate_of region Console * w.clock < longest region → IsTimed region (console_after w (due_of w) got)
step_timed region w got t lt =
    let few = (due_step (due_of w) w.rest.io.fast).most in
    let early = early_clock region w.clock lt in
    clocks_timed region (due_clocks (due_of w) w.rest.io.fast) _ (effect_timed region w (due_of w) got t) (omega (arith, few, early))

module _ (region : Region) (board : CartBoard) (script : Script) (rom boot table : List ℕ) where
  console_of : (w : SerialState ConsoleState SoundState) → IsOf region board script rom boot table w → rate_of region Console * w.console.clock < longest region
      → IsOf region board script rom boot table (console_step console_moves sound_moves w)
  console_of w h lt =
      let got = got_of (act_of w.console.rest (due_of w.console)) w.to_console in
      record {
        own = step_own board script rom w.console (due_of w.console) got h.own;
        timed = step_timed region w.console got h.timed lt;
        boot_is = h.boot_is;
        table_is = h.table_is;
        resets_are = h.resets_are;
        room_is = h.room_is;
        sound_region = h.sound_region;
      }

  sound_of : (w : SerialState ConsoleState SoundState) → IsOf region board script rom boot table w → IsOf region board script rom boot table (sound_step console_moves sound_moves w)
  sound_of w h =
      let k = step_roms w.sound (got_of (sound_moves.act w.sound) w.to_sound) in
      record { own = h.own; timed = h.timed; boot_is = k.boot ∙ h.boot_is; table_is = k.table ∙ h.table_is; resets_are = h.resets_are; room_is = h.room_is; sound_region = h.sound_region }

  -- the console steps before the end alone
  pub console_early : (end : ℕ) (w : SerialState ConsoleState SoundState) → ¬ IsPast console_moves sound_moves end w → console_moves.stamp w.console ≤ sound_moves.stamp w.sound → console_moves.stamp w.console < end
  console_early end w short le =
      ⊎_elim (λ lt. lt) (λ ge. absurd (short (record { console = ge; sound = omega (arith, ge, le) }))) (cases_lt (console_moves.stamp w.console) end)

  -- the sound side too
  pub sound_early : (end : ℕ) (w : SerialState ConsoleState SoundState) → ¬ IsPast console_moves sound_moves end w → sound_moves.stamp w.sound < console_moves.stamp w.console → sound_moves.stamp w.sound < end
  sound_early end w short lt =
      ⊎_elim (λ l. l) (λ ge. absurd (short (record { console = omega (arith, ge, lt); sound = ge }))) (cases_lt (sound_moves.stamp w.sound) end)

  pub turn_keeps : (end : ℕ) (w : SerialState ConsoleState SoundState) → end ≤ longest region → IsOf region board script rom boot table w → ¬ IsPast console_moves sound_moves end w
      → IsOf region board script rom boot table (turn console_moves sound_moves w)
  turn_keeps end w few h short = go (turn_of console_moves sound_moves w)
    where
      go : TurnOf console_moves sound_moves w → IsOf region board script rom boot table (turn console_moves sound_moves w)
      go (by_console le e) =
          let early = console_early end w short le in
          let is = stamp_is region w.console h.timed in
          subst (IsOf region board script rom boot table) (sym (turn_console console_moves sound_moves w e)) (console_of w h (omega (arith, early, is, few)))
      go (by_sound lt e) = subst (IsOf region board script rom boot table) (sym (turn_sound console_moves sound_moves w e)) (sound_of w h)

  pub turns_keep : (end : ℕ) (w : SerialState ConsoleState SoundState) (n : ℕ) → end ≤ longest region → IsOf region board script rom boot table w
      → ((k : ℕ) → k < n → ¬ IsPast console_moves sound_moves end (after_turns console_moves sound_moves w k))
      → IsOf region board script rom boot table (after_turns console_moves sound_moves w n)
  turns_keep end w zero few h short = h
  turns_keep end w (suc n) few h short =
      turn_keeps end (after_turns console_moves sound_moves w n) few (turns_keep end w n few h (λ k lt. short k (omega (arith, lt)))) (short n (omega arith))

-- ---- two serial consoles, of which the second plays a script that goes on, or has a reset more

module _ (region : Region) (f : ℕ) (small : f ≤ 36000) (s t : Script) (agree : Agree f s t) where
  fewer : f < 65535
  fewer = omega (arith, small)

  pub record SameRun (a b : SerialState ConsoleState SoundState) : Type 0 where
    pub console : Alike f s t agree a.console b.console
    pub else_same : b ≡ record a { console = b.console; sound = sound_put t a.sound }

  pub alike_stamp : (w x : ConsoleState) → Alike f s t agree w x → console_moves.stamp x ≡ console_moves.stamp w
  alike_stamp w x h =
      ⊎_elim (λ lt. ap console_moves.stamp (h.before lt)) (λ ge. ap console_moves.stamp (h.begun (omega (arith, ge, h.within)))) (cases_lt w.rest.frame f)

  -- frame f begins at the end
  pub frame_early : (w : ConsoleState) → IsTimed region w → console_moves.stamp w < end_stamp_of region f → w.rest.frame < f
  frame_early w timed lt =
      let is = stamp_is region w timed in
      frame_before region f w.rest.frame w.rest.beam.v w.rest.beam.h w.clock timed.clock (omega (arith, is, lt))

  console_case : (a : SerialState ConsoleState SoundState) → IsTimed region a.console → a.console.rest.script ≡ s → a.console.rest.frame < f → rate_of region Console * a.console.clock < longest region
      → SameRun (console_step console_moves sound_moves a) (console_step console_moves sound_moves (record a { console = console_put t (λ io. io) false a.console; sound = sound_put t a.sound }))
      × (bytes_after (console_put t (λ io. io) false a.console) (due_of a.console) (got_of (act_of a.console.rest (due_of a.console)) a.to_console) ≡ bytes_after a.console (due_of a.console) (got_of (act_of a.console.rest (due_of a.console)) a.to_console))
  console_case a timed is early lt =
      let c = console_put t (λ io. io) false a.console in
      let act = act_of a.console.rest (due_of a.console) in
      let got = got_of act a.to_console in
      let all = step_alike region f fewer s t agree a.console got ((due_step (due_of a.console) a.console.rest.io.fast).most) timed (early_clock region a.console.clock lt) is early in
      let step : Act → SerialState ConsoleState SoundState = λ x. record {
        console = console_after c (due_of a.console) (got_of x a.to_console);
        sound = sound_put t a.sound;
        to_sound = outgoing_after x a.to_sound;
        to_console = incoming_after x a.to_console;
      } in
      let so : console_step console_moves sound_moves (record a { console = c; sound = sound_put t a.sound }) ≡ step act = ap step (step_act region f fewer s t agree a.console is) in (
        subst (λ y. SameRun (console_step console_moves sound_moves a) y) (sym so) (record { console = all.0; else_same = refl }),
        all.1,
      )

  pub record SameTurn (a b : SerialState ConsoleState SoundState) : Type 0 where
    pub after : SameRun (turn console_moves sound_moves a) (turn console_moves sound_moves b)
    pub video : console_emits console_moves sound_moves b ≡ console_emits console_moves sound_moves a
    pub audio : sound_emits console_moves sound_moves b ≡ sound_emits console_moves sound_moves a

  emits_so : (a : SerialState ConsoleState SoundState) (x : ConsoleState) → (is_console_first console_moves sound_moves (record a { console = x; sound = sound_put t a.sound }) ≡ true)
      → is_console_first console_moves sound_moves a ≡ true
      → console_moves.bytes x (got_of (console_moves.act x) a.to_console) ≡ console_moves.bytes a.console (got_of (console_moves.act a.console) a.to_console)
      → console_emits console_moves sound_moves (record a { console = x; sound = sound_put t a.sound }) ≡ console_emits console_moves sound_moves a
  emits_so a x e g same =
      ap (λ b. if b then console_moves.bytes x (got_of (console_moves.act x) a.to_console) else []) e ∙ same
      ∙ sym (ap (λ b. if b then console_moves.bytes a.console (got_of (console_moves.act a.console) a.to_console) else []) g)

  silent_so : (a : SerialState ConsoleState SoundState) (first : Bool) → is_console_first console_moves sound_moves a ≡ first
      → (first ≡ true → sound_emits console_moves sound_moves a ≡ []) × (first ≡ false → console_emits console_moves sound_moves a ≡ [])
  silent_so a first e = (
    λ is. ap (λ b. if b then [] else sound_moves.bytes a.sound (got_of (sound_moves.act a.sound) a.to_sound)) (e ∙ is),
    λ is. ap (λ b. if b then console_moves.bytes a.console (got_of (console_moves.act a.console) a.to_console) else []) (e ∙ is),
  )

  by_the_console : (a : SerialState ConsoleState SoundState) → IsTimed region a.console → a.console.rest.script ≡ s → a.console.rest.frame < f → rate_of region Console * a.console.clock < longest region
      → is_console_first console_moves sound_moves a ≡ true → SameTurn a (record a { console = console_put t (λ io. io) false a.console; sound = sound_put t a.sound })
  by_the_console a timed is early lt e =
      let c = console_put t (λ io. io) false a.console in
      let b : SerialState ConsoleState SoundState = record a { console = c; sound = sound_put t a.sound } in
      let all = console_case a timed is early lt in
      let act = step_act region f fewer s t agree a.console is in
      record {
        after = subst (λ x. SameRun x (turn console_moves sound_moves b)) (sym (turn_console console_moves sound_moves a e))
            (subst (λ y. SameRun (console_step console_moves sound_moves a) y) (sym (turn_console console_moves sound_moves b e)) all.0);
        video = emits_so a c e e (ap (λ x. bytes_after c (due_of a.console) (got_of x a.to_console)) act ∙ all.1);
        audio = (silent_so b true e).0 refl ∙ sym ((silent_so a true e).0 refl);
      }

  -- a step of the sound side before frame f
  sound_case : (a : SerialState ConsoleState SoundState) (x : ConsoleState) → is_reset_due (sound_put t a.sound).clock ≡ is_reset_due a.sound.clock
      → sound_step console_moves sound_moves (record a { console = x; sound = sound_put t a.sound })
      ≡ record (sound_step console_moves sound_moves a) { console = x; sound = sound_put t (sound_step console_moves sound_moves a).sound }
  sound_case a x due =
      let m = a.sound in
      let step : Act → SerialState ConsoleState SoundState = λ act. record {
        console = x;
        sound = sound_next (sound_put t m) (got_of act a.to_sound);
        to_sound = incoming_after act a.to_sound;
        to_console = outgoing_after act a.to_console;
      } in
      ap step (put_act t m due)
      ∙ ap (λ n. record {
        console = x;
        sound = n;
        to_sound = incoming_after (sound_moves.act m) a.to_sound;
        to_console = outgoing_after (sound_moves.act m) a.to_console;
      }) (put_next t m (got_of (sound_moves.act m) a.to_sound) due)

  by_the_sound : (a : SerialState ConsoleState SoundState) (x : ConsoleState) → Alike f s t agree a.console x → is_reset_due (sound_put t a.sound).clock ≡ is_reset_due a.sound.clock
      → is_console_first console_moves sound_moves a ≡ false
      → is_console_first console_moves sound_moves (record a { console = x; sound = sound_put t a.sound }) ≡ false → SameTurn a (record a { console = x; sound = sound_put t a.sound })
  by_the_sound a x alike due e g =
      let b : SerialState ConsoleState SoundState = record a { console = x; sound = sound_put t a.sound } in
      record {
        after = subst (λ y. SameRun y (turn console_moves sound_moves b)) (sym (turn_sound console_moves sound_moves a e))
            (subst (λ y. SameRun (sound_step console_moves sound_moves a) y) (sym (turn_sound console_moves sound_moves b g))
            (subst (λ y. SameRun (sound_step console_moves sound_moves a) y) (sym (sound_case a x due)) (record { console = alike; else_same = refl })));
        video = (silent_so b false g).1 refl ∙ sym ((silent_so a false e).1 refl);
        audio = ap (λ c. if c then [] else sound_moves.bytes b.sound (got_of (sound_moves.act b.sound) a.to_sound)) g
            ∙ put_bytes t a.sound due
            ∙ sym (ap (λ c. if c then [] else sound_moves.bytes a.sound (got_of (sound_moves.act a.sound) a.to_sound)) e);
      }

  pub same_turn : (board : CartBoard) (rom boot table : List ℕ) (a b : SerialState ConsoleState SoundState) → IsOf region board s rom boot table a → SameRun a b
      → ¬ IsPast console_moves sound_moves (end_stamp_of region f) a → SameTurn a b
  same_turn board rom boot table a b own h short =
      subst (SameTurn a) (sym h.else_same) (go (turn_of console_moves sound_moves a))
    where
      go : TurnOf console_moves sound_moves a → SameTurn a (record a { console = b.console; sound = sound_put t a.sound })
      go (by_console le e) =
          let before = console_early region board s rom boot table (end_stamp_of region f) a short le in
          let is = stamp_is region a.console own.timed in
          let within = ends_within region f small in
          let early = frame_early a.console own.timed before in
          subst (λ c. SameTurn a (record a { console = c; sound = sound_put t a.sound })) (sym (h.console.before early))
          (by_the_console a own.timed own.own.script_is early (omega (arith, before, is, within)) e)
      go (by_sound lt e) =
          by_the_sound a b.console h.console
          (put_due region f t a.sound own.sound_region (λ n lt'. agree.sound n lt' ∙ ap (λ xs. is_reset xs n) (sym own.resets_are))
          (sound_early region board s rom boot table (end_stamp_of region f) a short lt))
          e (ap (λ n. nat_le n (sound_moves.stamp a.sound)) (alike_stamp a.console b.console h.console) ∙ e)

  -- so are their runs, up to the first that is past the end of frame f
  pub record SameRuns (a b : SerialState ConsoleState SoundState) (n : ℕ) : Type 0 where
    pub now : SameRun (after_turns console_moves sound_moves a n) (after_turns console_moves sound_moves b n)
    pub video : console_output console_moves sound_moves b n ≡ console_output console_moves sound_moves a n
    pub audio : sound_output console_moves sound_moves b n ≡ sound_output console_moves sound_moves a n

  pub same_runs : (board : CartBoard) (rom boot table : List ℕ) (a b : SerialState ConsoleState SoundState) (n : ℕ) → IsOf region board s rom boot table a → SameRun a b
      → ((k : ℕ) → k < n → ¬ IsPast console_moves sound_moves (end_stamp_of region f) (after_turns console_moves sound_moves a k)) → SameRuns a b n
  same_runs board rom boot table a b zero own h short = record { now = h; video = refl; audio = refl }
  same_runs board rom boot table a b (suc n) own h short =
      let earlier = λ (k : ℕ) (lt : k < n). short k (omega (arith, lt)) in
      let r = same_runs board rom boot table a b n own h earlier in
      let o = turns_keep region board s rom boot table (end_stamp_of region f) a n (ends_within region f small) own earlier in
      let one = same_turn board rom boot table _ _ o r.now (short n (omega arith)) in
      record {
        now = one.after;
        video = ap (λ v. v ++ console_emits console_moves sound_moves (after_turns console_moves sound_moves b n)) r.video
            ∙ ap (λ v. console_output console_moves sound_moves a n ++ v) one.video;
        audio = ap (λ v. v ++ sound_emits console_moves sound_moves (after_turns console_moves sound_moves b n)) r.audio
            ∙ ap (λ v. sound_output console_moves sound_moves a n ++ v) one.audio;
      }

-- ---- paths

-- the pads of the frames before the last span
pads_before : (path : List Span) (span : Span) (n : ℕ) → n < frames_of path → pads_at (path ++ span ∷ []) n ≡ pads_at path n
pads_before [] span n lt = absurd (omega (arith, lt))
pads_before (p ∷ path) span n lt = go (ltb n p.count) refl (λ ge. pads_before path span (n - p.count) (omega (arith, lt, ge)))
  where
    go : (b : Bool) → ltb n p.count ≡ b → (p.count ≤ n → pads_at (path ++ span ∷ []) (n - p.count) ≡ pads_at path (n - p.count))
        → (if b then (p.pad1, p.pad2) else pads_at (path ++ span ∷ []) (n - p.count)) ≡ (if b then (p.pad1, p.pad2) else pads_at path (n - p.count))
    go true e more = refl
    go false e more = more (grind (arith, nat_tests))

pub words_twice : (io : IoRegisters) (a b c d : ℕ) → with_words (framed io a b) c d ≡ framed io c d
unfolding framed
words_twice io a b c d = refl

pub goes_agree : (region : Region) (n : ℕ) (path : Path) (span : Span) → Agree (frames_of path.spans) (path_script region n path) (path_script region n (longer path span))
goes_agree region n path span =
    let f = frames_of path.spans in
    let t = path_script region n (longer path span) in
    record {
      profile = refl;
      pads = pads_before path.spans span;
      change = words_of t f;
      harmless = words_harmless (pads_at t.spans f).0 (pads_at t.spans f).1;
      words = λ io. sym (words_twice io (pads_at path.spans f).0 (pads_at path.spans f).1 (pads_at t.spans f).0 (pads_at t.spans f).1);
      resets = λ k lt. refl;
      extra = false;
      there = refl;
      sound = λ k lt. refl;
    }

-- a reset more, which is seen in its own frame alone
pub resets_agree : (region : Region) (n : ℕ) (path : Path) → reset_frames (pressed path).resets 36001 ≡ reset_frames path.resets 36001 ++ frames_of path.spans ∷ []
    → Agree (frames_of path.spans) (path_script region n path) (path_script region n (pressed path))
resets_agree region n path more =
    let f = frames_of path.spans in
    record {
      profile = refl;
      pads = λ k lt. refl;
      change = λ io. io;
      harmless = nothing_harmless;
      words = λ io. refl;
      resets = λ k lt. other_frame path.resets f k (grind (arith, nat_tests));
      extra = true;
      there = last_frame path.resets f;
      sound = λ k lt. ap (λ xs. is_reset xs k) more ∙ other_frame (reset_frames path.resets 36001) f k (grind (arith, nat_tests));
    }

-- ---- a run that was finished goes on under the longer path

abbrev pub own_at : Job → ℕ → Path → SerialState ConsoleState SoundState → Type 0
own_at job n path w = IsOf job.region (board_of job.cart) (path_script job.region n path) job.cart.rom job.boot (table_of job.table) w

replicate_dropped : (n : ℕ) (xs : List ℕ) → drop n (replicate n 0 ++ xs) ≡ xs
replicate_dropped zero xs = refl
replicate_dropped (suc n) xs = replicate_dropped n xs

rom_at_start : (ram : ℕ) (rom : List ℕ) → drop (131072 + ram) (memory_start ram rom) ≡ rom
unfolding memory_start
rom_at_start ram rom = replicate_dropped (131072 + ram) rom

board_roms : (profile : Profile) (boot table : List ℕ) → ((hardware_at_start profile boot table).boot ≡ boot) × ((hardware_at_start profile boot table).table ≡ table_of table)
unfolding hardware_at_start
board_roms profile boot table = (refl, refl)

pub starts_own : (job : Job) (n : ℕ) (path : Path) → own_at job n path (start_of job n path)
starts_own job n path = record {
  own = record { board_is = refl; script_is = refl; rom_is = rom_at_start job.cart.ram job.cart.rom; port = lit< tt };
  timed = record { region = refl; clock = omega arith; line = some_lines job.region; dot = lit< tt };
  boot_is = (board_roms First job.boot job.table).0;
  table_is = (board_roms First job.boot job.table).1;
  resets_are = refl;
  room_is = refl;
  sound_region = refl;
}

-- a state of the sound side whose resets and room are the script's
put_same : (t : Script) (m : SoundState) → m.clock.resets ≡ reset_frames t.resets 36001 → m.clock.room ≡ t.room → sound_put t m ≡ m
put_same t m resets room =
    ap (λ v. record m { clock = record m.clock { resets = v; room = t.room } }) (sym resets)
    ∙ ap (λ v. record m { clock = record m.clock { room = v } }) (sym room)

-- at the start of a path that goes on by a span
goes_alike : (region : Region) (cart : Cart) (n : ℕ) (path : Path) (span : Span) → Alike (frames_of path.spans) (path_script region n path) (path_script region n (longer path span)) (goes_agree region n path span) (console_of_path region cart n path) (console_of_path region cart n (longer path span))
unfolding goes_agree
goes_alike region cart n path span =
    let s = path_script region n path in
    let t = path_script region n (longer path span) in
    let w = console_of_path region cart n path in
    let f = frames_of path.spans in
    record {
      before = λ lt. ap (λ p. record w { rest = record w.rest { script = t; io = framed registers_start p.0 p.1 } }) (pads_before path.spans span 0 lt);
      begun = λ is. ap (λ m. record w { rest = record w.rest { script = t; io = framed registers_start (pads_at t.spans m).0 (pads_at t.spans m).1 } }) is
          ∙ ap (λ io. record w { rest = record w.rest { script = t; io = io } }) (sym (words_twice registers_start (pads_at s.spans 0).0 (pads_at s.spans 0).1 (pads_at t.spans f).0 (pads_at t.spans f).1));
      within = omega arith;
    }

-- of a path with a reset more, which does not stand in frame 0
presses_alike : (region : Region) (cart : Cart) (n : ℕ) (path : Path) (more : reset_frames (pressed path).resets 36001 ≡ reset_frames path.resets 36001 ++ frames_of path.spans ∷ []) → 0 < frames_of path.spans
    → Alike (frames_of path.spans) (path_script region n path) (path_script region n (pressed path)) (resets_agree region n path more) (console_of_path region cart n path) (console_of_path region cart n (pressed path))
presses_alike region cart n path more some = record { before = λ lt. refl; begun = λ is. absurd (omega (arith, is, some)); within = omega arith }

pub frames_more : (path : List Span) (span : Span) → frames_of (path ++ span ∷ []) ≡ frames_of path + span.count
frames_more [] span = omega arith
frames_more (p ∷ path) span = omega (arith, frames_more path span)

-- the frame at the end of the path
ended_frame : (region : Region) (f : ℕ) (w : ConsoleState) → IsTimed region w → end_stamp_of region f ≤ console_moves.stamp w → f ≤ w.rest.frame
ended_frame region f w t past =
    let is = stamp_is region w t in
    frame_from region f w.rest.frame w.rest.beam.v w.rest.beam.h w.clock t.clock t.line t.dot (omega (arith, is, past))

-- ---- under a path that agrees with one that has come to its end

module _ (job : Job) (n : ℕ) (path next : Path) (few : frames_of path.spans ≤ 36000)
    (agree : Agree (frames_of path.spans) (path_script job.region n path) (path_script job.region n next))
    (starts : SameRun job.region (frames_of path.spans) few (path_script job.region n path) (path_script job.region n next) agree (start_of job n path) (start_of job n next))
    (later : end_of_path job.region path ≤ end_of_path job.region next) where
  next_runs : (w now : SerialState ConsoleState SoundState) (video audio : List ℕ)
      → IsUnderway console_moves sound_moves (start_of job n path) (end_of_path job.region path) w video audio → IsPast console_moves sound_moves (end_of_path job.region path) w
      → (own_at job n path w → w.console.rest.frame ≡ frames_of path.spans
      → record w { console = console_put (path_script job.region n next) agree.change agree.extra w.console; sound = sound_put (path_script job.region n next) w.sound } ≡ now)
      → IsUnderway console_moves sound_moves (start_of job n next) (end_of_path job.region next) now video audio
  next_runs w now video audio under past is_now =
      let region = job.region in
      let f = frames_of path.spans in
      let s = path_script region n path in
      let t = path_script region n next in
      let a = start_of job n path in
      let b = start_of job n next in
      let own = starts_own job n path in
      let runs = same_runs region f few s t agree (board_of job.cart) job.cart.rom job.boot (table_of job.table) a b under.turns own starts under.not_past in
      let kept = subst (own_at job n path) under.now_is (turns_keep region (board_of job.cart) s job.cart.rom job.boot (table_of job.table) (end_of_path region path) a under.turns (ends_within region f few) own under.not_past) in
      let alike = subst (λ x. Alike f s t agree x.console (after_turns console_moves sound_moves b under.turns).console) under.now_is runs.now.console in
      let there : w.console.rest.frame ≡ f = (let ended = ended_frame region f w.console kept.timed past.console in omega (arith, ended, alike.within)) in
      record {
        turns = under.turns;
        now_is = runs.now.else_same ∙ ap (λ (x : SerialState ConsoleState SoundState). record x { console = (after_turns console_moves sound_moves b under.turns).console; sound = sound_put t x.sound }) under.now_is
            ∙ ap (λ (c : ConsoleState). record w { console = c; sound = sound_put t w.sound }) (alike.begun there)
            ∙ is_now kept there;
        not_past = λ k lt after.
            let r = same_runs region f few s t agree (board_of job.cart) job.cart.rom job.boot (table_of job.table) a b k own starts (λ j l. under.not_past j (omega (arith, l, lt))) in
            let stamp = alike_stamp region f few s t agree (after_turns console_moves sound_moves a k).console (after_turns console_moves sound_moves b k).console r.now.console in
            let sound = ap (λ (x : SerialState ConsoleState SoundState). sound_moves.stamp x.sound) r.now.else_same in
            under.not_past k lt (record { console = omega (arith, after.console, stamp, later); sound = omega (arith, after.sound, sound, later) });
        video_is = runs.video ∙ under.video_is;
        audio_is = runs.audio ∙ under.audio_is;
      }

pub goes_on : (job : Job) (n : ℕ) (path : Path) (span : Span) (w : SerialState ConsoleState SoundState) (video audio : List ℕ) → frames_of path.spans + span.count ≤ 36000
    → IsUnderway console_moves sound_moves (start_of job n path) (end_of_path job.region path) w video audio → IsPast console_moves sound_moves (end_of_path job.region path) w
    → IsUnderway console_moves sound_moves (start_of job n (longer path span)) (end_of_path job.region (longer path span)) (record w { console = console_played w.console span }) video audio
unfolding goes_agree
goes_on job n path span w video audio few under past =
    let region = job.region in
    let f = frames_of path.spans in
    let t = path_script region n (longer path span) in
    let more = frames_more path.spans span in
    next_runs job n path (longer path span) (omega (arith, few)) (goes_agree region n path span)
    (record { console = goes_alike region job.cart n path span; else_same = refl })
    (ends_rise region f (frames_of (longer path span).spans) (omega (arith, more)))
    w (record w { console = console_played w.console span }) video audio under past
    (λ own there.
    ap (λ m. record w { console = console_put t (words_of t m) false w.console; sound = sound_put t w.sound }) (sym there)
    ∙ ap (λ v. record w { console = console_put (lengthened v span) (words_of (lengthened v span) w.console.rest.frame) false w.console; sound = sound_put t w.sound }) (sym own.own.script_is)
    ∙ ap (λ m. record w { console = console_played w.console span; sound = m }) (put_same t w.sound own.resets_are own.room_is))

-- the button is pressed where a path ends
pub presses_on : (job : Job) (n : ℕ) (path : Path) (w : SerialState ConsoleState SoundState) (video audio : List ℕ) → frames_of path.spans ≤ 36000 → MayPress path
    → IsUnderway console_moves sound_moves (start_of job n path) (end_of_path job.region path) w video audio → IsPast console_moves sound_moves (end_of_path job.region path) w
    → IsUnderway console_moves sound_moves (start_of job n (pressed path)) (end_of_path job.region (pressed path))
    (record w { console = console_pressed w.console (frames_of path.spans); sound = sound_pressed w.sound (frames_of path.spans) }) video audio
unfolding resets_agree
presses_on job n path w video audio few may under past =
    let region = job.region in
    let f = frames_of path.spans in
    let t = path_script region n (pressed path) in
    let more = frames_pressed path.resets f may in
    let some = (rise_last 1 36000 path.resets f may).0 in
    next_runs job n path (pressed path) few (resets_agree region n path more)
    (record { console = presses_alike region job.cart n path more (omega (arith, some)); else_same = refl })
    (omega arith)
    w (record w { console = console_pressed w.console f; sound = sound_pressed w.sound f }) video audio under past
    (λ own there.
    ap (λ v. record w { console = record w.console { rest = record w.console.rest { script = reset_in v f; reset = true } }; sound = sound_put t w.sound }) (sym own.own.script_is)
    ∙ ap (λ b. record w { console = record w.console { rest = record w.console.rest { script = reset_in w.console.rest.script f; reset = b || w.console.rest.reset } }; sound = sound_put t w.sound }) (sym (same_number w.console.rest.frame f there))
    ∙ ap (λ v. record w { console = console_pressed w.console f; sound = record w.sound { clock = record w.sound.clock { resets = v; room = n } } }) (more ∙ ap (λ v. v ++ f ∷ []) (sym own.resets_are))
    ∙ ap (λ v. record w { console = console_pressed w.console f; sound = record w.sound { clock = record w.sound.clock { resets = w.sound.clock.resets ++ f ∷ []; room = v } } }) (sym own.room_is))
  where
    same_number : (a b : ℕ) → a ≡ b → (a == b) ≡ true
    same_number a b e = grind (arith, nat_tests)
