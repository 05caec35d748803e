-- A step of a console: where its clock stands, what it keeps of the cartridge, and what it is under a script that goes on.
use Rattle.std.proofs.Common.{◌≡◌, ℕ, zero, suc, ◌+◌, ◌*◌, ◌<◌, ◌≤◌, ◌==◌, ◌&&◌, Bool, true, false, List, [], ◌∷◌, ◌++◌, drop, refl, sym, ap, subst, ◌∙◌, ⊎_elim, arith, if◌then◌else◌}
use Rattle.std.proofs.lemmas.Bool.{cases_lt}
use Rattle.std.proofs.lemmas.Bool.Decides.{nat_tests}
use Rattle.snes_defs.specs.declared.region.Region.{Region}
use Rattle.snes_defs.specs.Script.{Script, pads_at}
use Rattle.beam.specs.declared.events.Event.{Event}
use Rattle.beam.specs.declared.events.Event.TheVariants.{Line, Blank, HdmaFrame, Refresh, Draw, HdmaLine, Timer}
use Rattle.beam.specs.Events.{BeamValue, one_if, events_of, happens_next, beam_next, lines_of, next_h, next_v, is_blank_line}
use Rattle.cpu65816.specs.Instruction.{CpuState, moved_on}
use Rattle.dma_hdma.specs.declared.moves.Move.TheVariants.{ToB, ToA, Load}
use Rattle.console_bus.specs.declared.cart_board.CartBoard.{CartBoard}
use Rattle.console_bus.specs.BusState.{BusState, next_frame}
use Rattle.console_bus.specs.Happenings.{happened, frame_begun, blank_begun, row_drawn, is_shown}
use Rattle.console_steps.specs.ConsoleState.{ConsoleState, Due, Resets, Refreshes, Moves_byte, Accesses, act_of, write_at, due_of, due_clocks, effect, rest_after, processor_after, moved, events_next, after_event, after_events, bytes_of_events, after_clocks, bytes_in, overscan_of, console_after, bytes_after, with_interrupt_levels}
use Rattle.cart_map.specs.declared.places.Place.TheVariants.{BBus}
use Rattle.console_machine.specs.Keeping.{effect_beam}
use Rattle.snapshot.proofs.Effects.{rom_of, effect_keeps, with_script, effect_told, byte_told, taken_told}
use Rattle.snapshot.proofs.Numbers.{frame_clocks, clock_at, timed_so, begun_so, begun_still, few_frames}
use Rattle.snapshot.proofs.Clocks.{IsTimed, place_frame, frame_if, events_beam, events_clock, beam_line, beam_dot, beam_region, begins_line, begins_blank, next_line, next_line_clock, console_put, Agree, Alike, Fits, events_alike, fits_joined, fits_one, line_frame}

-- ---- what events leave alone

pub record Body : Type 0 where
  pub board : CartBoard
  pub script : Script
  pub memory : List ℕ
  pub port : ℕ

abbrev pub body_of : BusState → Body
body_of r = record { board = r.board; script = r.script; memory = r.memory; port = r.port }

frame_body : (r : BusState) → body_of (frame_begun r) ≡ body_of r
unfolding frame_begun
frame_body r = refl

blank_body : (r : BusState) → body_of (blank_begun r) ≡ body_of r
unfolding blank_begun
blank_body r = refl

either_body : (b : Bool) (x y : BusState) (v : Body) → body_of x ≡ v → body_of y ≡ v → body_of (if b then x else y) ≡ v
either_body true x y v h k = h
either_body false x y v h k = k

row_body : (r : BusState) → body_of (row_drawn r) ≡ body_of r
unfolding row_drawn
row_body r = either_body (is_shown r) _ r (body_of r) refl refl

happened_body : (r : BusState) (e : Event) → body_of (happened r e) ≡ body_of r
happened_body r Line = either_body (r.beam.v == 0) (frame_begun r) r (body_of r) (frame_body r) refl
happened_body r Blank = blank_body r
happened_body r HdmaFrame = refl
happened_body r Refresh = refl
happened_body r Draw = row_body r
happened_body r HdmaLine = refl
happened_body r Timer = refl

events_body : (w : ConsoleState) (es : List Event) → body_of (after_events w es).rest ≡ body_of w.rest
events_body w [] = refl
events_body w (e ∷ es) = events_body (after_event w e) es ∙ happened_body w.rest e

pub clocks_body : (w : ConsoleState) (k : ℕ) → body_of (after_clocks w k).rest ≡ body_of w.rest
unfolding after_clocks
clocks_body w zero = refl
clocks_body w (suc k) = clocks_body (after_events (moved w) (events_next w)) k ∙ events_body (moved w) (events_next w)

-- ---- the console of a cartridge and a script

pub record IsOwn (board : CartBoard) (script : Script) (rom : List ℕ) (r : BusState) : Type 0 where
  pub board_is : r.board ≡ board
  pub script_is : r.script ≡ script
  pub rom_is : rom_of r ≡ rom
  pub port : r.port < 131072

pub step_own : (board : CartBoard) (script : Script) (rom : List ℕ) (w : ConsoleState) (d : Due) (got : ℕ) → IsOwn board script rom w.rest → IsOwn board script rom (console_after w d got).rest
step_own board script rom w d got h =
    let k = effect_keeps w.rest d got in
    let b = clocks_body (effect w d got) (due_clocks d w.rest.io.fast) in
    record {
      board_is = ap (λ v. v.board) b ∙ k.board ∙ h.board_is;
      script_is = ap (λ v. v.script) b ∙ k.script ∙ h.script_is;
      rom_is = ap (λ v. drop (131072 + v.board.ram) v.memory) b ∙ k.rom h.port ∙ h.rom_is;
      port = subst (λ n. n < 131072) (sym (ap (λ v. v.port) b)) (k.port h.port);
    }

-- ---- the clock

next_frame_is : (n : ℕ) → n < 65535 → next_frame n ≡ n + 1
next_frame_is n lt = grind (arith, nat_tests)

abbrev pub after_one : ConsoleState → ConsoleState
after_one w = after_events (moved w) (events_next w)

-- where the beam and the frame are one clock on
pub record OneOn (own : Region) (w n : ConsoleState) : Type 0 where
  pub dot : n.rest.beam.h ≡ (if w.rest.beam.h == 1363 then 0 else w.rest.beam.h + 1)
  pub line : n.rest.beam.v ≡ (if w.rest.beam.h == 1363 then (if w.rest.beam.v + 1 == lines_of own then 0 else w.rest.beam.v + 1) else w.rest.beam.v)
  pub frame : n.rest.frame ≡ (if n.rest.beam.h == 0 then (if n.rest.beam.v == 0 then w.rest.frame + 1 else w.rest.frame) else w.rest.frame)

pub one_on : (own : Region) (w : ConsoleState) → IsTimed own w → w.rest.frame < 65535 → OneOn own w (after_one w)
one_on own w t few =
    let o = overscan_of w in
    let b = w.rest.beam in
    let n = after_one w in
    let beam = events_beam (moved w) (events_next w) in
    let dot : n.rest.beam.h ≡ next_h b.h = ap (λ x. x.h) beam ∙ beam_dot o b in
    record {
      dot = dot ∙ next_line_clock b.h;
      line = ap (λ x. x.v) beam ∙ beam_line o b ∙ ap (λ r. next_v r b.v b.h) t.region ∙ next_line own b.v b.h;
      frame = place_frame (moved w) (happens_next o b)
          ∙ ap (λ l. if l then (if (beam_next o b).v == 0 then next_frame w.rest.frame else w.rest.frame) else w.rest.frame) (begins_line o b)
          ∙ ap (λ h. if h == 0 then (if (beam_next o b).v == 0 then next_frame w.rest.frame else w.rest.frame) else w.rest.frame) (sym dot)
          ∙ ap (λ (x : BeamValue). if n.rest.beam.h == 0 then (if x.v == 0 then next_frame w.rest.frame else w.rest.frame) else w.rest.frame) (sym beam)
          ∙ ap (λ m. if n.rest.beam.h == 0 then (if n.rest.beam.v == 0 then m else w.rest.frame) else w.rest.frame) (next_frame_is w.rest.frame few);
    }

pub one_timed : (own : Region) (w : ConsoleState) → IsTimed own w → w.rest.frame < 65535 → IsTimed own (after_one w)
one_timed own w t few =
    let o = overscan_of w in
    let b = w.rest.beam in
    let n = after_one w in
    let beam = events_beam (moved w) (events_next w) in
    let on = one_on own w t few in
    let so = timed_so own w.rest.frame b.v b.h n.rest.frame n.rest.beam.v n.rest.beam.h w.clock t.clock t.line t.dot few on.dot on.line on.frame in
    record { region = ap (λ x. x.region) beam ∙ beam_region o b ∙ t.region; clock = events_clock (moved w) (events_next w) ∙ so.0; line = so.1; dot = so.2 }

pub one_later : (w : ConsoleState) → (after_one w).clock ≡ w.clock + 1
one_later w = events_clock (moved w) (events_next w)

pub clocks_timed : (own : Region) (k : ℕ) (w : ConsoleState) → IsTimed own w → w.clock + k < frame_clocks own * 65535 → IsTimed own (after_clocks w k)
unfolding after_clocks
clocks_timed own zero w t small = t
clocks_timed own (suc k) w t small =
    let one = one_later w in
    clocks_timed own k (after_one w) (one_timed own w t (few_frames own w.rest.frame w.rest.beam.v w.rest.beam.h w.clock t.clock (omega (arith, small)))) (omega (arith, small, one))

pub effect_timed : (own : Region) (w : ConsoleState) (d : Due) (got : ℕ) → IsTimed own w → IsTimed own (effect w d got)
effect_timed own w d got t =
    let k = effect_keeps w.rest d got in
    let b = effect_beam w.rest d got in
    record {
      region = b.region ∙ t.region;
      clock = t.clock ∙ ap (λ n. clock_at own n w.rest.beam.v w.rest.beam.h) (sym k.frame)
          ∙ ap (λ n. clock_at own (rest_after w.rest d got).frame n w.rest.beam.h) (sym k.line)
          ∙ ap (λ n. clock_at own (rest_after w.rest d got).frame (rest_after w.rest d got).beam.v n) (sym b.clock);
      line = subst (λ n. n < lines_of own) (sym k.line) t.line;
      dot = subst (λ n. n < 1364) (sym b.clock) t.dot;
    }

-- ---- under a script that goes on

module _ (own : Region) (f : ℕ) (small : f < 65535) (s t : Script) (agree : Agree f s t) where
  abbrev Near : ConsoleState → ℕ → Type 0
  Near w k = w.rest.frame ≡ f → (w.rest.beam.v ≡ 0) × (w.rest.beam.h + k < 1364)

  moved_alike : (w x : ConsoleState) → Alike f s t agree w x → Alike f s t agree (moved w) (moved x)
  moved_alike w x h = record { before = λ lt. ap moved (h.before lt); begun = λ is. ap moved (h.begun is); within = h.within }

  same_events : (w x : ConsoleState) → Alike f s t agree w x → events_next x ≡ events_next w
  same_events w x h =
      ⊎_elim (λ lt. ap events_next (h.before lt)) (λ ge. ap events_next (h.begun (omega (arith, ge, h.within)))) (cases_lt w.rest.frame f)

  -- where a line begins, the frame f has not begun
  line_early : (w : ConsoleState) (k : ℕ) → Near w (suc k) → w.rest.frame ≤ f → (next_h w.rest.beam.h == 0) ≡ true → w.rest.frame < f
  line_early w k near within e = ⊎_elim (λ lt. lt) (λ ge. absurd (go (near (omega (arith, ge, within))))) (cases_lt w.rest.frame f)
    where
      zero_h : next_h w.rest.beam.h ≡ 0
      zero_h = grind (arith, nat_tests)

      go : (w.rest.beam.v ≡ 0) × (w.rest.beam.h + suc k < 1364) → ⊥
      go (v, h) = let is = next_line_clock w.rest.beam.h in grind (arith, nat_tests)

  not_both : (a b : Bool) → (a && b) ≡ true → (a ≡ true) × (b ≡ true)
  not_both true true e = (refl, refl)
  not_both true false e = absurd cc
  not_both false b e = absurd cc

  far_line : (o blank : Bool) (v : ℕ) → is_blank_line o blank v ≡ true → v ≡ 0 → ⊥
  unfolding is_blank_line
  far_line true true v e z = grind (arith, nat_tests)
  far_line true false v e z = grind (arith, nat_tests)
  far_line false true v e z = grind (arith, nat_tests)
  far_line false false v e z = grind (arith, nat_tests)

  -- the events of the next clock may come
  next_fits : (w : ConsoleState) (k : ℕ) → Near w (suc k) → w.rest.frame ≤ f → w.rest.script ≡ s → Fits f small s t agree (moved w) (events_next w)
  unfolding events_of
  next_fits w k near within is =
      let o = overscan_of w in
      let b = w.rest.beam in
      let hp = happens_next o b in
      let line_may : hp.line ≡ true → (w.rest.frame < f) × (w.rest.script ≡ s) = λ e. (line_early w k near within (sym (begins_line o b) ∙ e), is) in
      let blank_may : hp.blank ≡ true → ((after_events (moved w) (one_if hp.line Line)).rest.frame < f) × ((after_events (moved w) (one_if hp.line Line)).rest.script ≡ s) = λ e. (
        blank_early w k near within hp.line e,
        ap (λ v. v.script) (events_body (moved w) (one_if hp.line Line)) ∙ is,
      ) in
      let a1 = one_if hp.line Line in
      let a2 = a1 ++ one_if hp.blank Blank in
      let a3 = a2 ++ one_if hp.hdma_frame HdmaFrame in
      let a4 = a3 ++ one_if hp.refresh Refresh in
      let a5 = a4 ++ one_if hp.draw Draw in
      let a6 = a5 ++ one_if hp.hdma_line HdmaLine in
      let m = moved w in
      fits_joined f small s t agree m a6 (one_if hp.timer Timer)
      (fits_joined f small s t agree m a5 (one_if hp.hdma_line HdmaLine)
      (fits_joined f small s t agree m a4 (one_if hp.draw Draw)
      (fits_joined f small s t agree m a3 (one_if hp.refresh Refresh)
      (fits_joined f small s t agree m a2 (one_if hp.hdma_frame HdmaFrame)
      (fits_joined f small s t agree m a1 (one_if hp.blank Blank)
      (fits_one f small s t agree m hp.line Line line_may)
      (fits_one f small s t agree (after_events m a1) hp.blank Blank blank_may))
      (fits_one f small s t agree (after_events m a2) hp.hdma_frame HdmaFrame (λ e. tt)))
      (fits_one f small s t agree (after_events m a3) hp.refresh Refresh (λ e. tt)))
      (fits_one f small s t agree (after_events m a4) hp.draw Draw (λ e. tt)))
      (fits_one f small s t agree (after_events m a5) hp.hdma_line HdmaLine (λ e. tt)))
      (fits_one f small s t agree (after_events m a6) hp.timer Timer (λ e. tt))
    where
      blank_early : (w : ConsoleState) (k : ℕ) → Near w (suc k) → w.rest.frame ≤ f → (b : Bool) → (happens_next (overscan_of w) w.rest.beam).blank ≡ true
          → (after_events (moved w) (one_if b Line)).rest.frame < f
      blank_early w k near within b e =
          let o = overscan_of w in
          let both = not_both _ _ (sym (begins_blank o w.rest.beam) ∙ e) in
          let early = line_early w k near within both.0 in
          let far = far_line o w.rest.beam.blank (next_v w.rest.beam.region w.rest.beam.v w.rest.beam.h) both.1 in
          subst (λ n. n < f) (sym (line_frame (moved w) b ∙ no_new b ((beam_next o w.rest.beam).v == 0) refl (λ z. far (sym (beam_line o w.rest.beam) ∙ z)))) early
        where
          no_new : (b z : Bool) → ((beam_next (overscan_of w) w.rest.beam).v == 0) ≡ z → ((beam_next (overscan_of w) w.rest.beam).v ≡ 0 → ⊥)
              → frame_if b (moved w) ≡ w.rest.frame
          no_new false z e far = refl
          no_new true z e far = zero_is z e
            where
              zero_is : (z : Bool) → ((beam_next (overscan_of w) w.rest.beam).v == 0) ≡ z → (if (beam_next (overscan_of w) w.rest.beam).v == 0 then next_frame w.rest.frame else w.rest.frame) ≡ w.rest.frame
              zero_is true e = absurd (far (grind (arith, nat_tests)))
              zero_is false e = ap (λ c. if c then next_frame w.rest.frame else w.rest.frame) e

  -- frame f has begun with the last clock, or a clock ago
  next_near : (w : ConsoleState) (k : ℕ) → suc k ≤ 40 → IsTimed own w → w.rest.frame < 65535 → Near w (suc k) → w.rest.frame ≤ f → Near (after_one w) k
  next_near w k few t fewer near within is =
      let n = after_one w in
      let one = one_timed own w t fewer in
      let b = w.rest.beam in
      let clock = sym (one_later w) ∙ one.clock in
      ⊎_elim
      (λ lt. begun_so own f w.rest.frame b.v b.h n.rest.frame n.rest.beam.v n.rest.beam.h w.clock k t.clock clock t.line t.dot one.dot few lt is)
      (λ ge. (
      let there : w.rest.frame ≡ f = omega (arith, ge, within) in
      let was = near there in
      begun_still own f w.rest.frame b.v b.h n.rest.frame n.rest.beam.v n.rest.beam.h w.clock k t.clock clock was.0 was.1 there is))
      (cases_lt w.rest.frame f)

  pub clocks_alike : (k : ℕ) (w x : ConsoleState) → k ≤ 40 → IsTimed own w → w.clock + k < frame_clocks own * 65535 → w.rest.script ≡ s → Near w k → Alike f s t agree w x
      → Alike f s t agree (after_clocks w k) (after_clocks x k) × (bytes_in x k ≡ bytes_in w k)
  unfolding after_clocks bytes_in
  clocks_alike zero w x few timed early is near h = (h, refl)
  clocks_alike (suc k) w x few timed early is near h =
      let fewer = few_frames own w.rest.frame w.rest.beam.v w.rest.beam.h w.clock timed.clock (omega (arith, early)) in
      let fits = next_fits w k near h.within is in
      let events : events_next x ≡ events_next w = same_events w x h in
      let one = events_alike f small s t agree (events_next w) (moved w) (moved x) fits (moved_alike w x h) in
      let later = one_later w in
      let rest = clocks_alike k (after_one w) (after_events (moved x) (events_next w)) (omega (arith, few)) (one_timed own w timed fewer) (omega (arith, early, later))
      (ap (λ v. v.script) (events_body (moved w) (events_next w)) ∙ is) (next_near w k few timed fewer near h.within) one.0 in (
        subst (λ es. Alike f s t agree (after_clocks (after_one w) k) (after_clocks (after_events (moved x) es) k)) (sym events) rest.0,
        ap (λ es. bytes_of_events (moved x) es ++ bytes_in (after_events (moved x) es) k) events
            ∙ ap (λ v. v ++ bytes_in (after_events (moved x) (events_next w)) k) one.1
            ∙ ap (λ v. bytes_of_events (moved w) (events_next w) ++ v) rest.1,
      )

  -- ---- a whole step

  of_profile : (r : BusState) → r.script ≡ s → t.profile ≡ r.script.profile
  of_profile r is = agree.profile ∙ ap (λ v. v.profile) (sym is)

  processor_told : (p : CpuState) (r : BusState) (d : Due) (got : ℕ) → r.script ≡ s → processor_after p (with_script t r) d got ≡ processor_after p r d got
  processor_told p r Resets got is = refl
  processor_told p r Refreshes got is = refl
  processor_told p r (Moves_byte m) got is = refl
  processor_told p r (Accesses a) got is = ap (λ b. moved_on p b) (byte_told t r a got (of_profile r is))

  pub effect_alike : (w : ConsoleState) (d : Due) (got : ℕ) → w.rest.script ≡ s → w.rest.frame < f → effect (console_put t (λ io. io) false w) d got ≡ console_put t (λ io. io) false (effect w d got)
  effect_alike w d got is early =
      ap (λ p. record w { processor = with_interrupt_levels p (rest_after (with_script t w.rest) d got); rest = rest_after (with_script t w.rest) d got }) (processor_told w.processor w.rest d got is)
      ∙ ap (λ q. record w { processor = with_interrupt_levels (processor_after w.processor w.rest d got) q; rest = q })
      (effect_told t w.rest d got (of_profile w.rest is) (agree.pads w.rest.frame early ∙ ap (λ v. pads_at v.spans w.rest.frame) (sym is)))

  act_told : (r : BusState) (d : Due) → r.script ≡ s → act_of (with_script t r) d ≡ act_of r d
  act_told r Resets is = refl
  act_told r Refreshes is = refl
  act_told r (Moves_byte (ToB from port)) is = ap (λ v. write_at (BBus port) v) (taken_told t r from (of_profile r is))
  act_told r (Moves_byte (ToA port to)) is = refl
  act_told r (Moves_byte (Load from)) is = refl
  act_told r (Accesses a) is = refl

  pub step_act : (w : ConsoleState) → w.rest.script ≡ s → act_of (with_script t w.rest) (due_of (console_put t (λ io. io) false w)) ≡ act_of w.rest (due_of w)
  step_act w is = act_told w.rest (due_of w) is

  pub step_alike : (w : ConsoleState) (got : ℕ) → due_clocks (due_of w) w.rest.io.fast ≤ 40 → IsTimed own w → w.clock + 40 < frame_clocks own * 65535 → w.rest.script ≡ s → w.rest.frame < f
      → Alike f s t agree (console_after w (due_of w) got) (console_after (console_put t (λ io. io) false w) (due_of w) got)
      × (bytes_after (console_put t (λ io. io) false w) (due_of w) got ≡ bytes_after w (due_of w) got)
  step_alike w got few timed early is before =
      let d = due_of w in
      let n = due_clocks d w.rest.io.fast in
      let k = effect_keeps w.rest d got in
      let e = effect w d got in
      let same = k.frame in
      let alike : Alike f s t agree e (console_put t (λ io. io) false e) = record {
        before = λ l. refl;
        begun = λ there. absurd (omega (arith, there, before, same));
        within = omega (arith, same, before);
      } in
      let all = clocks_alike n e (console_put t (λ io. io) false e) few (effect_timed own w d got timed) (omega (arith, early, few)) (k.script ∙ is) (λ there. absurd (omega (arith, there, before, same))) alike in (
        subst (λ y. Alike f s t agree (after_clocks e n) (after_clocks y n)) (sym (effect_alike w d got is before)) all.0,
        ap (λ y. bytes_in y n) (effect_alike w d got is before) ∙ all.1,
      )
