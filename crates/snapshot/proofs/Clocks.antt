-- The clocks of a step that pass for a console and for one whose script goes on or has a reset more: the two differ in
-- the script, and from the first clock of the frame in which the shorter script ends on in the pads' words and in
-- whether a reset is due.
use Rattle.std.proofs.Common.{◌≡◌, ℕ, ◌+◌, ◌-◌, ◌<◌, ◌≤◌, ◌==◌, ◌&&◌, ◌||◌, Bool, true, false, List, [], ◌∷◌, ◌++◌, refl, sym, ap, subst, ◌∙◌, ⊎_elim, arith, if◌then◌else◌}
use Rattle.std.proofs.lemmas.Bool.{cases_lt}
use Rattle.std.proofs.lemmas.Bool.Decides.{nat_tests}
use Rattle.snes_defs.specs.declared.region.Region.{Region}
use Rattle.snes_defs.specs.declared.profile.Profile.{Profile}
use Rattle.snes_defs.specs.Script.{Script, pads_at, is_reset}
use Rattle.beam.specs.declared.events.Event.{Event}
use Rattle.beam.specs.declared.events.Event.TheVariants.{Line, Blank, HdmaFrame, Refresh, Draw, HdmaLine, Timer}
use Rattle.beam.specs.declared.events.Happens.{Happens}
use Rattle.beam.specs.Events.{BeamValue, one_if, events_of, happens_at, happens_next, beam_next, lines_of, next_h, next_v, is_blank_line}
use Rattle.io_math.specs.declared.registers.IoRegisters.{IoRegisters}
use Rattle.io_math.specs.Registers.{framed, blanked, timed, nmi_level, irq_level}
use Rattle.io_math.specs.Words.{with_words}
use Rattle.cpu65816.specs.Instruction.{CpuState, signalled}
use Rattle.ppu_regs.specs.Writes.{after_over}
use Rattle.console_bus.specs.BusState.{BusState, next_frame}
use Rattle.console_bus.specs.Profiles.{reading_noted}
use Rattle.console_bus.specs.Happenings.{happened, emitted_at, frame_begun, blank_begun, row_drawn, row_bytes, row_over, shown_dot, is_shown}
use Rattle.audio_side.specs.Clock.{reset_frames}
use Rattle.console_steps.specs.ConsoleState.{ConsoleState, after_event, after_events, bytes_of_events, with_interrupt_levels}
use Rattle.console_steps.proofs.Beams.{happened_beam}
use Rattle.console_steps.proofs.EventLists.{events_joined}
use Rattle.snapshot.proofs.Numbers.{clock_at}

-- ---- another script, and another value of the processor's registers that no event but a frame's start and vertical blank sees

pub record IsHarmless (g : IoRegisters → IoRegisters) : Type 0 where
  pub timer : (io : IoRegisters) → timed (g io) ≡ g (timed io)
  pub nmi : (io : IoRegisters) → nmi_level (g io) ≡ nmi_level io
  pub irq : (io : IoRegisters) → irq_level (g io) ≡ irq_level io

pub nothing_harmless : IsHarmless (λ io. io)
nothing_harmless = record { timer = λ io. refl; nmi = λ io. refl; irq = λ io. refl }

words_timed : (io : IoRegisters) (a b : ℕ) → timed (with_words io a b) ≡ with_words (timed io) a b
unfolding timed
words_timed io a b = refl

pub words_harmless : (a b : ℕ) → IsHarmless (λ io. with_words io a b)
words_harmless a b = record { timer = λ io. words_timed io a b; nmi = λ io. refl; irq = λ io. refl }

abbrev pub put : Script → (IoRegisters → IoRegisters) → Bool → BusState → BusState
put s g d r = record r { script = s; io = g r.io; reset = d || r.reset }

abbrev pub console_put : Script → (IoRegisters → IoRegisters) → Bool → ConsoleState → ConsoleState
console_put s g d w = record w { rest = put s g d w.rest }

-- events other than a line's start and vertical blank
abbrev IsLater : Event → Type 0
IsLater Line = ⊥
IsLater Blank = ⊥
IsLater HdmaFrame = Unit {0}
IsLater Refresh = Unit {0}
IsLater Draw = Unit {0}
IsLater HdmaLine = Unit {0}
IsLater Timer = Unit {0}

module _ (s : Script) (g : IoRegisters → IoRegisters) (d : Bool) (h : IsHarmless g) where
  either_put : (b : Bool) (x y x' y' : BusState) → x' ≡ put s g d x → y' ≡ put s g d y → (if b then x' else y') ≡ put s g d (if b then x else y)
  either_put true x y x' y' e f = e
  either_put false x y x' y' e f = f

  drawn_put : (r : BusState) → row_drawn (put s g d r) ≡ put s g d (row_drawn r)
  unfolding row_drawn is_shown
  drawn_put r = either_put (is_shown r) (record r { picture = after_over r.picture (row_over r.picture (r.beam.v - 1)) }) r _ _ refl refl

  happened_put : (r : BusState) (e : Event) → IsLater e → happened (put s g d r) e ≡ put s g d (happened r e)
  happened_put r Line l = absurd l
  happened_put r Blank l = absurd l
  happened_put r HdmaFrame l = refl
  happened_put r Refresh l = refl
  happened_put r Draw l = drawn_put r
  happened_put r HdmaLine l = refl
  happened_put r Timer l = ap (λ io. record r { script = s; io = io; reset = d || r.reset }) (h.timer r.io)

  row_put : (r : BusState) → row_bytes (put s g d r) ≡ row_bytes r
  unfolding row_bytes shown_dot is_shown
  row_put r = refl

  pub emitted_put : (r : BusState) (e : Event) → emitted_at (put s g d r) e ≡ emitted_at r e
  emitted_put r Line = refl
  emitted_put r Blank = refl
  emitted_put r HdmaFrame = refl
  emitted_put r Refresh = refl
  emitted_put r Draw = row_put r
  emitted_put r HdmaLine = refl
  emitted_put r Timer = refl

  pub lines_put : (p : CpuState) (r : BusState) → with_interrupt_levels p (put s g d r) ≡ with_interrupt_levels p r
  lines_put p r = ap (λ n. signalled p n (irq_level (g r.io))) (h.nmi r.io) ∙ ap (λ i. signalled p (nmi_level r.io) i) (h.irq r.io)

  -- what an event leads to, where it does the same
  pub event_by : (w : ConsoleState) (e : Event) → happened (put s g d w.rest) e ≡ put s g d (happened w.rest e)
      → after_event (console_put s g d w) e ≡ console_put s g d (after_event w e)
  event_by w e same =
      ap (λ q. record w { processor = with_interrupt_levels w.processor q; rest = q }) same
      ∙ ap (λ p. record w { processor = p; rest = put s g d (happened w.rest e) }) (lines_put w.processor (happened w.rest e))

  later_put : (w : ConsoleState) (e : Event) → IsLater e → after_event (console_put s g d w) e ≡ console_put s g d (after_event w e)
  later_put w e l = event_by w e (happened_put w.rest e l)

-- ---- frame and beam over events

drawn_frame : (r : BusState) → (row_drawn r).frame ≡ r.frame
unfolding row_drawn
drawn_frame r = go (is_shown r)
  where
    go : (b : Bool) → (if b then (record r { picture = after_over r.picture (row_over r.picture (r.beam.v - 1)) }) else r).frame ≡ r.frame
    go true = refl
    go false = refl

blank_frame : (r : BusState) → (blank_begun r).frame ≡ r.frame
unfolding blank_begun
blank_frame r = refl

begun_frame : (r : BusState) → (frame_begun r).frame ≡ next_frame r.frame
unfolding frame_begun
begun_frame r = refl

-- events that begin no line
abbrev pub NoLine : List Event → Type 0
NoLine [] = Unit {0}
NoLine (Line ∷ es) = ⊥
NoLine (Blank ∷ es) = NoLine es
NoLine (HdmaFrame ∷ es) = NoLine es
NoLine (Refresh ∷ es) = NoLine es
NoLine (Draw ∷ es) = NoLine es
NoLine (HdmaLine ∷ es) = NoLine es
NoLine (Timer ∷ es) = NoLine es

pub same_frame : (w : ConsoleState) (es : List Event) → NoLine es → (after_events w es).rest.frame ≡ w.rest.frame
same_frame w [] n = refl
same_frame w (Line ∷ es) n = absurd n
same_frame w (Blank ∷ es) n = same_frame (after_event w Blank) es n ∙ blank_frame w.rest
same_frame w (HdmaFrame ∷ es) n = same_frame (after_event w HdmaFrame) es n
same_frame w (Refresh ∷ es) n = same_frame (after_event w Refresh) es n
same_frame w (Draw ∷ es) n = same_frame (after_event w Draw) es n ∙ drawn_frame w.rest
same_frame w (HdmaLine ∷ es) n = same_frame (after_event w HdmaLine) es n
same_frame w (Timer ∷ es) n = same_frame (after_event w Timer) es n

pub events_beam : (w : ConsoleState) (es : List Event) → (after_events w es).rest.beam ≡ w.rest.beam
events_beam w [] = refl
events_beam w (e ∷ es) = events_beam (after_event w e) es ∙ happened_beam w.rest e

pub events_clock : (w : ConsoleState) (es : List Event) → (after_events w es).clock ≡ w.clock
events_clock w [] = refl
events_clock w (e ∷ es) = events_clock (after_event w e) es

-- ---- the two consoles

-- the scripts have the same profile. Up to a frame they give the same pads, and the same resets. In frame f the words may
-- change, and t alone may have a reset
pub record Agree (f : ℕ) (s t : Script) : Type 0 where
  pub profile : t.profile ≡ s.profile
  pub pads : (n : ℕ) → n < f → pads_at t.spans n ≡ pads_at s.spans n
  pub change : IoRegisters → IoRegisters
  pub harmless : IsHarmless change
  pub words : (io : IoRegisters) → framed io (pads_at t.spans f).0 (pads_at t.spans f).1 ≡ change (framed io (pads_at s.spans f).0 (pads_at s.spans f).1)
  pub resets : (n : ℕ) → n < f → is_reset t.resets n ≡ is_reset s.resets n
  pub extra : Bool
  pub there : is_reset t.resets f ≡ (extra || is_reset s.resets f)
  pub sound : (n : ℕ) → n < f → is_reset (reset_frames t.resets 36001) n ≡ is_reset (reset_frames s.resets 36001) n

abbrev pub words_of : Script → ℕ → IoRegisters → IoRegisters
words_of t f io = with_words io (pads_at t.spans f).0 (pads_at t.spans f).1

-- a console in a frame before f, or in frame f, and the one that plays the other script
pub record Alike (f : ℕ) (s t : Script) (agree : Agree f s t) (w x : ConsoleState) : Type 0 where
  pub before : w.rest.frame < f → x ≡ console_put t (λ io. io) false w
  pub begun : w.rest.frame ≡ f → x ≡ console_put t agree.change agree.extra w
  pub within : w.rest.frame ≤ f

module _ (f : ℕ) (small : f < 65535) (s t : Script) (agree : Agree f s t) where
  -- which events may come: in frame f no line begins, and no vertical blank
  abbrev May : ConsoleState → Event → Type 0
  May w Line = (w.rest.frame < f) × (w.rest.script ≡ s)
  May w Blank = (w.rest.frame < f) × (w.rest.script ≡ s)
  May w HdmaFrame = Unit {0}
  May w Refresh = Unit {0}
  May w Draw = Unit {0}
  May w HdmaLine = Unit {0}
  May w Timer = Unit {0}

  -- a later event
  later_alike : (w x : ConsoleState) (e : Event) → IsLater e → (happened w.rest e).frame ≡ w.rest.frame → Alike f s t agree w x → Alike f s t agree (after_event w e) (after_event x e)
  later_alike w x e l same h = record {
    before = λ lt. ap (λ y. after_event y e) (h.before (subst (λ n. n < f) same lt)) ∙ later_put t (λ io. io) false nothing_harmless w e l;
    begun = λ is. ap (λ y. after_event y e) (h.begun (sym same ∙ is)) ∙ later_put t agree.change agree.extra agree.harmless w e l;
    within = subst (λ n. n ≤ f) (sym same) h.within;
  }

  -- a frame begins: the words are those of the frame
  swapped : (a e x : Bool) → (a || (e || x)) ≡ (e || (a || x))
  swapped true true x = refl
  swapped true false x = refl
  swapped false true x = refl
  swapped false false x = refl

  frame_put : (r : BusState) (g : IoRegisters → IoRegisters) (e : Bool)
      → framed r.io (pads_at t.spans (next_frame r.frame)).0 (pads_at t.spans (next_frame r.frame)).1 ≡ g (framed r.io (pads_at r.script.spans (next_frame r.frame)).0 (pads_at r.script.spans (next_frame r.frame)).1)
      → is_reset t.resets (next_frame r.frame) ≡ (e || is_reset r.script.resets (next_frame r.frame))
      → frame_begun (put t (λ io. io) false r) ≡ put t g e (frame_begun r)
  unfolding frame_begun
  frame_put r g e words is =
      let n = next_frame r.frame in
      ap (λ io. record r { script = t; frame = n; io = io; picture = (frame_begun r).picture; reset = r.reset || is_reset t.resets n }) words
      ∙ ap (λ v. record r { script = t; frame = n; io = g (framed r.io (pads_at r.script.spans n).0 (pads_at r.script.spans n).1); picture = (frame_begun r).picture; reset = v })
      (ap (λ v. r.reset || v) is ∙ swapped r.reset e (is_reset r.script.resets n))

  frame_alike : (w x : ConsoleState) → (w.rest.frame < f) → w.rest.script ≡ s → Alike f s t agree w x → Alike f s t agree (record w { processor = with_interrupt_levels w.processor (frame_begun w.rest); rest = frame_begun w.rest }) (record x { processor = with_interrupt_levels x.processor (frame_begun x.rest); rest = frame_begun x.rest })
  frame_alike w x lt is h =
      let n = next_frame w.rest.frame in
      let same : n ≡ w.rest.frame + 1 = grind (arith, nat_tests) in
      let go : ConsoleState → ConsoleState = λ y. record y { processor = with_interrupt_levels y.processor (frame_begun y.rest); rest = frame_begun y.rest } in
      let told_so : (g : IoRegisters → IoRegisters) (e : Bool) → IsHarmless g
      → framed w.rest.io (pads_at t.spans n).0 (pads_at t.spans n).1 ≡ g (framed w.rest.io (pads_at w.rest.script.spans n).0 (pads_at w.rest.script.spans n).1)
      → is_reset t.resets n ≡ (e || is_reset w.rest.script.resets n) → go x ≡ console_put t g e (go w) = λ g e harmless words resets. ap go (h.before lt)
      ∙ ap (λ q. record w { processor = with_interrupt_levels w.processor q; rest = q }) (frame_put w.rest g e words resets)
      ∙ ap (λ p. record w { processor = p; rest = put t g e (frame_begun w.rest) }) (lines_put t g e harmless w.processor (frame_begun w.rest)) in
      record {
        before = λ early.
            let sooner = subst (λ m. m < f) (begun_frame w.rest) early in
            told_so (λ io. io) false nothing_harmless
            (ap (λ p. framed w.rest.io p.0 p.1) (agree.pads n sooner ∙ ap (λ v. pads_at v.spans n) (sym is)))
            (agree.resets n sooner ∙ ap (λ v. is_reset v.resets n) (sym is));
        begun = λ there.
            let now : n ≡ f = sym (begun_frame w.rest) ∙ there in
            told_so agree.change agree.extra agree.harmless
            (ap (λ m. framed w.rest.io (pads_at t.spans m).0 (pads_at t.spans m).1) now ∙ agree.words w.rest.io
            ∙ ap (λ m. agree.change (framed w.rest.io (pads_at s.spans m).0 (pads_at s.spans m).1)) (sym now)
            ∙ ap (λ v. agree.change (framed w.rest.io (pads_at v.spans n).0 (pads_at v.spans n).1)) (sym is))
            (ap (λ m. is_reset t.resets m) now ∙ agree.there ∙ ap (λ m. agree.extra || is_reset s.resets m) (sym now) ∙ ap (λ v. agree.extra || is_reset v.resets n) (sym is));
        within = subst (λ m. m ≤ f) (sym (begun_frame w.rest)) (omega (arith, same, lt));
      }

  line_alike : (w x : ConsoleState) → (w.rest.frame < f) → w.rest.script ≡ s → Alike f s t agree w x → Alike f s t agree (after_event w Line) (after_event x Line)
  line_alike w x lt is h = subst (λ y. Alike f s t agree (after_event w Line) (after_event y Line)) (sym (h.before lt)) (go (w.rest.beam.v == 0))
    where
      here : Alike f s t agree w (console_put t (λ io. io) false w)
      here = record { before = λ l. refl; begun = λ e. absurd (omega (arith, lt, e)); within = h.within }

      go : (b : Bool) → Alike f s t agree (record w { processor = with_interrupt_levels w.processor (if b then frame_begun w.rest else w.rest); rest = if b then frame_begun w.rest else w.rest })
          (record w { processor = with_interrupt_levels w.processor (if b then frame_begun (put t (λ io. io) false w.rest) else put t (λ io. io) false w.rest); rest = if b then frame_begun (put t (λ io. io) false w.rest) else put t (λ io. io) false w.rest })
      go true = frame_alike w (console_put t (λ io. io) false w) lt is here
      go false = record { before = λ l. refl; begun = λ e. absurd (omega (arith, lt, e)); within = h.within }

  blank_put : (r : BusState) → r.script ≡ s → r.frame < f → blank_begun (put t (λ io. io) false r) ≡ put t (λ io. io) false (blank_begun r)
  unfolding blank_begun
  blank_put r is lt =
      let noted : Profile → IoRegisters = λ p. reading_noted p r.beam.v r.io in
      ap (λ p. record r { script = t; io = blanked (noted t.profile) p.0 p.1; picture = (blank_begun r).picture }) (agree.pads r.frame lt ∙ ap (λ v. pads_at v.spans r.frame) (sym is))
      ∙ ap (λ p. record r { script = t; io = blanked (noted p) (pads_at r.script.spans r.frame).0 (pads_at r.script.spans r.frame).1; picture = (blank_begun r).picture })
      (agree.profile ∙ ap (λ v. v.profile) (sym is))

  blank_alike : (w x : ConsoleState) → (w.rest.frame < f) → w.rest.script ≡ s → Alike f s t agree w x → Alike f s t agree (after_event w Blank) (after_event x Blank)
  blank_alike w x lt is h = record {
    before = λ l. ap (λ y. after_event y Blank) (h.before lt) ∙ event_by t (λ io. io) false nothing_harmless w Blank (blank_put w.rest is lt);
    begun = λ e. absurd (omega (arith, lt, e, blank_frame w.rest));
    within = subst (λ n. n ≤ f) (sym (blank_frame w.rest)) h.within;
  }

  event_alike : (w x : ConsoleState) (e : Event) → May w e → Alike f s t agree w x → Alike f s t agree (after_event w e) (after_event x e)
  event_alike w x Line m h = line_alike w x m.0 m.1 h
  event_alike w x Blank m h = blank_alike w x m.0 m.1 h
  event_alike w x HdmaFrame m h = later_alike w x HdmaFrame tt refl h
  event_alike w x Refresh m h = later_alike w x Refresh tt refl h
  event_alike w x Draw m h = later_alike w x Draw tt (drawn_frame w.rest) h
  event_alike w x HdmaLine m h = later_alike w x HdmaLine tt refl h
  event_alike w x Timer m h = later_alike w x Timer tt refl h

  -- two that are alike emit the same
  pub alike_emits : (w x : ConsoleState) (e : Event) → Alike f s t agree w x → emitted_at x.rest e ≡ emitted_at w.rest e
  alike_emits w x e h =
      ⊎_elim (λ lt. ap (λ y. emitted_at y.rest e) (h.before lt) ∙ emitted_put t (λ io. io) false nothing_harmless w.rest e)
      (λ ge. ap (λ y. emitted_at y.rest e) (h.begun (omega (arith, ge, h.within))) ∙ emitted_put t agree.change agree.extra agree.harmless w.rest e)
      (cases_lt w.rest.frame f)

  -- a list of events, each of which may come
  abbrev pub Fits : ConsoleState → List Event → Type 0
  Fits w [] = Unit {0}
  Fits w (e ∷ es) = May w e × Fits (after_event w e) es

  pub events_alike : (es : List Event) (w x : ConsoleState) → Fits w es → Alike f s t agree w x
      → Alike f s t agree (after_events w es) (after_events x es) × (bytes_of_events x es ≡ bytes_of_events w es)
  events_alike [] w x fits h = (h, refl)
  events_alike (e ∷ es) w x (may, fits) h =
      let rest = events_alike es (after_event w e) (after_event x e) fits (event_alike w x e may h) in
      (rest.0, ap (λ v. v ++ bytes_of_events (after_event x e) es) (alike_emits w x e h) ∙ ap (λ v. emitted_at w.rest e ++ v) rest.1)

  pub fits_joined : (w : ConsoleState) (xs ys : List Event) → Fits w xs → Fits (after_events w xs) ys → Fits w (xs ++ ys)
  fits_joined w [] ys a b = b
  fits_joined w (e ∷ xs) ys (may, a) b = (may, fits_joined (after_event w e) xs ys a b)

  pub fits_one : (w : ConsoleState) (b : Bool) (e : Event) → (b ≡ true → May w e) → Fits w (one_if b e)
  fits_one w true e may = (may refl, tt)
  fits_one w false e may = tt

-- ---- the clock, the frame and the place of the beam

pub record IsTimed (own : Region) (w : ConsoleState) : Type 0 where
  pub region : w.rest.beam.region ≡ own
  pub clock : w.clock ≡ clock_at own w.rest.frame w.rest.beam.v w.rest.beam.h
  pub line : w.rest.beam.v < lines_of own
  pub dot : w.rest.beam.h < 1364

not_a_line : (b : Bool) (e : Event) → NoLine (e ∷ []) → NoLine (one_if b e)
not_a_line true e n = n
not_a_line false e n = tt

no_lines : (xs ys : List Event) → NoLine xs → NoLine ys → NoLine (xs ++ ys)
no_lines [] ys a b = b
no_lines (Line ∷ xs) ys a b = absurd a
no_lines (Blank ∷ xs) ys a b = no_lines xs ys a b
no_lines (HdmaFrame ∷ xs) ys a b = no_lines xs ys a b
no_lines (Refresh ∷ xs) ys a b = no_lines xs ys a b
no_lines (Draw ∷ xs) ys a b = no_lines xs ys a b
no_lines (HdmaLine ∷ xs) ys a b = no_lines xs ys a b
no_lines (Timer ∷ xs) ys a b = no_lines xs ys a b

-- the frame after more events, of which none begins a line
frame_on : (w : ConsoleState) (xs ys : List Event) (n : ℕ) → NoLine ys → (after_events w xs).rest.frame ≡ n → (after_events w (xs ++ ys)).rest.frame ≡ n
frame_on w xs ys n none is =
    ap (λ (x : ConsoleState). x.rest.frame) (events_joined w xs ys) ∙ same_frame (after_events w xs) ys none ∙ is

abbrev pub frame_if : Bool → ConsoleState → ℕ
frame_if begins w = if begins then (if w.rest.beam.v == 0 then next_frame w.rest.frame else w.rest.frame) else w.rest.frame

pub line_frame : (w : ConsoleState) (b : Bool) → (after_events w (one_if b Line)).rest.frame ≡ frame_if b w
line_frame w true = go (w.rest.beam.v == 0)
  where
    go : (b : Bool) → (if b then frame_begun w.rest else w.rest).frame ≡ (if b then next_frame w.rest.frame else w.rest.frame)
    go true = begun_frame w.rest
    go false = refl
line_frame w false = refl

-- the frame after the events of a place
pub place_frame : (w : ConsoleState) (h : Happens) → (after_events w (events_of h)).rest.frame ≡ frame_if h.line w
unfolding events_of
place_frame w h =
    let n = frame_if h.line w in
    let a = one_if h.line Line in
    let b = a ++ one_if h.blank Blank in
    let d = b ++ one_if h.hdma_frame HdmaFrame in
    let e = d ++ one_if h.refresh Refresh in
    let f = e ++ one_if h.draw Draw in
    let g = f ++ one_if h.hdma_line HdmaLine in
    frame_on w g (one_if h.timer Timer) n (not_a_line h.timer Timer tt)
    (frame_on w f (one_if h.hdma_line HdmaLine) n (not_a_line h.hdma_line HdmaLine tt)
    (frame_on w e (one_if h.draw Draw) n (not_a_line h.draw Draw tt)
    (frame_on w d (one_if h.refresh Refresh) n (not_a_line h.refresh Refresh tt)
    (frame_on w b (one_if h.hdma_frame HdmaFrame) n (not_a_line h.hdma_frame HdmaFrame tt)
    (frame_on w a (one_if h.blank Blank) n (not_a_line h.blank Blank tt) (line_frame w h.line))))))

-- the beam one clock on
pub next_line_clock : (h : ℕ) → next_h h ≡ (if h == 1363 then 0 else h + 1)
unfolding next_h
next_line_clock h = refl

pub next_line : (region : Region) (v h : ℕ) → next_v region v h ≡ (if h == 1363 then (if v + 1 == lines_of region then 0 else v + 1) else v)
unfolding next_v
next_line region v h = refl

pub beam_line : (o : Bool) (b : BeamValue) → (beam_next o b).v ≡ next_v b.region b.v b.h
unfolding beam_next
beam_line o b = refl

pub beam_dot : (o : Bool) (b : BeamValue) → (beam_next o b).h ≡ next_h b.h
unfolding beam_next
beam_dot o b = refl

pub beam_region : (o : Bool) (b : BeamValue) → (beam_next o b).region ≡ b.region
unfolding beam_next
beam_region o b = refl

pub begins_line : (o : Bool) (b : BeamValue) → (happens_next o b).line ≡ (next_h b.h == 0)
unfolding happens_next happens_at
begins_line o b = refl

pub begins_blank : (o : Bool) (b : BeamValue) → (happens_next o b).blank ≡ (next_h b.h == 0 && is_blank_line o b.blank (next_v b.region b.v b.h))
unfolding happens_next happens_at
begins_blank o b = refl
