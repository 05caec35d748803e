-- What happens where the beam stands: the table of a line's events, and the events that a beam passes.
-- The places are this project's own; that NMI, HDMA, refresh and timers come in these lines is of
-- fullsnes ("SNES Timings").
use Rattle.std.specs.Prelude.{ℕ, suc, zero, ◌+◌, ◌*◌, Bool, not, ◌&&◌, ◌||◌, ◌==◌, nat_le, List, [], ◌∷◌, ◌++◌, if◌then◌else◌}
use Rattle.snes_defs.specs.declared.region.Region.{Region}
use Rattle.snes_defs.specs.declared.region.Region.TheVariants.{Ntsc, Pal}
use Rattle.snes_defs.specs.declared.spot.IrqTime.{IrqTime}
use Rattle.beam.specs.declared.events.Event.{Event}
use Rattle.beam.specs.declared.events.Event.TheVariants.{Line, Blank, HdmaFrame, Refresh, Draw, HdmaLine, Timer}
use Rattle.beam.specs.declared.events.Happens.{Happens}

-- what contracts see of a beam: where it stands, whether vertical blank has begun, and the timer's setting
pub record BeamValue : Type 0 where
  pub region : Region
  -- the line, from 0
  pub v : ℕ
  -- the line clock, 0 to 1363
  pub h : ℕ
  pub blank : Bool
  pub timer : IrqTime

-- the lines of a frame
abbrev pub lines_of : Region → ℕ
lines_of Ntsc = 262
lines_of Pal = 312

-- whether the timer fires: kind 1 on each line at 4 * HTIME, kind 2 at the start of line VTIME, kind 3
-- on line VTIME at 4 * HTIME
unfoldable pub fires : IrqTime → ℕ → ℕ → Bool
fires t v h =
    (t.kind == 1 && h == 4 * t.h)
    || ((t.kind == 2 && v == t.v) && h == 0)
    || ((t.kind == 3 && v == t.v) && h == 4 * t.h)

-- vertical blank begins at line 225, or with overscan at 240; also at 240 where overscan was on at 225
-- and isn't any more
unfoldable pub is_blank_line : Bool → Bool → ℕ → Bool
is_blank_line overscan blank v = (v == 225 && not overscan) || (v == 240 && not blank)

-- the table: what happens at line v, line clock h, where `blank` says whether vertical blank had begun
-- before this place
unfoldable pub happens_at : IrqTime → Bool → Bool → ℕ → ℕ → Happens
happens_at timer overscan blank v h = record {
  line = h == 0;
  blank = h == 0 && is_blank_line overscan blank v;
  hdma_frame = h == 24 && v == 0;
  refresh = h == 536;
  draw = (h == 1096 && nat_le 1 v) && nat_le v 239;
  hdma_line = h == 1104 && not blank;
  timer = fires timer v h;
}

-- the events of a place, in their order
abbrev pub one_if : Bool → Event → List Event
one_if happens event = if happens then event ∷ [] else []

unfoldable pub events_of : Happens → List Event
events_of w =
    one_if w.line Line ++ one_if w.blank Blank ++ one_if w.hdma_frame HdmaFrame ++ one_if w.refresh Refresh
    ++ one_if w.draw Draw ++ one_if w.hdma_line HdmaLine ++ one_if w.timer Timer

-- vertical blank after a place: it ends at the start of line 0
unfoldable pub blank_after : Bool → Happens → ℕ → ℕ → Bool
blank_after blank w v h = not (h == 0 && v == 0) && (blank || w.blank)

-- the line and the line clock one master clock on
unfoldable pub next_h : ℕ → ℕ
next_h h = if h == 1363 then 0 else h + 1

unfoldable pub next_v : Region → ℕ → ℕ → ℕ
next_v region v h = if h == 1363 then (if v + 1 == lines_of region then 0 else v + 1) else v

-- what happens at the place one master clock on, and the beam there
unfoldable pub happens_next : Bool → BeamValue → Happens
happens_next overscan b = happens_at b.timer overscan b.blank (next_v b.region b.v b.h) (next_h b.h)

unfoldable pub beam_next : Bool → BeamValue → BeamValue
beam_next overscan b = record b {
  v = next_v b.region b.v b.h;
  h = next_h b.h;
  blank = blank_after b.blank (happens_next overscan b) (next_v b.region b.v b.h) (next_h b.h);
}

-- the beam so many master clocks on
unfoldable pub beam_after : Bool → BeamValue → ℕ → BeamValue
beam_after overscan b zero = b
beam_after overscan b (suc clocks) = beam_after overscan (beam_next overscan b) clocks

-- the events that it passes on the way, in order
unfoldable pub passed : Bool → BeamValue → ℕ → List Event
passed overscan b zero = []
passed overscan b (suc clocks) = events_of (happens_next overscan b) ++ passed overscan (beam_next overscan b) clocks
