-- The next place of a line at which something may happen.
use Rattle.std.specs.Prelude.{ℕ, ◌-◌, ◌*◌, Bool, false, not, ◌&&◌, ◌||◌, ◌==◌, nat_le, nat_lt, if◌then◌else◌}
use Rattle.snes_defs.specs.declared.region.Region.{Region}
use Rattle.snes_defs.specs.declared.spot.IrqTime.{IrqTime}
use Rattle.beam.specs.declared.beam.Stop.{Stop}
use Rattle.beam.specs.Events.{BeamValue, blank_after, happens_at, next_h, next_v}

-- the next line clock after h at which the table has a row on line v; `blank` says whether vertical blank has begun. 1364
-- is the start of the next line
unfoldable pub table_place : Bool → ℕ → ℕ → ℕ
table_place blank v h =
    if nat_lt h 24 && v == 0 then 24
    else if nat_lt h 536 then 536
    else if nat_lt h 1096 && (nat_le 1 v && nat_le v 239) then 1096
    else if nat_lt h 1104 && not blank then 1104
    else 1364

-- the line clock at which the timer fires on line v, if it fires inside the line; 1364 otherwise
unfoldable pub timer_place : IrqTime → ℕ → ℕ
timer_place t v =
    if (t.kind == 1 || (t.kind == 3 && v == t.v)) && nat_le t.h 340 then 4 * t.h else 1364

-- the next line clock after h at which anything may happen
unfoldable pub next_place : IrqTime → Bool → ℕ → ℕ → ℕ
next_place t blank v h =
    if nat_lt h (timer_place t v) && nat_lt (timer_place t v) (table_place blank v h) then timer_place t v
    else table_place blank v h

-- the master clocks to that place
abbrev pub clocks_left : BeamValue → ℕ
clocks_left b = next_place b.timer b.blank b.v b.h - b.h

-- where a beam with this timer and vertical blank stops one master clock after line v, line clock h: what happens there,
-- and the next line clock at which anything may
unfoldable pub stop_of : Region → IrqTime → Bool → Bool → ℕ → ℕ → Stop
stop_of region timer overscan blank v h =
    let line = next_v region v h in
    let clock = next_h h in
    let happens = happens_at timer overscan blank line clock in
    let now = blank_after blank happens line clock in
    record { happens = happens; v = line; h = clock; blank = now; next = next_place timer now line clock }

-- a stop with one row of the table: a line, a refresh, a row of the picture, or HDMA
abbrev pub one_row : ℕ → ℕ → Bool → ℕ → Stop
one_row v h blank next = record {
  happens = record {
    line = h == 0;
    blank = false;
    hdma_frame = false;
    refresh = h == 536;
    draw = h == 1096;
    hdma_line = h == 1104;
    timer = false;
  };
  v = v;
  h = h;
  blank = blank;
  next = next;
}
