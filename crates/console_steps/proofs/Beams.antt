-- No event moves the beam; and how many bytes the events of a place emit.
use Rattle.std.proofs.Common.{◌≡◌, ℕ, ◌+◌, ◌==◌, Bool, true, false, List, ◌++◌, length, refl, ap, ◌∙◌, if◌then◌else◌, length-append}
use Rattle.beam.specs.declared.events.Event.{Event}
use Rattle.beam.specs.declared.events.Event.TheVariants.{Line, Blank, HdmaFrame, Refresh, Draw, HdmaLine, Timer}
use Rattle.beam.specs.Events.{BeamValue}
use Rattle.console_bus.specs.BusState.{BusState}
use Rattle.console_bus.specs.Happenings.{happened, frame_begun, blank_begun, row_drawn, row_bytes, is_shown}
use Rattle.console_steps.proofs.RowBytes.{length-list_of}

pub if_beam : (b : Bool) (x y : BusState) (beam : BeamValue) → x.beam ≡ beam → y.beam ≡ beam → (if b then x else y).beam ≡ beam
if_beam true x y beam h k = h
if_beam false x y beam h k = k

frame_beam : (r : BusState) → (frame_begun r).beam ≡ r.beam
unfolding frame_begun
frame_beam r = refl

blank_beam : (r : BusState) → (blank_begun r).beam ≡ r.beam
unfolding blank_begun
blank_beam r = refl

row_beam : (r : BusState) → (row_drawn r).beam ≡ r.beam
unfolding row_drawn
row_beam r = if_beam (is_shown r) _ _ r.beam refl refl

pub happened_beam : (r : BusState) (e : Event) → (happened r e).beam ≡ r.beam
happened_beam r Line = if_beam (r.beam.v == 0) (frame_begun r) r r.beam (frame_beam r) refl
happened_beam r Blank = blank_beam r
happened_beam r HdmaFrame = refl
happened_beam r Refresh = refl
happened_beam r Draw = row_beam r
happened_beam r HdmaLine = refl
happened_beam r Timer = refl

-- the bytes that a list of happenings keeps
pub kept_beam : (old new : BusState) (e : Event) → new ≡ happened old e → new.beam ≡ old.beam
kept_beam old new e h = ap (λ r. r.beam) h ∙ happened_beam old e

pub length-row_bytes : (r : BusState) → length (row_bytes r) ≡ 1024
unfolding row_bytes
length-row_bytes r = length-list_of 1024 _

-- one more row
pub row_size : (old new : List ℕ) (r : BusState) → new ≡ old ++ row_bytes r → length new ≡ length old + 1024
row_size old new r h = ap length h ∙ length-append old (row_bytes r) ∙ ap (λ n. length old + n) (length-row_bytes r)
