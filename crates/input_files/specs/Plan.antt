-- What a plan of the rewinder says, line by line. This project's own format.
use Rattle.std.specs.Prelude.{ℕ, ◌+◌, ◌-◌, ◌<◌, Bool, true, false, ◌&&◌, ◌||◌, nat_le, nat_lt, nat_eq, if◌then◌else◌, min, List, [], ◌∷◌, ◌++◌, length, map, codes, replicate, slice_index_or, slice_set, Option, Some, None, Result, Ok, Err}
use Rattle.std.specs.Str.{bytes_eq}
use Rattle.bstr.specs.Text.{lines_of, without_terminator}
use Rattle.snes_defs.specs.declared.region.Region.{Region}
use Rattle.snes_defs.specs.declared.region.Region.TheVariants.{Ntsc, Pal}
use Rattle.snes_defs.specs.declared.script.Span.{Span}
use Rattle.input_files.specs.Fields.{span_of, word_of, behind}
use Rattle.input_files.specs.declared.plan.PlanStep.{PlanStep}
use Rattle.input_files.specs.declared.plan.PlanStep.TheVariants.{Go, Keep, Back, Reset}

-- A PLAN: the region of the console that plays it, and its steps
pub record PlanValue : Type 0 where
  pub region : Region
  pub steps : List PlanStep

-- how many frames the goes of a plan last
abbrev pub frames_in : List PlanStep → ℕ
frames_in [] = 0
frames_in (Go count pad1 pad2 ∷ rest) = count + frames_in rest
frames_in (Keep slot ∷ rest) = frames_in rest
frames_in (Back slot ∷ rest) = frames_in rest
frames_in (Reset ∷ rest) = frames_in rest

-- the slots that a plan names are below m
abbrev pub NamesBelow : ℕ → List PlanStep → Type 0
NamesBelow m [] = Unit {0}
NamesBelow m (Go count pad1 pad2 ∷ rest) = NamesBelow m rest
NamesBelow m (Keep slot ∷ rest) = (slot < m) × NamesBelow m rest
NamesBelow m (Back slot ∷ rest) = (slot < m) × NamesBelow m rest
NamesBelow m (Reset ∷ rest) = NamesBelow m rest

-- what was read of a plan: its region, whether a line said something, its steps, the sum of the counts of its goes, for each of
-- the eight slots whether it was kept, and whether the button may be pressed: on the path, and on that of each slot
pub record PlanRead : Type 0 where
  pub region : Region
  pub begun : Bool
  pub steps : List PlanStep
  pub frames : ℕ
  pub kept : List Bool
  pub presses : Bool
  pub held : List Bool

abbrev pub no_plan : PlanRead
no_plan = record { region = Ntsc; begun = false; steps = []; frames = 0; kept = replicate 8 false; presses = false; held = replicate 8 false }

-- a slot is one digit, 0 to 7
abbrev pub slot_of : List ℕ → Option ℕ
slot_of (d ∷ []) = if nat_le 48 d && nat_le d 55 then Some (d - 48) else None
slot_of _ = None

-- after a go, whose frames may take the sum to 36,000 at most; behind a frame the button may be pressed
abbrev pub after_go : PlanRead → Option Span → Option PlanRead
after_go r None = None
after_go r (Some span) =
    if nat_le (r.frames + span.count) 36000
    then Some (record r {
      steps = r.steps ++ Go span.count span.pad1 span.pad2 ∷ [];
      frames = r.frames + span.count;
      presses = nat_lt 0 span.count || r.presses;
    })
    else None

abbrev pub after_keep : PlanRead → Option ℕ → Option PlanRead
after_keep r None = None
after_keep r (Some slot) = Some (record r {
  steps = r.steps ++ Keep slot ∷ [];
  kept = slice_set r.kept slot true;
  held = slice_set r.held slot r.presses;
})

-- after a return, to a slot that was kept before
abbrev pub after_back : PlanRead → Option ℕ → Option PlanRead
after_back r None = None
after_back r (Some slot) =
    if slice_index_or r.kept slot false
    then Some (record r { steps = r.steps ++ Back slot ∷ []; presses = slice_index_or r.held slot false })
    else None

-- after a press of the reset button: a frame was played before it, and none of its presses stands at the same frame
abbrev pub after_plan_reset : PlanRead → Option PlanRead
after_plan_reset r = if r.presses then Some (record r { steps = r.steps ++ Reset ∷ []; presses = false }) else None

-- the region of a name
abbrev pub region_named : List ℕ → Option Region
region_named name =
    if bytes_eq name (codes "ntsc") then Some Ntsc
    else (if bytes_eq name (codes "pal") then Some Pal
    else None)

-- after the line of a region, which is the first that says something
abbrev pub after_region : PlanRead → Option Region → Option PlanRead
after_region r None = None
after_region r (Some region) = if r.begun then None else Some (record r { region = region; begun = true })

-- after a line of a step
unfoldable pub after_step_line : PlanRead → List ℕ → Option PlanRead
after_step_line r line =
    if bytes_eq line (codes "reset") then after_plan_reset r
    else (if bytes_eq (word_of line) (codes "go") then after_go r (span_of (behind line))
    else (if bytes_eq (word_of line) (codes "keep") then after_keep r (slot_of (behind line))
    else (if bytes_eq (word_of line) (codes "back") then after_back r (slot_of (behind line))
    else None)))

-- after a line, or none where it is of no form: an empty line says nothing
unfoldable pub after_plan_line : PlanRead → List ℕ → Option PlanRead
after_plan_line r line =
    if nat_eq (length line) 0 then Some r
    else (if bytes_eq (word_of line) (codes "region") then after_region r (region_named (behind line))
    else after_step_line (record r { begun = true }) line)

-- what follows a line: more of the plan, or its refusal at the line's number
abbrev pub plan_going_on : Option PlanRead → ℕ → (PlanRead → Result PlanValue ℕ) → Result PlanValue ℕ
plan_going_on None number more = Err number
plan_going_on (Some r) number more = more r

-- the plan of lines from a number on, or the number of the first line that is of no form; the lines behind number
-- 4,294,967,295 share it
abbrev pub plan_on : List (List ℕ) → ℕ → PlanRead → Result PlanValue ℕ
plan_on [] number r = Ok (record { region = r.region; steps = r.steps })
plan_on (line ∷ rest) number r = plan_going_on (after_plan_line r line) number (plan_on rest (min (number + 1) 4294967295))

-- The plan of a file, or the number of its first bad line, from 1. Lines end with LF; a CR before it is dropped, and the last LF
-- may be missing.
unfoldable pub plan_of : List ℕ → Result PlanValue ℕ
plan_of file = plan_on (map without_terminator (lines_of file)) 1 no_plan
