-- How many frames a plan lasts that has one step more, and which slots it names.
use Rattle.std.proofs.Common.{◌≡◌, ◌+◌, List, [], ◌∷◌, ◌++◌, arith}
use Rattle.input_files.specs.declared.plan.PlanStep.{PlanStep}
use Rattle.input_files.specs.declared.plan.PlanStep.TheVariants.{Go, Keep, Back, Reset}
use Rattle.input_files.specs.Plan.{frames_in, NamesBelow}

pub frames_more : (steps : List PlanStep) (step : PlanStep) → frames_in (steps ++ step ∷ []) ≡ frames_in steps + frames_in (step ∷ [])
frames_more [] step = omega arith
frames_more (Go count pad1 pad2 ∷ rest) step = let more = frames_more rest step in omega (arith, more)
frames_more (Keep slot ∷ rest) step = frames_more rest step
frames_more (Back slot ∷ rest) step = frames_more rest step
frames_more (Reset ∷ rest) step = frames_more rest step

pub names_more : (steps : List PlanStep) (step : PlanStep) → NamesBelow 8 steps → NamesBelow 8 (step ∷ []) → NamesBelow 8 (steps ++ step ∷ [])
names_more [] step h k = k
names_more (Go count pad1 pad2 ∷ rest) step h k = names_more rest step h k
names_more (Keep slot ∷ rest) step h k = (h.0, names_more rest step h.1 k)
names_more (Back slot ∷ rest) step h k = (h.0, names_more rest step h.1 k)
names_more (Reset ∷ rest) step h k = names_more rest step h k

pub ruleset more = (frames_more, names_more)
