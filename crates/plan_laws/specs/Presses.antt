-- The reset lines of a plan that press the button.
use Rattle.std.specs.Prelude.{◌≡◌, List, [], ◌∷◌}
use Rattle.input_files.specs.declared.plan.PlanStep.{PlanStep}
use Rattle.input_files.specs.declared.plan.PlanStep.TheVariants.{Go, Keep, Back, Reset}
use Rattle.plan_drive.specs.Paths.{Paths, MayPress, reset_there, after_step}

-- at a reset the path may have a reset at its end, and the step puts it there
pub record IsPress (paths : Paths) : Type 0 where
  pub may : MayPress paths.path
  pub puts : after_step paths Reset ≡ reset_there paths

-- each reset of these steps is such a press
abbrev pub AllPress : List PlanStep → Paths → Type 0
AllPress [] paths = Unit {0}
AllPress (Go count pad1 pad2 ∷ rest) paths = AllPress rest (after_step paths (Go count pad1 pad2))
AllPress (Keep slot ∷ rest) paths = AllPress rest (after_step paths (Keep slot))
AllPress (Back slot ∷ rest) paths = AllPress rest (after_step paths (Back slot))
AllPress (Reset ∷ rest) paths = IsPress paths × AllPress rest (after_step paths Reset)
