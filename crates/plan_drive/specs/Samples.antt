-- How many samples the goes of a plan last.
use Rattle.std.specs.Prelude.{ℕ, ◌+◌, ◌-◌, List, [], ◌∷◌}
use Rattle.snes_defs.specs.declared.region.Region.{Region}
use Rattle.snes_defs.specs.Script.{frames_of}
use Rattle.clock_ratio.specs.Stamp.{end_stamp_of, samples_before_of}
use Rattle.input_files.specs.declared.plan.PlanStep.{PlanStep}
use Rattle.input_files.specs.declared.plan.PlanStep.TheVariants.{Go, Keep, Back, Reset}
use Rattle.plan_drive.specs.Paths.{Paths, after_step}

module _ (region : Region) where
  -- how many lie before the end of so many frames
  abbrev pub samples_to : ℕ → ℕ
  samples_to frames = samples_before_of region (end_stamp_of region frames)

  -- how many lie in the goes of some steps: of each go those between the end of the path before it and the end of the path
  -- after it
  abbrev pub samples_in : List PlanStep → Paths → ℕ
  samples_in [] paths = 0
  samples_in (Go count pad1 pad2 ∷ rest) paths =
      (samples_to (frames_of paths.path.spans + count) - samples_to (frames_of paths.path.spans)) + samples_in rest (after_step paths (Go count pad1 pad2))
  samples_in (Keep slot ∷ rest) paths = samples_in rest (after_step paths (Keep slot))
  samples_in (Back slot ∷ rest) paths = samples_in rest (after_step paths (Back slot))
  samples_in (Reset ∷ rest) paths = samples_in rest (after_step paths Reset)
