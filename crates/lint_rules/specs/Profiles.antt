-- Which rules look at what this machine does otherwise than a console in the first profile, and as a console in the second.
use Rattle.std.specs.Prelude.{Bool, true, false}
use Rattle.snes_defs.specs.declared.profile.Profile.{Profile}
use Rattle.snes_defs.specs.declared.profile.Profile.TheVariants.{First, Second}
use Rattle.lint_rules.specs.declared.rule.Rule.{Rule}
use Rattle.lint_rules.specs.declared.rule.Rule.TheVariants.{WaitForBusy, TimerOnItsLine, LatchBy4201, FieldAndRegionBits, VerticalFlipOfHalves, BackdropInHighResolution}

-- the rules with nothing to warn of in the second profile
abbrev pub is_of_first_alone : Rule → Bool
is_of_first_alone WaitForBusy = true
is_of_first_alone TimerOnItsLine = true
is_of_first_alone LatchBy4201 = true
is_of_first_alone FieldAndRegionBits = true
is_of_first_alone VerticalFlipOfHalves = true
is_of_first_alone BackdropInHighResolution = true
is_of_first_alone _ = false

-- whether a run in a profile has nothing that the rule warns of
abbrev pub is_mended : Profile → Rule → Bool
is_mended First rule = false
is_mended Second rule = is_of_first_alone rule
