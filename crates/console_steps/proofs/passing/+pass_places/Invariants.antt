use Rattle.console_steps.proofs.passing.+pass_places.Given as goal

abbrev pub decreases-pass_places : goal.decreases-pass_places
decreases-pass_places l = l.clocks
