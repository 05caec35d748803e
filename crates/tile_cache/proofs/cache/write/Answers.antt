-- The cache stays in step, whatever the register.
use Rattle.std.proofs.Common.{sym}
use Rattle.tile_cache.proofs.Writing.{stays_in_step, comes_in_step}
use Rattle.tile_cache.proofs.cache.write.Goals as goal

pub returns-in-Some-clause-step : goal.returns-in-Some-clause-step
returns-in-Some-clause-step c =
    comes_in_step c.args.p.now _ c.args.tiles.now _ c.args.reg c.args.v c.in-Some.word (sym c.in-Some.ensures.word) c.in-Some.ensures.after
    c.requires.step c.wrote.ensures.step c.wrote.ensures.others

pub returns-in-None-clause-step : goal.returns-in-None-clause-step
returns-in-None-clause-step c =
    stays_in_step c.args.p.now _ c.args.tiles.now c.args.reg c.args.v (sym c.in-None.ensures.word) c.in-None.ensures.after c.requires.step
