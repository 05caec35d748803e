use Rattle.console_steps.proofs.effects.make_move.Goals as goal

pub returns-in-ToB : goal.returns-in-ToB
returns-in-ToB c = rw c.in-ToB.is (c.move_to_b.ensures c.args.got)

pub returns-in-Load : goal.returns-in-Load
returns-in-Load c = rw c.in-Load.is (c.move_load.ensures c.args.got)
