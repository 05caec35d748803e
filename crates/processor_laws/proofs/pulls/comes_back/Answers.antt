use Rattle.std.proofs.Common.{◌+◌, ◌%◌, arith}
use Rattle.processor_laws.specs.OnTheStack.{byte_of}
use Rattle.processor_laws.proofs.Pushes.{one_up, pushed, after_push, pulled, after_pull}
use Rattle.processor_laws.proofs.pulls.comes_back.Goals as goal

pub returns-clause-pushed : goal.returns-clause-pushed
returns-clause-pushed c = pushed c.args.which c.args.before

pub returns-clause-after_push : goal.returns-clause-after_push
returns-clause-after_push c = after_push c.args.which c.args.before

pub returns-clause-pulled : goal.returns-clause-pulled
returns-clause-pulled c = pulled c.args.which c.args.inside ((c.args.before.sp + 255) % 256) c.args.before.sp (byte_of c.args.which c.args.before) c.requires (one_up c.args.before.sp (omega arith))

pub returns-clause-after_pull : goal.returns-clause-after_pull
returns-clause-after_pull c = after_pull c.args.which c.args.inside ((c.args.before.sp + 255) % 256) c.args.before.sp (byte_of c.args.which c.args.before) c.requires (one_up c.args.before.sp (omega arith))
