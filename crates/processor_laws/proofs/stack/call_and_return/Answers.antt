use Rattle.std.proofs.Common.{◌+◌, ◌/◌, ◌%◌, arith}
use Rattle.processor_laws.proofs.SpcCalls.{called, pulled_by_return, pushed_by_call, returned}
use Rattle.processor_laws.proofs.stack.call_and_return.Goals as goal

pub returns-clause-pushed : goal.returns-clause-pushed
returns-clause-pushed c = pushed_by_call c.args.before c.args.low c.args.high

pub returns-clause-called : goal.returns-clause-called
returns-clause-called c = called c.args.before c.args.low c.args.high

pub returns-clause-pulled : goal.returns-clause-pulled
returns-clause-pulled c = pulled_by_return c.args.before c.args.inside ((c.args.before.pc + 3) % 65536 % 256) ((c.args.before.pc + 3) % 65536 / 256) (omega arith) c.requires

pub returns-clause-returned : goal.returns-clause-returned
returns-clause-returned c = returned c.args.before c.args.inside ((c.args.before.pc + 3) % 65536) (omega arith) c.requires
