use Rattle.std.proofs.Common.{arith}
use Rattle.processor_laws.proofs.StoredWords.{written, after_store, read, after_load}
use Rattle.processor_laws.proofs.words.word_comes_back.Goals as goal

pub returns-clause-written : goal.returns-clause-written
returns-clause-written c = written c.args.before c.args.offset

pub returns-clause-after_store : goal.returns-clause-after_store
returns-clause-after_store c = after_store c.args.before c.args.offset

pub returns-clause-read : goal.returns-clause-read
returns-clause-read c = read c.args.before c.args.after c.args.offset c.args.before.a c.args.before.y c.requires

pub returns-clause-after_load : goal.returns-clause-after_load
returns-clause-after_load c = after_load c.args.after c.args.offset c.args.before.a c.args.before.y (omega arith)
