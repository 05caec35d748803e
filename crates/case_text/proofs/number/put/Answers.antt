use Rattle.std.proofs.Common.{arith, refl}
use Rattle.case_text.proofs.Digits.{HasRoom-half}
use Rattle.case_text.proofs.number.put.Goals as goal

pub returns-then-end-bytes-clause-none : goal.returns-then-end-bytes-clause-none
returns-then-end-bytes-clause-none c =
    λ _ room. omega (arith, HasRoom-half c.args.bytes.now c.args.digits.now c.args.offset _ refl room)
