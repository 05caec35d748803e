use Rattle.std.proofs.Common.{◌-◌, take, drop, ap, ◌∙◌, rules}
use Rattle.file_shelf.proofs.GatheredLemmas.{front_forgotten}
use Rattle.file_shelf.proofs.gathered.Gathered.forget_first.Goals as goal

pub returns : goal.returns
returns c =
    let count = c.self.inside.count in
    ap (take (count - c.args.count)) c.copy_within.ensures.after
    ∙ front_forgotten c.self.inside.bytes count c.args.count (search rules) (search rules)
    ∙ ap (drop c.args.count) (search rules)
