use Rattle.ppu_line.proofs.Halves.{some_alike}
use Rattle.ppu_line.proofs.line.one_colour.Goals as goal

pub returns-then-is_bare : goal.returns-then-is_bare
returns-then-is_bare c =
    some_alike c.args.p.now c.args.row c.backdrop_colour.result (λ x. c.is_bare.ensures.main x c.if-is_bare.true)
    (λ x. c.is_bare.ensures.sub x c.if-is_bare.true) c.backdrop_colour.ensures.even c.backdrop_colour.ensures.odd
