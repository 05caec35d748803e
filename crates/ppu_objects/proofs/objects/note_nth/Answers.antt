-- An object without a mark doesn't stand on the row.
use Rattle.std.proofs.Common.{List, take, length, nat_lt, ap, ◌∙◌, arith}
use Rattle.ppu_objects.specs.declared.objects.Object.{Object}
use Rattle.ppu_objects.specs.Objects.{object_in_turn}
use Rattle.ppu_objects.proofs.Marks.{grown_not}
use Rattle.ppu_objects.proofs.objects.note_nth.Goals as goal

pub returns-then-mark-eq0-clause-items : goal.returns-then-mark-eq0-clause-items
returns-then-mark-eq0-clause-items c xs is =
    is
    ∙ ap (take 32)
    (grown_not c.args.p.now.registers.object_tiles.size (object_in_turn c.args.p.now c.args.k) c.args.row c.args.tall xs c.requires.tall (omega arith))

pub returns-then-mark-eq0-clause-more : goal.returns-then-mark-eq0-clause-more
returns-then-mark-eq0-clause-more c xs is more =
    more
    ∙ ap (λ (l : List Object). nat_lt 32 (length l))
    (grown_not c.args.p.now.registers.object_tiles.size (object_in_turn c.args.p.now c.args.k) c.args.row c.args.tall xs c.requires.tall (omega arith))
