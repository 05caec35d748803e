-- One more object is looked at.
use Rattle.std.proofs.Common.{◌≡◌, ◌+◌, ◌*◌, List, take, length, nat_lt, ap, sym, ◌∙◌, arith}
use Rattle.ppu_objects.specs.declared.objects.Object.{Object}
use Rattle.ppu_objects.specs.Objects.{on_row}
use Rattle.ppu_objects.proofs.Firsts.{on_row_more}
use Rattle.ppu_objects.proofs.Marks.{mark_in_turn}
use Rattle.ppu_objects.proofs.objects.note_group.Goals as goal

pub note_nth-more-requires-clause-mark : goal.note_nth-more-requires-clause-mark
note_nth-more-requires-clause-mark c =
    mark_in_turn c.args.p.now c.args.near.now c.args.row c.args.tall c.args.first (8 * c.args.group + c.loop-j.j) c.requires.first
    (omega arith) c.requires.near

pub loop-j-preserved : goal.loop-j-preserved
loop-j-preserved c =
    let next : 8 * c.args.group + c.loop-j.j + 1 ≡ 8 * c.args.group + (c.loop-j.j + 1) = omega arith in
    let same = sym (on_row_more c.args.p.now c.args.row (8 * c.args.group + c.loop-j.j)) ∙ ap (on_row c.args.p.now c.args.row) next in
    let old : List Object = on_row c.args.p.now c.args.row (8 * c.args.group + c.loop-j.j) in
    record {
      items = c.note_nth-more.ensures.items old c.loop-j.invariant.items ∙ ap (take 32) same;
      more = c.note_nth-more.ensures.more old c.loop-j.invariant.items c.loop-j.invariant.more
          ∙ ap (λ (l : List Object). nat_lt 32 (length l)) same;
    }
