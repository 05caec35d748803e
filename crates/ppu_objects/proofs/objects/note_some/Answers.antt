-- None of eight may stand on the row, or more than 32 do already: what was found stays.
use Rattle.std.proofs.Common.{ℕ, ◌*◌, ◌<◌, List, take, length, nat_lt, ap, sym, ◌∙◌, arith}
use Rattle.std.proofs.lemmas.Bool.{lt-ltb, ltb-true}
use Rattle.ppu_objects.specs.declared.objects.Object.{Object}
use Rattle.ppu_objects.specs.Objects.{on_row}
use Rattle.ppu_objects.proofs.Firsts.{on_row_long, on_row_first}
use Rattle.ppu_objects.proofs.Marks.{skip_eight}
use Rattle.ppu_objects.proofs.objects.note_some.Goals.{then-over-via-then-over, then-over-via-else-over+then-not-is_any}
use Rattle.ppu_objects.proofs.objects.note_some.Goals as goal

pub returns-then-over-clause-items : goal.returns-then-over-clause-items
returns-then-over-clause-items c =
    let at : ℕ = 8 * c.args.group in
    elim c.then-over.branch [
      | then-over-via-then-over w ↦ (
          let long : 32 < length (on_row c.args.p.now c.args.row at) = ltb-true 32 _ (sym c.requires.more ∙ w.if-over.true) in
          c.requires.items ∙ sym (on_row_first c.args.p.now c.args.row at 8 32 long)
          )
      | then-over-via-else-over+then-not-is_any w ↦
          c.requires.items
          ∙ ap (take 32) (sym (skip_eight c.args.p.now c.args.near.now c.args.row c.args.tall c.args.first at c.requires.tall
          c.requires.first (omega arith) c.requires.near (λ j h. w.is_any.ensures j h w.if-not-is_any.true)))
    ]

pub returns-then-over-clause-more : goal.returns-then-over-clause-more
returns-then-over-clause-more c =
    let at : ℕ = 8 * c.args.group in
    elim c.then-over.branch [
      | then-over-via-then-over w ↦ (
          let long : 32 < length (on_row c.args.p.now c.args.row at) = ltb-true 32 _ (sym c.requires.more ∙ w.if-over.true) in
          w.if-over.true ∙ sym (lt-ltb 32 _ (on_row_long c.args.p.now c.args.row at 8 32 long))
          )
      | then-over-via-else-over+then-not-is_any w ↦
          c.requires.more
          ∙ ap (λ (l : List Object). nat_lt 32 (length l)) (sym (skip_eight c.args.p.now c.args.near.now c.args.row c.args.tall c.args.first at c.requires.tall
          c.requires.first (omega arith) c.requires.near (λ j h. w.is_any.ensures j h w.if-not-is_any.true)))
    ]
