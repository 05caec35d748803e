-- Eight more objects are looked at, or need not be.
use Rattle.std.proofs.Common.{◌≡◌, ℕ, ◌+◌, ◌*◌, take, length, nat_lt, refl, ap, ◌∙◌, arith}
use Rattle.ppu_objects.specs.Objects.{on_row}
use Rattle.ppu_objects.proofs.objects.note_near.Goals as goal

pub loop-g-init : goal.loop-g-init
unfolding on_row
loop-g-init c = record { items = c.requires.empty; more = refl }

pub loop-g-preserved : goal.loop-g-preserved
loop-g-preserved c =
    let g : ℕ = c.loop-g.g in
    let next : 8 * g + 8 ≡ 8 * (g + 1) = omega arith in
    record {
      items = c.note_some-more.ensures.items ∙ ap (λ n. take 32 (on_row c.args.p.now c.args.row n)) next;
      more = c.note_some-more.ensures.more ∙ ap (λ n. nat_lt 32 (length (on_row c.args.p.now c.args.row n))) next;
    }
