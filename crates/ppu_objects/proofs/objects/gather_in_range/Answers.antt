-- Marks are made of the objects' Y; without one no object stands on the row.
use Rattle.std.proofs.Common.{◌≡◌, ℕ, ◌+◌, ◌*◌, ◌%◌, ◌<◌, ◌≤◌, Bool, List, [], slice_index, take, length, nat_lt, ap, sym, subst, ◌∙◌, arith}
use Rattle.ppu_regs.specs.declared.registers.Registers.{Registers}
use Rattle.ppu_regs.specs.Picture.{Picture}
use Rattle.ppu_objects.specs.Near.{near_mark}
use Rattle.ppu_objects.specs.declared.objects.Object.{Object}
use Rattle.ppu_objects.specs.Objects.{on_row, height_of, first_object, drawn_objects, passes_range}
use Rattle.ppu_objects.proofs.Marks.{none_on_row}
use Rattle.ppu_objects.proofs.objects.gather_in_range.Goals as goal

-- without a mark no object stands on the row
none_of :
    (p : Picture) (r : Registers) (near tops : List ℕ) (row tall first code : ℕ) → r ≡ p.registers → code ≡ r.object_tiles.size →
    ((n : ℕ) → n < 128 → slice_index tops n ≡ slice_index p.oam (4 * n + 1)) → ((large : Bool) → height_of code large ≤ tall) →
    first ≡ first_object p → first < 128 → ((n : ℕ) → n < 256 → slice_index near n ≡ near_mark tall row (slice_index tops (n % 128))) →
    ((n : ℕ) → n < 256 → slice_index near n ≡ 0) → on_row p row 128 ≡ []
none_of p r near tops row tall first code registers sized side_by_side most is small marks none =
    none_on_row p near row tall first 128
    (λ large. subst (λ n. height_of n large ≤ tall) (sized ∙ ap (λ (s : Registers). s.object_tiles.size) registers) (most large)) is (omega (arith, small))
    (λ n h. marks n h ∙ ap (near_mark tall row) (side_by_side (n % 128) (omega arith))) none

pub returns-else-is_any_near-clause-objects : goal.returns-else-is_any_near-clause-objects
unfolding drawn_objects
returns-else-is_any_near-clause-objects c =
    c.requires.empty
    ∙ sym (ap (take 32) (none_of c.args.p.now _ c.look.new.near c.tops.result.now c.args.row c.tallest-tall.result c.first-first.result
    _ c.registers.ensures c.of-sizes.ensures c.tops.ensures c.tallest-tall.ensures c.first-first.ensures.value c.first-first.ensures.small c.look.ensures
    (λ n h. c.is_any_near.ensures n h c.if-is_any_near.false)))

pub returns-else-is_any_near-clause-range : goal.returns-else-is_any_near-clause-range
unfolding passes_range
returns-else-is_any_near-clause-range c =
    sym (ap (λ (l : List Object). nat_lt 32 (length l)) (none_of c.args.p.now _ c.look.new.near c.tops.result.now c.args.row
    c.tallest-tall.result c.first-first.result _ c.registers.ensures c.of-sizes.ensures c.tops.ensures c.tallest-tall.ensures c.first-first.ensures.value
    c.first-first.ensures.small c.look.ensures (λ n h. c.is_any_near.ensures n h c.if-is_any_near.false)))
