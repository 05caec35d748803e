use Rattle.std.proofs.Common.{◌≤◌, ◌*◌, ◌++◌, ◌∙◌, ap, slice_index, length, arith}
use Rattle.std.proofs.lemmas.List.{take_all}
use Rattle.console_bus.specs.Happenings.{list_of, byte_of_dots}
use Rattle.console_steps.proofs.RowBytes.{all_bytes}
use Rattle.console_steps.proofs.rows.emit_row.Goals as goal

pub returns-clause-row : goal.returns-clause-row
returns-clause-row c =
    let dots = c.args.dots.now in
    let bytes = c.write_u16_into.new.dst in
    let size = c.write_u16_into.auto.dst in
    let room = c.requires.room in
    let count = c.fill_from_slice.ensures.count in
    let same = c.write_u16_into.ensures ∙ all_bytes dots c.fits-dots ∙ ap (λ n. list_of (2 * n) (byte_of_dots (slice_index dots))) c.told-dots in
    let all : length bytes ≤ c.fill_from_slice.result = omega arith in
    rw c.fill_from_slice.ensures.items (ap (λ x. c.args.waiting.now.items ++ x) (take_all c.fill_from_slice.result bytes all ∙ same))
