use Rattle.std.proofs.Common.{◌++◌, ◌∙◌, ap, slice_index}
use Rattle.console_bus.specs.Happenings.{byte_of_dots, shown_dot, row_bytes}
use Rattle.console_steps.proofs.RowBytes.{list_of-same, bytes-same}
use Rattle.console_steps.proofs.drawing.draw_row.Goals as goal

pub returns-clause-row : goal.returns-clause-row
unfolding row_bytes
returns-clause-row c =
    let dots = c.draw_dots.new.dots in
    let same = list_of-same 1024 (byte_of_dots (slice_index dots)) (byte_of_dots (shown_dot c.args.bus.now))
    (bytes-same (slice_index dots) (shown_dot c.args.bus.now) c.draw_dots.ensures.dots) in
    c.emit_row.ensures.row ∙ ap (λ x. c.args.waiting.now.items ++ x) same
