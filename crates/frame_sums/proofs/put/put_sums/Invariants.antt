use Rattle.std.proofs.Common.{◌++◌}
use Rattle.shelf.specs.declared.shelves.Out.TheVariants as out
use Rattle.shelf.specs.Told.{Appends}
use Rattle.shelf.specs.Shown.{OnlyPuts}
use Rattle.frame_sums.specs.Digests.{row_in}
use Rattle.frame_sums.specs.Text.{head_text, frames_text}
use Rattle.frame_sums.proofs.put.put_sums.Given as goal

-- the first line and those of the frames so far were put
abbrev pub invariant-loop-frame : goal.invariant-loop-frame
invariant-loop-frame g l =
    let shows = g.H.Shelf.shown in
    record {
      put : Appends ((shows l.fn.shelf).written out.Sums) ((shows l.shelf).written out.Sums) (head_text ++ frames_text (row_in l.video.rows.items) (row_in l.audio.rows.items) l.frame);
      only : OnlyPuts (shows l.fn.shelf) (shows l.shelf) out.Sums;
    }
