use Rattle.std.proofs.Common.{◌<◌, ◌∙◌, length, sym, arith}
use Rattle.std.proofs.lemmas.List.{length-set}
use Rattle.frame_player.specs.Told.{way_of}
use Rattle.frame_player.proofs.console.Frames.keep.Goals as goal

pub returns-clause-kept : goal.returns-clause-kept
returns-clause-kept c = λ told h is.
    let slots = h.slots_is in
    let short = c.if-slot-from.false in
    let lt : c.args.slot < length told.held = omega (arith, slots, short) in (
      lt,
      record {
        stands = c.keep_in.ensures.kept told h.stands lt;
        most_is = h.most_is;
        slots_is = slots ∙ sym (length-set told.held c.args.slot (way_of told));
        region_is = h.region_is;
      },
    )
