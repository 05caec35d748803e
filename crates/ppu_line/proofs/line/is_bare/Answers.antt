use Rattle.scanline_ops.specs.RankedPixels.{no_pixel}
use Rattle.ppu_screens.specs.Screens.{backdrop}
use Rattle.ppu_line.specs.Line.{main_front, sub_front, main_pixel, sub_pixel}
use Rattle.ppu_line.proofs.FrontSteps.{front_bare}
use Rattle.ppu_line.proofs.line.is_bare.Goals as goal

pub returns-clause-main : goal.returns-clause-main
unfolding main_front
returns-clause-main c x h =
    front_bare (main_pixel c.args.p.now c.args.row x) (backdrop c.args.p.now.registers)
    (λ i. c.is_shown-first.ensures.main i c.args.row x (c.is_none.ensures.first h))
    (λ i. c.is_shown-second.ensures.main i c.args.row x (c.is_none.ensures.second h))
    (λ i. c.is_shown-third.ensures.main i c.args.row x (c.is_none.ensures.third h))
    (λ i. c.is_shown-fourth.ensures.main i c.args.row x (c.is_none.ensures.fourth h))
    (λ i. c.are_objects_seen-objects.ensures.main i x (c.is_none.ensures.objects h))

pub returns-clause-sub : goal.returns-clause-sub
unfolding sub_front
returns-clause-sub c x h =
    front_bare (sub_pixel c.args.p.now c.args.row x) no_pixel
    (λ i. c.is_shown-first.ensures.sub i c.args.row x (c.is_none.ensures.first h))
    (λ i. c.is_shown-second.ensures.sub i c.args.row x (c.is_none.ensures.second h))
    (λ i. c.is_shown-third.ensures.sub i c.args.row x (c.is_none.ensures.third h))
    (λ i. c.is_shown-fourth.ensures.sub i c.args.row x (c.is_none.ensures.fourth h))
    (λ i. c.are_objects_seen-objects.ensures.sub i x (c.is_none.ensures.objects h))
