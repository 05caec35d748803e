use Rattle.std.proofs.Common.{◌<◌, ◌≤◌, length, ◌∙◌, arith}
use Rattle.ppu_objects.specs.Objects.{grown}
use Rattle.ppu_objects.proofs.Firsts.{push_items, push_more, full_items, full_more}
use Rattle.ppu_objects.proofs.slivers.note_sliver.Goals as goal

pub returns-else-len-lt34-clause-items : goal.returns-else-len-lt34-clause-items
unfolding grown
returns-else-len-lt34-clause-items c xs e =
    let full : 34 ≤ length c.args.list.now.items = omega arith in
    rw c.if-does.true (full_items 34 c.args.list.now.items xs c.args.sliver e full)

pub returns-else-len-lt34-clause-more : goal.returns-else-len-lt34-clause-more
unfolding grown
returns-else-len-lt34-clause-more c xs e m =
    let full : 34 ≤ length c.args.list.now.items = omega arith in
    rw c.if-does.true (full_more 34 c.args.list.now.items xs c.args.sliver e full)

pub returns-then-len-lt34-clause-items : goal.returns-then-len-lt34-clause-items
unfolding grown
returns-then-len-lt34-clause-items c xs e =
    let room : length c.args.list.now.items < 34 = omega arith in
    rw c.if-does.true (push_items 34 c.args.list.now.items c.push.new.self.items xs c.args.sliver e room c.push.ensures.items)

pub returns-then-len-lt34-clause-more : goal.returns-then-len-lt34-clause-more
unfolding grown
returns-then-len-lt34-clause-more c xs e m =
    let room : length c.args.list.now.items < 34 = omega arith in
    rw c.if-does.true (m ∙ push_more 34 c.args.list.now.items xs c.args.sliver e room)
