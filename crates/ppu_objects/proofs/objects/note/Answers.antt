use Rattle.std.proofs.Common.{◌<◌, ◌≤◌, length, ◌∙◌, arith}
use Rattle.ppu_objects.specs.Objects.{grown}
use Rattle.ppu_objects.proofs.Firsts.{push_items, push_more, full_items, full_more}
use Rattle.ppu_objects.proofs.objects.note.Goals as goal

pub returns-else-len-lt32-clause-items : goal.returns-else-len-lt32-clause-items
unfolding grown
returns-else-len-lt32-clause-items c xs e =
    let full : 32 ≤ length c.args.list.now.items = omega arith in
    rw c.if-does.true (full_items 32 c.args.list.now.items xs c.args.o e full)

pub returns-else-len-lt32-clause-more : goal.returns-else-len-lt32-clause-more
unfolding grown
returns-else-len-lt32-clause-more c xs e m =
    let full : 32 ≤ length c.args.list.now.items = omega arith in
    rw c.if-does.true (full_more 32 c.args.list.now.items xs c.args.o e full)

pub returns-then-len-lt32-clause-items : goal.returns-then-len-lt32-clause-items
unfolding grown
returns-then-len-lt32-clause-items c xs e =
    let room : length c.args.list.now.items < 32 = omega arith in
    rw c.if-does.true (push_items 32 c.args.list.now.items c.push.new.self.items xs c.args.o e room c.push.ensures.items)

pub returns-then-len-lt32-clause-more : goal.returns-then-len-lt32-clause-more
unfolding grown
returns-then-len-lt32-clause-more c xs e m =
    let room : length c.args.list.now.items < 32 = omega arith in
    rw c.if-does.true (m ∙ push_more 32 c.args.list.now.items xs c.args.o e room)
