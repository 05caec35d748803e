use Rattle.std.proofs.Common.{◌≡◌, None}
use Rattle.cart_map.specs.Accept.{image_of}
use Rattle.header_writer.specs.Refusal.{refusal}
use Rattle.header_writer.proofs.Accepted.{taken, room, lacked, accepted, kind_put}
use Rattle.header_writer.proofs.write.write_least.Goals as goal

pub put_kind-requires : goal.put_kind-requires
put_kind-requires c =
    let none : refusal (image_of c.args.file.now) ≡ None = cc in
    room c.args.file.now (taken (image_of c.args.file.now) none)

pub returns-clause-accepted : goal.returns-clause-accepted
returns-clause-accepted c =
    let none : refusal (image_of c.args.file.now) ≡ None = cc in
    let is = taken (image_of c.args.file.now) none in
    rw c.put_kind.ensures (accepted c.args.file.now _ is (kind_put c.args.file.now (room c.args.file.now is)))

pub returns-clause-lacked : goal.returns-clause-lacked
returns-clause-lacked c =
    let none : refusal (image_of c.args.file.now) ≡ None = cc in
    lacked c.args.file.now (taken (image_of c.args.file.now) none)
