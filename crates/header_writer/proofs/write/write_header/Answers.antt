use Rattle.std.proofs.Common.{rules, ◌≡◌, length, None}
use Rattle.cart_map.specs.Accept.{image_of}
use Rattle.header_writer.specs.Refusal.{refusal}
use Rattle.header_writer.proofs.Accepted.{taken, room, lacked, accepted, header_put, header_stated}
use Rattle.header_writer.proofs.write.write_header.Goals as goal

pub put_header-requires : goal.put_header-requires
put_header-requires c =
    let none : refusal (image_of c.args.file.now) ≡ None = cc in
    room c.args.file.now (taken (image_of c.args.file.now) none)

pub returns-clause-accepted : goal.returns-clause-accepted
returns-clause-accepted c =
    let none : refusal (image_of c.args.file.now) ≡ None = cc in
    let is = taken (image_of c.args.file.now) none in
    let size : length c.args.title.now ≡ 21 = search rules in
    rw c.put_header.ensures (accepted c.args.file.now _ is (header_put c.args.title.now c.args.file.now size (room c.args.file.now is)))

pub returns-clause-stated : goal.returns-clause-stated
returns-clause-stated c =
    let none : refusal (image_of c.args.file.now) ≡ None = cc in
    let size : length c.args.title.now ≡ 21 = search rules in
    rw c.put_header.ensures (header_stated c.args.title.now c.args.file.now size (room c.args.file.now (taken (image_of c.args.file.now) none)))

pub returns-clause-lacked : goal.returns-clause-lacked
returns-clause-lacked c =
    let none : refusal (image_of c.args.file.now) ≡ None = cc in
    lacked c.args.file.now (taken (image_of c.args.file.now) none)
