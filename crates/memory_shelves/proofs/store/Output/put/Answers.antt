-- What doesn't fit is cut off.
use Rattle.std.proofs.Common.{◌≡◌, ◌++◌, ◌-◌, ◌<◌, ◌≤◌, length, take, arith, string_bytes}
use Rattle.std.proofs.lemmas.Grind.{common_steps}
use Rattle.memory_shelves.specs.Stored.{Written, added}
use Rattle.memory_shelves.proofs.StoredLemmas.{added_past}
use Rattle.memory_shelves.proofs.store.Output.put.Goals as goal

pub returns-else-bytes-left : goal.returns-else-bytes-left
returns-else-bytes-left c =
    let w : Written = record {
      name = string_bytes c.self.inside.name;
      room = c.self.inside.room;
      bytes = c.self.inside.bytes.items;
      overrun = c.self.inside.overrun;
    } in
    let more = c.args.bytes.now in
    let within : length w.bytes ≤ w.room = omega arith in
    let past : w.room - length w.bytes < length more = omega arith in
    let sum : added w more ≡ _ = added_past w more within past in
    let kept : c.extend_from_slice-else-bytes-left.new.self.items ≡ w.bytes ++ take (w.room - length w.bytes) more = grind (arith, common_steps) in
    record { added = rw (kept, ← c.self.view_is, sum) }
