use Rattle.std.proofs.Common.{◌≡◌, List, ℕ, ap, ◌∙◌, set, rules}
use borrow.Rule.Slice.PartMut.{put_mid}
use Rattle.sound_tags.proofs.Writes.{written, before, registers, after}
use Rattle.sound_tags.proofs.area.put_tags.Goals as goal

pub returns-clause-bytes : goal.returns-clause-bytes
returns-clause-bytes c =
    ap (λ (ys : List ℕ). put_mid 46 210 (set c.args.file.now 35 26) ys) (search rules)
    ∙ written c.args.tags.now c.args.file.now (search rules) c.requires

pub returns-clause-before : goal.returns-clause-before
returns-clause-before c = before c.copy_from_slice.new.self c.args.file.now c.requires

pub returns-clause-registers : goal.returns-clause-registers
returns-clause-registers c = registers c.copy_from_slice.new.self c.args.file.now c.requires

pub returns-clause-after : goal.returns-clause-after
returns-clause-after c = after c.copy_from_slice.new.self c.args.file.now (search rules) c.requires
