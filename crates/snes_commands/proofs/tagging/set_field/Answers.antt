use Rattle.std.proofs.Common.{rules, ◌≡◌, false}
use Rattle.run_io.specs.Settings.{is_unset}
use Rattle.snes_commands.proofs.TaggingLemmas.{never}
use Rattle.snes_commands.proofs.tagging.set_field.Goals as goal

pub unreachable-requires : goal.unreachable-requires
unreachable-requires c =
    let set : is_unset c.args.pairs.now c.args.setting ≡ false = search rules in
    never c.args.pairs.now c.args.setting c.args.field c.setting_value.result.now c.in_default.field-0
    c.setting_value.ensures c.requires.named c.requires.taken set ((c.set.ensures.refused c.in_default.field-0).0 c.in_default.is)
