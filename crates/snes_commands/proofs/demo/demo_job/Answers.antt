use Rattle.std.proofs.Common.{rules, refl}
use Rattle.snes_commands.specs.Make.{IsImage}
use Rattle.snes_commands.proofs.DemoCartridge.{image_is_cartridge}
use Rattle.snes_commands.proofs.demo.demo_job.Goals as goal

pub returns : goal.returns
returns c =
    let image = c.in-Ok.rom.items in
    let of_number : IsImage c.args.number image = search rules in
    record {
      image = image;
      of_number = of_number;
      cart = image_is_cartridge c.args.number image of_number _ refl c.of.ensures.kept refl;
      boot = search rules;
      table_size = search rules;
      table = search rules;
      script = search rules;
      frames_are = search rules;
      region = search rules;
    }
