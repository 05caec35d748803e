use Rattle.std.proofs.Common.{◌<◌, ◌∙◌, subst, ap, sym}
use Rattle.beam.specs.Events.{BeamValue}
use Rattle.beam.specs.Places.{clocks_left}
use Rattle.whole_instructions.proofs.RegisterWrites.{register_keeps}
use Rattle.whole_instructions.proofs.stores.put_register.Goals as goal

pub go_on-requires : goal.go_on-requires
go_on-requires c =
    let Few : BeamValue → Type 0 = λ b. 6 < clocks_left b in
    let same = ap (λ r. r.beam) c.put.ensures ∙ (ap (λ r. r.beam) c.write_register.ensures.written ∙ (register_keeps c.args.bus.now c.args.register c.args.v).beam) in
    subst Few (sym same) c.requires
