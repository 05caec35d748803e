use Rattle.std.proofs.Common.{sym, refl, ap, ◌∙◌, ℕ}
use Rattle.spc_tables.specs.declared.access.SpcAccess.TheVariants.{Read, Write}
use Rattle.spc_modes.specs.declared.place.Place.{Place}
use Rattle.audio_side.specs.Effect.{after_load, loaded, stored}
use Rattle.audio_side.proofs.Follows.{access_at, acts_by, moves_by}
use Rattle.audio_side.proofs.step.access.Goals as goal

pub returns-in-Load-clause-processor : goal.returns-in-Load-clause-processor
returns-in-Load-clause-processor c =
    moves_by c.args.spc.now c.took_data.new.self c.args.hardware.now c.take-byte.result c.args.got (Read c.args.spc.now.micro.base)
    (access_at c.args.spc.now Place.Load (sym c.in-Load.ensures)) (ap (λ (n : ℕ). loaded c.args.hardware.now n c.args.got) (sym c.base.ensures) ∙ sym c.take-byte.ensures.byte) c.took_data.ensures

pub returns-in-Load-clause-hardware : goal.returns-in-Load-clause-hardware
returns-in-Load-clause-hardware c =
    acts_by c.args.spc.now c.args.hardware.now c.take-byte.new.self (Read c.args.spc.now.micro.base) (access_at c.args.spc.now Place.Load (sym c.in-Load.ensures))
    (c.take-byte.ensures.after ∙ ap (λ (n : ℕ). after_load c.args.hardware.now n) c.base.ensures)

pub returns-in-WriteLast-clause-processor : goal.returns-in-WriteLast-clause-processor
returns-in-WriteLast-clause-processor c = λ s h.
    moves_by c.args.spc.now c.wrote_last.new.self c.args.hardware.now 0 c.args.got (Write c.args.spc.now.micro.base c.args.spc.now.micro.byte)
    (access_at c.args.spc.now Place.WriteLast (sym c.in-WriteLast.ensures)) refl c.wrote_last.ensures s h

pub returns-in-WriteLast-clause-hardware : goal.returns-in-WriteLast-clause-hardware
returns-in-WriteLast-clause-hardware c =
    acts_by c.args.spc.now c.args.hardware.now c.put.new.self (Write c.args.spc.now.micro.base c.args.spc.now.micro.byte)
    (access_at c.args.spc.now Place.WriteLast (sym c.in-WriteLast.ensures))
    (c.put.ensures ∙ ap (λ (n : ℕ). stored c.args.hardware.now n c.last_byte.result) c.base-in-WriteLast.ensures ∙ ap (λ (n : ℕ). stored c.args.hardware.now c.args.spc.now.micro.base n) c.last_byte.ensures)
