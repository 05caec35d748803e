use Rattle.std.proofs.Common.{refl, sym, ◌∙◌}
use Rattle.sdsp_voice.proofs.Still.{no_sums_of_still, voices_stay}
use Rattle.sdsp_voice.proofs.voices.Voices.sample.Goals as goal

pub returns-then-are_all_still-clause-after : goal.returns-then-are_all_still-clause-after
returns-then-are_all_still-clause-after c =
    c.step_noise.ensures ∙ sym (voices_stay c.args.ram.now c.args.table.now c.args.s c.args.self.now (c.if-are_all_still.ensures.voices refl) (c.if-are_all_still.ensures.notes refl))

pub returns-then-are_all_still-clause-sums : goal.returns-then-are_all_still-clause-sums
returns-then-are_all_still-clause-sums c =
    sym (no_sums_of_still c.args.ram.now c.args.table.now c.args.s c.args.self.now (c.if-are_all_still.ensures.voices refl) (c.if-are_all_still.ensures.notes refl))
