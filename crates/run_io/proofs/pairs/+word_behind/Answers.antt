use Rattle.std.proofs.Common.{rules, ◌≡◌, ◌∷◌, false, sym, ◌∙◌}
use Rattle.std.specs.Str.{bytes_eq}
use Rattle.run_io.proofs.PairLemmas.{word_next}
use Rattle.run_io.proofs.pairs.+word_behind.Goals as goal

pub returns : goal.returns
returns t c =
    let words : c.args.pairs.now ≡ c.in-Some.name.now ∷ (c.in-Some-split_first.value.now ∷ c.in-Some-split_first.rest.now) = search rules in
    let other : bytes_eq c.in-Some.name.now c.args.option.now ≡ false = search rules in
    c.word_behind.ensures ∙ sym (word_next c.args.pairs.now c.in-Some.name.now c.in-Some-split_first.value.now c.in-Some-split_first.rest.now c.args.option.now words other)
