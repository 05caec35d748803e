use Rattle.std.proofs.Common.{refl, ◌∙◌, sym, subst}
use Rattle.word_log.specs.Wholes.{StandForBoth}
use Rattle.word_log.proofs.Seats.{begins}
use Rattle.word_log.proofs.words.Words.open.Goals as goal

pub of_words-requires : goal.of_words-requires
of_words-requires c =
    begins c.args.region c.as_slice.result.now (c.as_slice.ensures.value ∙ c.in-Ok.ensures.items_if_clones_equal (λ y same. same))
    (c.as_slice.ensures.len ∙ c.in-Ok.ensures.len)

pub invariant_of-whole : goal.invariant_of-whole
invariant_of-whole c =
    subst (λ m. StandForBoth m c.in_ok-console.console c.in_ok-sound.sound) (sym c.in-Ok-of_words.ensures.4)
    (record { no_slot = refl; has_console = refl; has_sound = refl; console_ready = c.in_ok-console.ensures.console; sound_ready = c.in_ok-sound.ensures.sound })
