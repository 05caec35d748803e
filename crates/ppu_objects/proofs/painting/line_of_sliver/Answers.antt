-- The pixels of a sliver's two words are its values.
use Rattle.std.proofs.Common.{◌≡◌, ℕ, ◌+◌, ◌%◌, slice_index, ap, ◌∙◌}
use Rattle.ppu_regs.specs.declared.registers.Registers.{Registers}
use Rattle.ppu_objects.specs.Slivers.{sliver_word}
use Rattle.ppu_objects.proofs.Lines.{line_is}
use Rattle.ppu_objects.proofs.painting.line_of_sliver.Goals as goal

pub returns : goal.returns
returns c =
    let words = c.vram-vram.ensures.words in
    let at : ℕ = c.word_of_sliver-at.result in
    let place : at ≡ sliver_word c.args.p.now.registers c.args.sliver.now.object c.args.sliver.now.column c.args.row =
    c.word_of_sliver-at.ensures.value
    ∙ ap (λ (r : Registers). sliver_word r c.args.sliver.now.object c.args.sliver.now.column c.args.row) c.registers.ensures
    in
    c.line_of_words.ensures
    ∙ line_is c.args.p.now.vram c.args.p.now.registers c.args.sliver.now.object c.args.sliver.now.column c.args.row _ _
    (ap (λ xs. slice_index xs at) words ∙ ap (λ n. slice_index c.args.p.now.vram n) place)
    (ap (λ xs. slice_index xs ((at + 8) % 32768)) words ∙ ap (λ n. slice_index c.args.p.now.vram ((n + 8) % 32768)) place)
