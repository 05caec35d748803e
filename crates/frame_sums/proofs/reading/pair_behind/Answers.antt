use Rattle.std.proofs.Common.{◌≡◌, true, length, take, Some, None, refl, sym, ◌∙◌}
use Rattle.std.specs.Str.{bytes_eq}
use Rattle.frame_sums.proofs.ReadLemmas.{pair_read, first_bad, second_bad}
use Rattle.frame_sums.proofs.reading.pair_behind.Goals as goal
use Rattle.frame_sums.proofs.reading.pair_behind.Goals.{then-sums-ne44-via-then-sums-ne44, then-sums-ne44-via-else-sums-ne44+then-sums-ne44-2}

pub returns-then-sums-ne44 : goal.returns-then-sums-ne44
returns-then-sums-ne44 c =
    let name = c.args.name.now in
    let line = c.args.line.now in
    let begins : bytes_eq name (take (length name) line) ≡ true = sym c.starts_with.ensures.value ∙ c.if-not-starts_with.false in
    elim c.then-sums-ne44.branch [
      | then-sums-ne44-via-then-sums-ne44 w ↦ sym (first_bad name line c.if-line-name.false begins w.if-sums-ne44.true)
      | then-sums-ne44-via-else-sums-ne44+then-sums-ne44-2 w ↦ sym (second_bad name line c.if-line-name.false begins w.if-sums-ne44.false w.if-sums-ne44-2.true)
    ]

pub returns-in_err-picture : goal.returns-in_err-picture
returns-in_err-picture c =
    let name = c.args.name.now in
    let line = c.args.line.now in
    let begins : bytes_eq name (take (length name) line) ≡ true = sym c.starts_with.ensures.value ∙ c.if-not-starts_with.false in
    c.from_residual.ensures
    ∙ sym (pair_read name line c.if-line-name.false begins None _ c.if-sums-ne44.false c.if-sums-ne44-2.false (sym c.in_err-picture.ensures) refl)

pub returns-in_err-sound : goal.returns-in_err-sound
returns-in_err-sound c =
    let name = c.args.name.now in
    let line = c.args.line.now in
    let begins : bytes_eq name (take (length name) line) ≡ true = sym c.starts_with.ensures.value ∙ c.if-not-starts_with.false in
    c.from_residual-in_err-sound.ensures
    ∙ sym (pair_read name line c.if-line-name.false begins (Some c.in_ok-picture.picture) None c.if-sums-ne44.false c.if-sums-ne44-2.false (sym c.in_ok-picture.ensures) (sym c.in_err-sound.ensures))

pub returns : goal.returns
returns c =
    let name = c.args.name.now in
    let line = c.args.line.now in
    let begins : bytes_eq name (take (length name) line) ≡ true = sym c.starts_with.ensures.value ∙ c.if-not-starts_with.false in
    sym (
    pair_read name line c.if-line-name.false begins (Some c.in_ok-picture.picture) (Some c.in_ok-sound.sound) c.if-sums-ne44.false c.if-sums-ne44-2.false (sym c.in_ok-picture.ensures) (sym c.in_ok-sound.ensures)
    )
