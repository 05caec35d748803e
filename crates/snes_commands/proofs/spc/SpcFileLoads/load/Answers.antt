use Rattle.std.proofs.Common.{◌≡◌, ℕ, List, Some, Err, refl, inl, subst, rules}
use Rattle.shelf.specs.declared.shelves.Input.TheVariants as input
use Rattle.spc_player.specs.declared.image.SpcEnd.TheVariants.{Refused}
use Rattle.spc_player.specs.SoundFile.{refusal_of}
use Rattle.snes_commands.specs.Loads.{told_in}
use Rattle.snes_commands.proofs.Loading.{loaded_is}
use Rattle.snes_commands.proofs.spc.SpcFileLoads.load.Goals as goal

pub returns-in-Err-Refused-clause-ends : goal.returns-in-Err-Refused-clause-ends
returns-in-Err-Refused-clause-ends g c =
    let told = told_in (g.H.Shelf.shown c.args.shelf.now) c.args.pairs.now in
    let cause = c.in-Err-Refused.cause in
    let answer : c.read_spc.result ≡ Err (Refused cause) = search rules in
    let refused : refusal_of c.as_slice.result.now ≡ Some cause = (c.read_spc.ensures.refused cause).0 answer in
    let here : refusal_of c.in_ok-file.file.items ≡ Some cause = subst (λ (bytes : List ℕ). refusal_of bytes ≡ Some cause) c.as_slice.ensures.value refused in
    inl (refl, loaded_is (told input.Spc) c.in_ok-file.file.items (λ bytes. refusal_of bytes ≡ Some cause) c.in_ok-file.ensures.whole here)
