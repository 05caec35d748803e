-- A sound file that is longer than its limit is refused, and one that is read is accepted.
use Rattle.std.proofs.Common.{◌≡◌, ℕ, ◌<◌, true, nat_lt, List, length, refl, Option, Some, None}
use Rattle.std.proofs.lemmas.Bool.{lt-ltb}
use Rattle.shelf.specs.declared.shelves.Input.TheVariants as input
use Rattle.spc_player.specs.declared.image.SpcRefused.TheVariants.{TooLong}
use Rattle.spc_player.specs.SoundFile.{refusal_of}
use Rattle.snes_commands.specs.declared.status.Why.{Why}
use Rattle.snes_commands.specs.declared.status.Why.TheVariants as why
use Rattle.snes_commands.specs.Kinds.{input_of, AreRefused, AreAccepted}

pub spc_longer : (bytes : List ℕ) → 1048576 < length bytes → AreRefused bytes (why.Spc TooLong)
unfolding refusal_of
spc_longer bytes long =
    let more : nat_lt 1048576 (length bytes) ≡ true = lt-ltb 1048576 (length bytes) long in
    rw more refl

-- a file is refused or not, and for one cause
none_refused : {A : Type 0} (r : Option A) (a : A) → r ≡ None → r ≡ Some a → ⊥
none_refused r a p q = cc

pub one_refused : {A : Type 0} (r : Option A) (a b : A) → r ≡ Some a → r ≡ Some b → a ≡ b
one_refused r a b p q = cc

pub spc_accepted : (bytes : List ℕ) → refusal_of bytes ≡ None → AreAccepted input.Spc bytes
spc_accepted bytes h = record { unrefused = go }
  where
    go : (cause : Why) → input_of cause ≡ input.Spc → ¬ AreRefused bytes cause
    go (why.Spc cause) is refused = none_refused (refusal_of bytes) cause h refused
    go (why.Cart cause) is refused = cc
    go why.Boot is refused = cc
    go (why.Table entry) is refused = cc
    go (why.Script line) is refused = cc
    go (why.Plan line) is refused = cc
    go (why.Sums line) is refused = cc

pub ruleset spc = (spc_longer, spc_accepted)
