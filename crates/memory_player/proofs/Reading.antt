-- The first input that is not accepted ends the reading.
use Rattle.std.proofs.Common.{ℕ, List, inl, inr}
use Rattle.shelf.specs.declared.shelves.Input.TheVariants as input
use Rattle.snes_commands.specs.Kinds.{AreAccepted}
use Rattle.snes_commands.proofs.KindLemmas.{cart_accepted, boot_accepted, table_accepted, script_longer, script_refused, script_accepted}
use Rattle.memory_player.specs.declared.inputs.End.{End}
use Rattle.memory_player.specs.declared.inputs.End.TheVariants.{Frames, Refused, NoMemory, TooShort}
use Rattle.memory_player.specs.Inputs.{told_of, EndsInput, EndsInputs}

module _ (cart boot table script : List ℕ) where
  pub cart_ends : (end : End) → EndsInput input.Cart cart end → EndsInputs (told_of cart boot table script) end
  cart_ends (Refused cause) h = inl h
  cart_ends NoMemory h = tt
  cart_ends Frames h = absurd h
  cart_ends (TooShort side) h = absurd h

  pub boot_ends : (end : End) → AreAccepted input.Cart cart → EndsInput input.Boot boot end → EndsInputs (told_of cart boot table script) end
  boot_ends (Refused cause) a h = inr (a, inl h)
  boot_ends NoMemory a h = tt
  boot_ends Frames a h = absurd h
  boot_ends (TooShort side) a h = absurd h

  pub table_ends : (end : End) → AreAccepted input.Cart cart → AreAccepted input.Boot boot → EndsInput input.Table table end → EndsInputs (told_of cart boot table script) end
  table_ends (Refused cause) a b h = inr (a, inr (b, inl h))
  table_ends NoMemory a b h = tt
  table_ends Frames a b h = absurd h
  table_ends (TooShort side) a b h = absurd h

  pub script_ends : (end : End) → AreAccepted input.Cart cart → AreAccepted input.Boot boot → AreAccepted input.Table table → EndsInput input.Script script end
      → EndsInputs (told_of cart boot table script) end
  script_ends (Refused cause) a b c h = inr (a, inr (b, inr (c, inl h)))
  script_ends NoMemory a b c h = tt
  script_ends Frames a b c h = absurd h
  script_ends (TooShort side) a b c h = absurd h

pub ruleset reads = (cart_ends, boot_ends, table_ends, script_ends)

pub ruleset kinds = (cart_accepted, boot_accepted, table_accepted, script_longer, script_refused, script_accepted)
