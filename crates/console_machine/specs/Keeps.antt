-- What steps keep of the parts of a console side.
use Rattle.std.specs.Prelude.{◌≡◌}
use Rattle.console_machine.specs.declared.parts.Parts.{Parts}
use Rattle.console_machine.specs.Parts.{value_of}
use Rattle.console_machine.specs.Side.{IsSome}

-- they stand for some console state if they did, and have the region and the room that they had
abbrev pub Keeps : Parts → Parts → Type 0
Keeps old new = (IsSome (value_of old) → IsSome (value_of new)) × (new.region ≡ old.region)
    × (new.waiting.capacity ≡ old.waiting.capacity)
