-- What contracts see of the parts of a sound side.
use Rattle.audio_side.specs.Sound.{AudioValue}
use Rattle.audio_side.specs.declared.parts.Parts.{Parts}

abbrev pub value_of : Parts → AudioValue
value_of p = record { processor = p.spc; hardware = p.hardware; clock = p.clock; waiting = p.waiting.items }
