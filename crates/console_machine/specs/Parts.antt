-- The parts of a console side as its value.
use Rattle.console_machine.specs.declared.parts.Parts.{Parts}
use Rattle.console_machine.specs.Side.{ConsoleValue}

abbrev pub value_of : Parts → ConsoleValue
value_of p = record { cpu = p.cpu; rest = p.bus; region = p.region; stamp = p.stamp; waiting = p.waiting.items }
