-- The exit status of each answer, and its line for the user.
use Rattle.std.specs.Prelude.{ℕ, List, Option, Some, None}
use Rattle.std.specs.Option.{option_map}
use Rattle.run_io.specs.Line.{line_of, usage_text, cannot_read_text, cannot_write_text, no_memory_text, cart_refused_text, boot_refused_text, spc_too_long_text, spc_too_short_text, spc_no_text_text, table_refused_text, script_refused_text, plan_refused_text, sums_refused_text}
use Rattle.spc_player.specs.declared.image.SpcRefused.TheVariants.{TooLong, TooShort, NoText}
use Rattle.snes_commands.specs.declared.status.Why.{Why}
use Rattle.snes_commands.specs.declared.status.Why.TheVariants as why
use Rattle.snes_commands.specs.declared.status.Status.{Status}
use Rattle.snes_commands.specs.declared.status.Status.TheVariants.{Ok, Usage, LoadFault, Refused, WriteFault, NoMemory, Differs}

abbrev pub exit_of : Status → ℕ
exit_of Ok = 0
exit_of Usage = 1
exit_of (LoadFault input) = 2
exit_of (Refused cause) = 3
exit_of (WriteFault out) = 4
exit_of NoMemory = 5
exit_of Differs = 6

-- the text of a refusal
abbrev pub refused_text : Why → List ℕ
refused_text (why.Cart cause) = cart_refused_text cause
refused_text why.Boot = boot_refused_text
refused_text (why.Spc TooLong) = spc_too_long_text
refused_text (why.Spc TooShort) = spc_too_short_text
refused_text (why.Spc NoText) = spc_no_text_text
refused_text (why.Table entry) = table_refused_text entry
refused_text (why.Script line) = script_refused_text line
refused_text (why.Plan line) = plan_refused_text line
refused_text (why.Sums line) = sums_refused_text line

-- the line of an answer, where it has one: that of Ok is the command's own, and a fault of the lines has none
abbrev pub refusal_of : Status → Option (List ℕ)
refusal_of Ok = None
refusal_of Differs = None
refusal_of Usage = Some (line_of usage_text)
refusal_of (LoadFault input) = Some (line_of (cannot_read_text input))
refusal_of (Refused cause) = Some (line_of (refused_text cause))
refusal_of (WriteFault out) = option_map line_of (cannot_write_text out)
refusal_of NoMemory = Some (line_of no_memory_text)
