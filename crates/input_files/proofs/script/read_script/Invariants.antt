use Rattle.std.proofs.Common.{◌≡◌}
use Rattle.input_files.specs.Script.{script_of, read_on}
use Rattle.input_files.proofs.script.read_script.Given as goal

-- the script of the whole file is what the lines that are left add to what was read
abbrev pub invariant-loop-line : goal.invariant-loop-line
invariant-loop-line l = script_of l.fn.file ≡ read_on l.line-iterator l.number l.reading
