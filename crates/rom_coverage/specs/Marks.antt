-- The marks of a byte of ROM: from bit 0 it was an opcode, a part of an operand, read by the processor, read by DMA, the target of a
-- jump, the entry of a subroutine, executed with flag X set, executed with flag M set.
use Rattle.std.specs.Prelude.{ℕ, ◌+◌, ◌*◌, ◌/◌, ◌%◌, ◌==◌, if◌then◌else◌}
use Rattle.rom_coverage.specs.declared.marks.Use.{Use}
use Rattle.rom_coverage.specs.declared.marks.Use.TheVariants.{Executed, Data, Transfer, Never}

-- the byte of the log: code, data, jump, entry, X, M
abbrev pub log_of : ℕ → ℕ
log_of marks =
    (if (marks % 4 == 0) then 0 else 1) + (if (marks / 4 % 4 == 0) then 0 else 2)
    + 4 * (marks / 16 % 2) + 8 * (marks / 32 % 2) + 16 * (marks / 64 % 2) + 32 * (marks / 128 % 2)

-- what the table counts it as: the first that it was
abbrev pub used_as : ℕ → Use
used_as marks =
    if (marks % 4 == 0) then (
    if (marks / 4 % 2 == 0) then (
    if (marks / 8 % 2 == 0) then Never
    else Transfer)
    else Data)
    else Executed
