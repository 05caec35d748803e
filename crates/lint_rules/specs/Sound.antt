-- The echo buffer and ENDX. After fullsnes ("SNES APU DSP Echo Registers", "SNES APU DSP BRR Samples"): the buffer begins at page ESA and
-- has EDL times 2,048 bytes, or 4; bit 5 of FLG forbids writes to it. What a loop that waits is, is this project's choice.
use Rattle.std.specs.Prelude.{ℕ, ◌+◌, ◌-◌, ◌*◌, ◌/◌, ◌%◌, Option, Some, None, Bool, ◌&&◌, ◌==◌, nat_le, nat_lt, if◌then◌else◌}
use Rattle.lint_rules.specs.declared.echo.Echo.{Echo}
use Rattle.lint_rules.specs.declared.echo.EndxPolls.{EndxPolls}
use Rattle.lint_rules.specs.declared.rule.Rule.{Rule}
use Rattle.lint_rules.specs.declared.rule.Rule.TheVariants.{EchoOverMemory, WaitForEndx}

-- the bytes of the buffer, by EDL
abbrev pub echo_size : ℕ → ℕ
echo_size delay = if delay % 16 == 0 then 4 else 2048 * (delay % 16)

-- whether the S-DSP writes to a byte: how far it is behind the beginning, modulo 65,536
abbrev pub covers : Echo → ℕ → Bool
covers e at = e.flags / 32 % 2 == 0 && nat_lt ((65536 + at - 256 * e.start) % 65536) (echo_size e.delay)

abbrev pub echo_broken : Echo → ℕ → Option Rule
echo_broken e at = if covers e at then Some EchoOverMemory else None

-- the reads of a loop are by one instruction, within 64 cycles of each other; they are counted to 3, and 4 is any later one
abbrev pub goes_on : EndxPolls → ℕ → ℕ → Bool
goes_on p by cycle = by == p.by && nat_le (cycle - p.last) 64

abbrev pub counted : Bool → ℕ → ℕ
counted again count = if again then (if nat_lt count 3 then count + 1 else 4) else 1

abbrev pub polled : EndxPolls → ℕ → ℕ → EndxPolls
polled p by cycle = record { by = by; last = cycle; count = counted (goes_on p by cycle) p.count }

abbrev pub waits_for_endx : EndxPolls → Option Rule
waits_for_endx p = if p.count == 3 then Some WaitForEndx else None
