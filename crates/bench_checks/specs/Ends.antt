-- How a case ended, by what is known of it, and how many cases ended how.
use Rattle.std.specs.Prelude.{Bool, true, false, nat_eq, if◌then◌else◌, List, count_by, vec_len}
use Rattle.bench_checks.specs.declared.verdict.Verdict.{Verdict}
use Rattle.bench_checks.specs.declared.verdict.End.{End}
use Rattle.bench_checks.specs.declared.verdict.End.TheVariants.{Passed, Failed, Fault}
use Rattle.bench_checks.specs.declared.counts.Counts.{Counts}

-- a case that could not be run is a fault; else it failed if a line says what is not as expected
abbrev pub end_of : Verdict → End
end_of v = if v.is_fault then Fault else (if nat_eq (vec_len v.lines) 0 then Passed else Failed)

abbrev pub is_passed : End → Bool
is_passed Passed = true
is_passed Failed = false
is_passed Fault = false

abbrev pub is_failed : End → Bool
is_failed Passed = false
is_failed Failed = true
is_failed Fault = false

abbrev pub is_fault : End → Bool
is_fault Passed = false
is_fault Failed = false
is_fault Fault = true

-- how many cases ended how
abbrev pub counts_of : List End → Counts
counts_of ends = record { passed = count_by is_passed ends; failed = count_by is_failed ends; faults = count_by is_fault ends }
