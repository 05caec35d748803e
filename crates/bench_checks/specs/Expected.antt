-- When bytes, sums, samples, instructions and warnings are as a bench file expects them.
use Rattle.std.specs.Prelude.{◌≡◌, ℕ, ◌+◌, ◌*◌, ◌<◌, ◌≤◌, Bool, true, false, List, length, vec_len, slice_index, Option, Some, None, IsSome, count_by}
use Rattle.bench_checks.specs.declared.plan.Expected.{Expected}
use Rattle.bench_checks.specs.declared.plan.Expected.TheVariants.{Byte, Word, Bytes}
use Rattle.bench_checks.specs.declared.sums.Sum.{Sum}
use Rattle.lint_rules.specs.declared.rule.Severity.{Severity}
use Rattle.lint_rules.specs.declared.rule.Severity.TheVariants.{Warning, Note}

-- how many bytes are expected
abbrev pub size_of : Expected → ℕ
size_of (Byte least most) = 1
size_of (Word least most) = 2
size_of (Bytes bytes) = vec_len bytes

-- a number is one of these bounds, or between them
abbrev pub IsWithin : ℕ → ℕ → ℕ → Type 0
IsWithin least most number = (least ≤ number) × (number ≤ most)

-- the bytes of a place are those that are expected: a word has its low byte first
abbrev pub AreMet : Expected → List ℕ → Type 0
AreMet (Byte least most) bytes = (length bytes ≡ 1) × IsWithin least most (slice_index bytes 0)
AreMet (Word least most) bytes = (length bytes ≡ 2) × IsWithin least most (slice_index bytes 0 + 256 * slice_index bytes 1)
AreMet (Bytes expected) bytes = bytes ≡ expected.items

-- a sum is that which is expected, if one is
abbrev pub IsSumMet : Option Sum → List ℕ → Type 0
IsSumMet None sum = Unit {0}
IsSumMet (Some expected) sum = sum ≡ expected.bytes

-- the first instruction at an address began in one of the first frames, so many
abbrev pub IsInTime : ℕ → Option ℕ → Type 0
IsInTime within None = ⊥
IsInTime within (Some frame) = frame < within

-- what is heard is as expected, by the first frame in which a sample is other than 0
abbrev pub IsHeardAs : Option Bool → Option ℕ → Type 0
IsHeardAs None heard = Unit {0}
IsHeardAs (Some true) heard = IsSome heard
IsHeardAs (Some false) heard = heard ≡ None

-- a finding of lint is a warning, and not a note
abbrev pub is_warning : Severity → Bool
is_warning Warning = true
is_warning Note = false

-- no finding is a warning, by the severities of those that are not allowed, and none was left out
abbrev pub IsWithoutWarnings : List Severity → ℕ → Type 0
IsWithoutWarnings found more = (count_by is_warning found ≡ 0) × (more ≡ 0)
