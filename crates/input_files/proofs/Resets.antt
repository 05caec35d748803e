-- Lemmas on the spans and resets that were read.
use Rattle.std.proofs.Common.{◌≡◌, ℕ, ◌+◌, ◌<◌, ◌≤◌, List, [], ◌∷◌, ◌++◌, arith}
use Rattle.snes_defs.specs.declared.script.Span.{Span}
use Rattle.snes_defs.specs.Script.{frames_of, RiseWithin}

-- a span more lasts its count more
pub frames_more : (spans : List Span) (span : Span) → frames_of (spans ++ span ∷ []) ≡ frames_of spans + span.count
frames_more [] span = omega arith
frames_more (s ∷ spans) span = let more = frames_more spans span in omega (arith, more)

-- numbers that rise up to one rise up to a greater one
pub within_more : (least most more : ℕ) (numbers : List ℕ) → RiseWithin least most numbers → most ≤ more → RiseWithin least more numbers
within_more least most more [] rise le = tt
within_more least most more (n ∷ numbers) rise le = (rise.0, omega (arith, rise.1), within_more (n + 1) most more numbers rise.2 le)

-- a number above all of them goes on with the rise
pub rise_more : (least most : ℕ) (numbers : List ℕ) (number : ℕ) → RiseWithin least most numbers → most < number → least ≤ number
    → RiseWithin least number (numbers ++ number ∷ [])
rise_more least most [] number rise lt le = (le, omega arith, tt)
rise_more least most (n ∷ numbers) number rise lt le =
    (rise.0, omega (arith, rise.1), rise_more (n + 1) most numbers number rise.2 lt (omega (arith, rise.1)))
