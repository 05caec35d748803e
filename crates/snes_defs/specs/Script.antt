-- A controller script: who holds which buttons in which frame, which region's machine runs by which profile,
-- and which frames begin with a press of the reset button. This project's own.
use Rattle.std.specs.Prelude.{ℕ, ◌+◌, ◌-◌, ◌≤◌, ◌==◌, Bool, false, ◌||◌, List, [], ◌∷◌, if◌then◌else◌, ltb}
use Rattle.snes_defs.specs.declared.region.Region.{Region}
use Rattle.snes_defs.specs.declared.profile.Profile.{Profile}
use Rattle.snes_defs.specs.declared.script.Span.{Span}

-- a script as contracts see it
pub record Script : Type 0 where
  pub region : Region
  pub profile : Profile
  -- spans of frames with the same pads, one after another
  pub spans : List Span
  -- the numbers of the frames that begin with a reset
  pub resets : List ℕ
  -- up to how many spans, and up to how many resets, it may grow in the memory that it has; 0 for one that was made
  -- whole. No machine looks at it
  pub room : ℕ

-- how many frames the spans last
abbrev pub frames_of : List Span → ℕ
frames_of [] = 0
frames_of (s ∷ rest) = s.count + frames_of rest

-- the two pads of a frame: those of the span in which it lies, and zeros after the last
abbrev pub pads_at : List Span → ℕ → ℕ × ℕ
pads_at [] frame = (0, 0)
pads_at (s ∷ rest) frame =
    if ltb frame s.count then (s.pad1, s.pad2) else pads_at rest (frame - s.count)

-- whether a frame is among those that begin with a reset
abbrev pub is_reset : List ℕ → ℕ → Bool
is_reset [] frame = false
is_reset (f ∷ rest) frame = f == frame || is_reset rest frame

-- numbers that rise, each of them from `least` to `most`
abbrev pub RiseWithin : ℕ → ℕ → List ℕ → Type 0
RiseWithin least most [] = Unit {0}
RiseWithin least most (f ∷ rest) = (least ≤ f) × (f ≤ most) × RiseWithin (f + 1) most rest

-- a script may last 36,000 frames, and its resets rise and stand in frames 1 to 36,000
abbrev pub IsScript : Script → Type 0
IsScript s = (frames_of s.spans ≤ 36000) × RiseWithin 1 36000 s.resets
