-- Which scripts have the same pads, and which have the pads of some frames.
use Rattle.std.specs.Prelude.{◌≡◌, ℕ, zero, suc, ◌+◌, ◌<◌, List, [], ◌∷◌, ◌++◌, length, if◌then◌else◌}
use Rattle.snes_defs.specs.declared.script.Span.{Span}
use Rattle.snes_defs.specs.Script.{frames_of, pads_at}
use Rattle.plan_drive.specs.Paths.{Path}
use Rattle.frame_player.specs.Joined.{Frame}

-- TWO PATHS HAVE THE SAME PADS: they last the same number of frames, and each frame has the same pads in both
pub record HaveSamePads (path other : List Span) : Type 0 where
  pub lasts : frames_of path ≡ frames_of other
  pub pads : (frame : ℕ) → frame < frames_of path → pads_at path frame ≡ pads_at other frame

-- the pads with which frame k of some frames was played, and zeros after the last
abbrev pub pads_played : List Frame → ℕ → ℕ × ℕ
pads_played [] k = (0, 0)
pads_played (f ∷ rest) zero = (f.pad1, f.pad2)
pads_played (f ∷ rest) (suc k) = pads_played rest k

-- SPANS HAVE THE PADS OF FRAMES: each frame has in them the pads with which it was played
abbrev pub HasPadsOf : List Span → List Frame → Type 0
HasPadsOf spans frames = (k : ℕ) → k < length frames → pads_at spans k ≡ pads_played frames k

-- THE FRAMES BEFORE WHICH THE BUTTON WAS PRESSED, of some that were played from frame k on
abbrev pub presses_from : ℕ → List Frame → List ℕ
presses_from k [] = []
presses_from k (f ∷ rest) = (if f.reset then k ∷ [] else []) ++ presses_from (k + 1) rest

-- each of some frames was played with these pads
abbrev pub ArePlayedWith : (pad1 pad2 : ℕ) → List Frame → Type 0
ArePlayedWith pad1 pad2 [] = Unit {0}
ArePlayedWith pad1 pad2 (f ∷ rest) = (f.pad1 ≡ pad1) × (f.pad2 ≡ pad2) × ArePlayedWith pad1 pad2 rest

-- the path of one span, with some resets
abbrev pub one_span_path : (count pad1 pad2 : ℕ) → List ℕ → Path
one_span_path count' pad1' pad2' resets' = record { spans = record { count = count'; pad1 = pad1'; pad2 = pad2' } ∷ []; resets = resets' }
