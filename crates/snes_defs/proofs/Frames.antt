-- How many frames a script lasts that has one span more.
use Rattle.std.proofs.Common.{◌≡◌, ◌+◌, List, [], ◌∷◌, ◌++◌, arith}
use Rattle.snes_defs.specs.declared.script.Span.{Span}
use Rattle.snes_defs.specs.Script.{frames_of}

pub frames_more : (spans : List Span) (span : Span) → frames_of (spans ++ span ∷ []) ≡ frames_of spans + span.count
frames_more [] span = omega arith
frames_more (s ∷ rest) span = omega (arith, frames_more rest span)
