use Rattle.std.proofs.Common.{◌≡◌, drop}
use Rattle.snes_defs.specs.Script.{pads_at}
use Rattle.snes_defs.proofs.script.Spans.pads.Given as goal

-- what is left of the frame's number is looked for in the spans that are left
abbrev pub invariant-loop-span : goal.invariant-loop-span
invariant-loop-span l = pads_at l.self.spans l.frame ≡ pads_at (drop l.span-index l.span-items) l.left
