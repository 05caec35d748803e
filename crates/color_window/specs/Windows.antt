-- When a pixel lies in a layer's windows (2123 to 212B; nocash fullsnes, "SNES PPU Window").
use Rattle.std.specs.Prelude.{ℕ, Bool, not, ◌&&◌, ◌||◌, nat_le, if◌then◌else◌}
use Rattle.ppu_regs.specs.declared.registers.Registers.{Registers}
use Rattle.ppu_regs.specs.declared.registers.Window.{Window}
use Rattle.ppu_regs.specs.declared.registers.LayerWindows.{LayerWindows}
use Rattle.ppu_regs.specs.declared.registers.Combine.{Combine}
use Rattle.ppu_regs.specs.declared.registers.Combine.TheVariants.{Or, And, Xor, Xnor}
use Rattle.ppu_regs.specs.Picture.{windows_of}

-- whether two truths differ
abbrev pub differs : Bool → Bool → Bool
differs a b = if a then not b else b

-- a window holds the pixels from its left to its right edge, both inclusive, and none where the left edge is the
-- greater one
unfoldable pub is_within : Window → ℕ → Bool
is_within window x = nat_le window.left x && nat_le x window.right

-- two windows together
abbrev pub combined : Combine → Bool → Bool → Bool
combined Or one two = one || two
combined And one two = one && two
combined Xor one two = differs one two
combined Xnor one two = not (differs one two)

-- What a layer makes of being in the two windows: each is turned where it counts outside, both are joined where both
-- are on, one alone counts where it alone is on, and with none on nothing is inside.
unfoldable pub truth_of : LayerWindows → Bool → Bool → Bool
truth_of w in_one in_two =
    let one : Bool = differs w.one_outside in_one in
    let two : Bool = differs w.two_outside in_two in
    if w.one_on then (if w.two_on then combined w.combine one two else one) else (w.two_on && two)

-- whether the pixel x lies in the windows of a layer: 1 to 4 for BG1 to BG4, 5 for the objects, 6 for the colour window
unfoldable pub is_inside : Registers → ℕ → ℕ → Bool
is_inside r layer x = truth_of (windows_of r layer) (is_within r.window_one x) (is_within r.window_two x)

-- a truth as a byte of a mask row: all bits or none
unfoldable pub mask_of : Bool → ℕ
mask_of truth = if truth then 255 else 0
