-- The Y of all objects, side by side.
use Rattle.std.specs.Prelude.{◌≡◌, ℕ, ◌+◌, ◌*◌, ◌<◌, List, slice_index}

unfoldable pub AreTops : List ℕ → List ℕ → Type 0
AreTops tops oam = (n : ℕ) → n < 128 → slice_index tops n ≡ slice_index oam (4 * n + 1)
