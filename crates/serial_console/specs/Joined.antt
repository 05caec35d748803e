-- THE VALUE of a serial console: its two machines, and the four bytes each way between them, each by its port.
use Rattle.std.specs.Prelude.{ℕ, List}

pub record Joined (C S : Type 0) : Type 0 where
  pub console : C
  pub sound : S
  pub to_sound : List ℕ
  pub to_console : List ℕ
