-- What contracts see of bytes that are put one after another: the bytes, and for how many there is memory.
use Rattle.std.specs.Prelude.{ℕ, List}

pub record Put : Type 0 where
  pub bytes : List ℕ
  pub room : ℕ
