-- A call that was done, or was not.
use Rattle.std.proofs.Common.{Bool, true, false, refl}
use Rattle.std.specs.Prelude.{IsTrue, IsFalse}

pub either : {A : Type 0} (b : Bool) → (IsTrue b → A) → (IsFalse b → A) → A
either true if_so if_not = if_so refl
either false if_so if_not = if_not refl
