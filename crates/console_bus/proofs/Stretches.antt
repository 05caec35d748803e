-- The first access of a stretch of the memory.
use Rattle.std.proofs.Common.{◌≡◌, ℕ, ◌+◌, ◌%◌, ◌<◌, Bool, Option, Some, None, IfSome, subst, arith}
use Rattle.console_bus.specs.declared.cart_board.CartBoard.{CartBoard}
use Rattle.console_bus.specs.declared.address_map.MemoryAccess.{MemoryAccess}
use Rattle.console_bus.specs.Memory.{IsMemoryAt, IsStretch}

pub first_of_stretch : (board : CartBoard) (fast : Bool) (addr : ℕ) (found : Option MemoryAccess)
    → IfSome found (λ access. IsStretch board fast addr access.at access.clocks)
    → IfSome found (λ access. IsMemoryAt board fast addr access.at access.clocks)
first_of_stretch board fast addr None h = h
first_of_stretch board fast addr (Some access) h =
    let a : addr + 0 ≡ addr = omega arith in
    let b : access.at + 0 ≡ access.at = omega arith in
    let At : ℕ → Type 0 = λ n. IsMemoryAt board fast n (access.at + 0) access.clocks in
    let Of : ℕ → Type 0 = λ n. IsMemoryAt board fast addr n access.clocks in
    subst Of b (subst At a (h.bytes 0 (omega arith)))
