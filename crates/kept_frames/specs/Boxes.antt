-- What lies in a block of the heap. Assumes nothing: this is a definition.
use base.Fml.{Fml, fex}
use denote.RattleType.{RattleType}
use denote.RawPtr.{Ptr}
use Rattle.std.specs.declared.alloc.Global.{Global}
use Rattle.std.specs.contracts.impls.GlobalAllocator.TheImpl.{ghosts}
use Rattle.std.specs.Box.Ownership.{box_owns}

-- ownership of the value x of type R at p, and the right of some handle of the heap to free its block
abbrev pub heap_owns : (R : RattleType) → Ptr → R.Denot → Fml
heap_owns R p x = fex Global (λ g. box_owns (ghosts.dealloc_token g) R p x)
