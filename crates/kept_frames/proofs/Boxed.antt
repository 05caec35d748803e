-- The rows of the walks. Assumes nothing: these are definitions.
--     State, Heap, Handle         the state, the allocator, and what C holds
--     A, A-laws                   the allocator as what a call's type parameter stands for
--     no_drop, drops              the symbol of the glue that drops nothing, and the table by which code drops an allocator
--     On T L                      boxes of the heap whose values have the row T
--     Good, single                a machine value of a type;  what is typed as one value is one
--     pointer                     the machine value of a struct whose one field is a pointer
use Rattle.std.proofs.Common.{◌≡◌, List, [], ◌∷◌, refl}
use lib.Dec.{T}
use mir.Syntax.{Ty, Dict, Symbol, impl, tcons, tnil, dnil}
use mir.Val.{Val, vstruct, vcons, vnil, has_ty, WT}
use mir.Raw.{raw as bare}
use denote.Exit.{no}
use denote.RattleType.{RattleType}
use denote.RawPtr.{Ptr, ptr_val}
use denote.Laws.{Typed}
use denote.Param.{layout, arg}
use denote.Param.Laws.{Laws, arg_laws}
use Rattle.std.proofs.BoxSteps.Form.{Bx}
use Rattle.std.specs.contracts.alloc.Global as heap
use Rattle.std.proofs.alloc.Global.TheLaws as heap_laws
use Rattle.std.specs.contracts.impls.GlobalAllocator.TheImpl.{ghosts, dict}
use Rattle.frame_player.specs.contracts.console.Frames as state
use Rattle.kept_frames.specs.contracts.kept.KeptFrames as handle

abbrev pub State : RattleType
State = state.the_row

abbrev pub Heap : RattleType
Heap = heap.the_row

abbrev pub Handle : RattleType
Handle = handle.the_row

abbrev pub A : RattleType
A = arg (bare (layout Heap)) no Heap

abbrev pub A-laws : Laws A
A-laws = arg_laws (bare (layout Heap)) no Heap heap_laws.the_row_laws refl

abbrev pub no_drop : Symbol
no_drop = "kept_frames::Destruct++none::drop"

abbrev pub drops : Dict
drops = impl (no_drop ∷ []) (tcons (layout A) tnil) dnil

abbrev pub On : (T : RattleType) → Laws T → Bx
On T L = record { row = T; laws = L; al = record { row = A; laws = A-laws; g = ghosts; d = dict; drops = drops } }

abbrev pub Good : Ty → Val → Type 0
Good τ v = T (has_ty τ v) × WT v

pub single : (τ : Ty) (vs : List Val) → Typed (τ ∷ []) vs → (v : Val) × (vs ≡ v ∷ []) × Good τ v
single τ [] t = absurd t
single τ (v ∷ []) t = (v, refl, t.0)
single τ (v ∷ w ∷ vs) t = absurd t.1

abbrev pub pointer : Ptr → Val
pointer p = vstruct (vcons (ptr_val p) vnil)
