-- What the walks share. Assumes `Logic`.
--     fact_in, for_ever        a fact is had;  the token of a lifetime that never ends
--     heap_block               what lies on the heap lies in a block
--     loose_out, loose_in      a `Loose` by value is its pointer and what lies on the heap
--     handle_opens, handle_closes      what C holds, behind a `&mut`: [what lies there; the pointer; the open borrow, in three entries]
use Rattle.std.proofs.Common.{◌≡◌, ℕ, List, [], ◌∷◌, ◌++◌, refl, subst}
use seplogic.Ra.Ura.{Ura}
use base.Fraction.{full_share}
use mir.Raw.{raw as bare}
use mir.Val.{Val, vptr, vstruct, of_list}
use base.Logic.{emp, never, fst∗}
use base.Stored.{Gv}
use base.Fml.{Lft, GName, Share, fobs, fauth, fbor, fobor, flft}
use types.Logic.{Logic, sem}
use contract.Monad.{fact, fact_i}
use types.Kit.{Item, Goal, Seq, Soaks, Step, step, ‵, raw, ◌$◌, use0, move, drop, fsplit, fjoin, fpick, fpack, rewrite, feq_i, feq_l}
use types.SemTy.{Body}
use denote.RattleType.{RattleType, Valss}
use denote.Builtin.{RawPtr}
use denote.Laws.{shows}
use denote.Memory.{cell_at, mem, lone}
use denote.RawPtr.{Ptr, block_ptr, null_ptr, ptr_val, in_a_block}
use denote.Steps.{nothing, opens, closes, peeks}
use denote.Struct.Struct.{within}
use denote.Struct.Owning.{shape}
use Rattle.std.specs.declared.alloc.Global.{Global}
use Rattle.std.specs.contracts.impls.GlobalAllocator.TheImpl.{ghosts}
use Rattle.std.specs.Box.Ownership.{box_owns}
use Rattle.kept_frames.specs.Boxes.{heap_owns}
use Rattle.kept_frames.specs.Kept.{kept}
use Rattle.kept_frames.specs.contracts.loose.Loose as loose
use Rattle.kept_frames.specs.contracts.kept.KeptFrames as handle
use Rattle.kept_frames.proofs.kept.KeptFrames.TheLaws.{lowers}
use Rattle.kept_frames.proofs.Boxed.{Handle, pointer}

module _ {M : Type 1} {𝓤 : Ura M} {𝓛 : Logic 𝓤} {K : Type 0} {Γ : List (Item 𝓤)} {G : Goal 𝓤 𝓛.H} where
  pub fact_in : K → {φ : Type 0} → φ → Step K 𝓛 (raw (fact 𝓤 φ) ∷ Γ) G Γ G
  fact_in t {φ} x = step (λ s. use0 𝓛 (raw (fact 𝓤 φ)) (fact_i 𝓤 φ (emp 𝓤) x) $ s)

  pub for_ever : K → Step K 𝓛 (‵ (flft [] full_share) ∷ Γ) G Γ G
  for_ever t = step (λ s. use0 𝓛 (‵ (flft [] full_share)) (𝓛.lfts.lft-nil full_share) $ s)

  pub heap_block : K → (R : RattleType) (p : Ptr) (x : R.Denot)
      → ((b o : ℕ) → p ≡ block_ptr b o → Seq K 𝓛 (‵ (heap_owns R (block_ptr b o) x) ∷ Γ) G)
      → Seq K 𝓛 (‵ (heap_owns R p x) ∷ Γ) G
  heap_block t R p x k = fpick t (λ g. let Lies = λ (p' : Ptr). box_owns (ghosts.dealloc_token g) R p' x in
      in_a_block t p Lies (fst∗ 𝓤 (never 𝓤) (sem 𝓛 (ghosts.dealloc_token g (bare (lone R.mir)) null_ptr))) (λ b o e.
      fpack t Global (λ g'. box_owns (ghosts.dealloc_token g') R (block_ptr b o) x) g $ k b o e))

  pub loose_out : K → (R : RattleType) (d : (loose.the_row R).Denot) (vs : List Val)
      → ((b o : ℕ) → vs ≡ pointer (block_ptr b o) ∷ [] → Seq K 𝓛 (‵ (heap_owns R (block_ptr b o) d.value) ∷ Γ) G)
      → Seq K 𝓛 (‵ ((loose.the_row R).own_val d vs) ∷ Γ) G
  loose_out t R d vs k = fsplit t $ fpick t (λ vss. fsplit t $ feq_l t (λ ev. fsplit t $ feq_l t (λ ep. drop t $
      heap_block t R d.at d.value (λ b o e. k b o
      (subst (λ (p : Ptr). vs ≡ vstruct (of_list (ptr_val p ∷ [])) ∷ []) e (subst (λ (ps : List Val). vs ≡ vstruct (of_list (ps ++ [])) ∷ []) ep ev))))))

  pub loose_in : K → (R : RattleType) (b o : ℕ) (x : R.Denot)
      → Step K 𝓛 (‵ ((loose.the_row R).own_val (record { at = block_ptr b o; value = x }) (pointer (block_ptr b o) ∷ [])) ∷ Γ) G (‵ (heap_owns R (block_ptr b o) x) ∷ Γ) G
  loose_in t R b o x = step (λ s. let v : Val = pointer (block_ptr b o) in
      nothing t $ feq_i t (List Val) (vptr b o ∷ []) (vptr b o ∷ []) refl $ fjoin t $
      feq_i t (List Val) (v ∷ []) (v ∷ []) refl $ fjoin t $
      fpack t (Valss (RawPtr ∷ [])) (within (shape (loose.the_type R)) (block_ptr b o, tt) (v ∷ [])) (vptr b o ∷ [], tt) $
      fjoin t $ s)

  pub handle_opens : K → Soaks G → {κ : Lft} {q : Share} {γ : GName} (d : Handle.Denot) (b o : ℕ)
      → Step K 𝓛 (‵ (kept d.full d.at d.told) ∷ ‵ (cell_at full_share Handle.mir (pointer d.at ∷ []) b o)
      ∷ ‵ (fobor κ q (Body (mem Handle) b o γ)) ∷ ‵ (fobs γ (Handle.coded.code d)) ∷ ‵ (fauth γ (Handle.coded.code d)) ∷ Γ) G
      (‵ (fobs γ (Handle.coded.code d)) ∷ ‵ (fbor κ (Body (mem Handle) b o γ)) ∷ ‵ (flft κ q) ∷ Γ) G
  handle_opens t z d b o = step (λ s. opens t z Handle {h = d} b o (λ us. move t (1 ∷ []) $
      peeks t Handle _ (shows 𝓛 Handle) d us (λ is. fsplit t $ drop t $
      rewrite t 1 (λ (ws : List Val). ‵ (cell_at full_share Handle.mir ws b o)) (lowers.val_is d us is) refl $ s)))

  pub handle_closes : K → Soaks G → {κ : Lft} {q : Share} {γ : GName} {u v : Gv} (d : Handle.Denot) (b o : ℕ)
      → Step K 𝓛 (‵ (fobs γ (Handle.coded.code d)) ∷ ‵ (fbor κ (Body (mem Handle) b o γ)) ∷ ‵ (flft κ q) ∷ Γ) G
      (‵ (kept d.full d.at d.told) ∷ ‵ (cell_at full_share Handle.mir (pointer d.at ∷ []) b o) ∷ ‵ (fobor κ q (Body (mem Handle) b o γ)) ∷ ‵ (fobs γ u) ∷ ‵ (fauth γ v) ∷ Γ) G
  handle_closes t z d b o = step (λ s. let w : Val = pointer d.at in
      nothing t $ feq_i t (List Val) (ptr_val d.at ∷ []) (ptr_val d.at ∷ []) refl $ fjoin t $
      feq_i t (List Val) (w ∷ []) (w ∷ []) refl $ fjoin t $
      fpack t (Valss (RawPtr ∷ [])) (within (shape handle.the_type) (d.at, tt) (w ∷ [])) (ptr_val d.at ∷ [], tt) $
      fjoin t $
      move t (1 ∷ 0 ∷ []) $ closes t z Handle d (w ∷ []) b o $ s)
