-- `take` copies the pointer. Assumes `Logic`.
use Rattle.std.proofs.Common.{◌≡◌, ℕ, List, [], ◌∷◌, ◌++◌, refl, sym}
use base.Fraction.{full_share}
use mir.Val.{Val, vptr}
use base.Logic.{SProp}
use base.Fml.{ftrue, flft}
use prog.Wp.{WpFn}
use types.Kit.{prop, regoal, ‵, raw, ◌⊛◌, ◌$◌, ◌∵◌, !, qed, by, move, keep, split, join, fsplit, fsplit3, fjoin, fjoin3, fpick, rewrite, feq_i, feq_l}
use types.Run.{stop, fld, load, of_opd, no_more, and_then, returns, enter}
use types.ByLocal.{alloc_all, pass_all, free_all, look_at, get, through, sets}
use types.Part.{agg, sub, whole, look_in}
use contract.Monad.{fact}
use contract.Running.{tables}
use denote.RattleType.{owns}
use denote.Memory.{cell_at}
use denote.Signature.{types_at, plain}
use denote.RawPtr.{Ptr, block_ptr}
use denote.Steps.{nothing, heard}
use denote.Triple.Walked.{Stays, stay_ref, walk_of, Goes-ref}
use Rattle.std.proofs.raw_atomic.Walks.{proved_at, leaves}
use Rattle.frame_player.specs.Frames.{IsFramesOf}
use Rattle.kept_frames.specs.Kept.{kept}
use Rattle.kept_frames.proofs.Boxed.{State, Handle, pointer}
use Rattle.kept_frames.proofs.Steps.{fact_in, heap_block, loose_in, handle_opens, handle_closes}
use Rattle.kept_frames.specs.contracts.kept.KeptFrames.take as f
use Rattle.kept_frames.proofs.kept.KeptFrames.take.Statement.{statement}
use Rattle.kept_frames.proofs.kept.KeptFrames.take.Code as code

abbrev stayed : Stays f.ended.signature.params f.ended.kept
stayed = (stay_ref (0 ∷ []) tt (plain (λ _. Handle)), tt)

pub take_spec : {M : Type 1} → statement M
take_spec 𝓤 𝓛 𝓜 𝓡 wired =
    let H = 𝓛.H in let 𝓣 = tables 𝓤 H 𝓜 𝓡 𝓡.env in let c = f.clauses 𝓛 𝓜.mem 𝓡.returns in let fn = code.function in
    proved_at 𝓛 f.ended stayed c 𝓜 𝓡 (Goes-ref 𝓛 1 0 tt (plain (λ _. Handle)), tt) f.Key.name fn (code.unfolded 𝓤 H 𝓜 𝓡 wired) (λ z are.
    let κ = z.0.0.0 in let q = z.0.1.0 in let d = z.0.3.0.now in let rb = z.0.3.0.ref_ptr.0 in
    let ro = z.0.3.0.ref_ptr.1 in
    let Post : Val → SProp 𝓤 = (walk_of 𝓛 f.ended stayed c).post z in
    let Run : List Val → SProp 𝓤 = λ ws. WpFn 𝓤 H 𝓣.C 𝓣.Λ fn ws Post in
    qed 𝓛 (((‵ (flft κ q) ⊛ ‵ ftrue) ⊛ ‵ (owns (types_at f.signature.params z.0.0) z.0.3 z.0.4))
    ∷ raw (fact 𝓤 (d.full ≡ 1)) ∷ []) ∵
    move ! (1 ∷ []) $ heard ! (d.full ≡ 1) (λ is_full. split ! $ split ! $ move ! (2 ∷ []) $ fsplit ! $ fsplit3 ! $
    feq_l ! (λ e₀. keep ! (0 ∷ 1 ∷ 3 ∷ []) $
    regoal ! (λ (us : List Val). prop (Run us)) (λ i. e₀ i ++ []) refl $
    enter ! 𝓣.C 𝓣.Λ fn (vptr rb ro ∷ []) Post $ alloc_all ! (λ l. pass_all ! refl ((tt, tt), tt) $
    handle_opens ! tt d rb ro $
    rewrite ! 0 (λ (n : ℕ). ‵ (kept n d.at d.told)) is_full refl $
    fpick ! (λ s. fpick ! (λ of. heap_block ! State d.at s (λ b o e.
    let Cell = λ (p : Ptr). ‵ (cell_at full_share Handle.mir (pointer p ∷ []) rb ro) in rewrite ! 1 Cell e refl $
    -- [what lies on the heap; the handle's pointer; the open borrow, in three entries]
    sets ! (of_opd ! (load ! (through ! refl (fld ! refl (stop !))) (look_in ! 1 (sub ! 0 refl (whole !))))) refl (tt, tt) $
    sets ! (of_opd ! (get ! refl)) refl (tt, tt) $
    sets ! (agg ! (and_then ! (get ! refl) (no_more !))) refl (tt, (tt, tt)) $ loose_in ! State b o s $
    rewrite ! 1 Cell (sym e) refl $ nothing ! $ move ! (0 ∷ 2 ∷ 3 ∷ 4 ∷ 5 ∷ []) $
    let new : Handle.Denot = record d { full = 0 } in handle_closes ! tt new rb ro $
    returns ! (look_at ! 0 refl) $ free_all ! refl $
    -- [two parts of the handle; the token; the result]
    nothing ! $ move ! (3 ∷ 0 ∷ []) $ join ! $ move ! (1 ∷ 2 ∷ []) $ feq_i ! (List Val) z.0.4.0 (vptr rb ro ∷ []) e₀ $
    fjoin3 ! $ nothing ! $ move ! (1 ∷ 0 ∷ []) $ fjoin ! $
    fact_in ! {φ = IsFramesOf d.told s} of $
    fact_in ! {φ = d.told ≡ d.told} refl $ join ! $
    fact_in ! {φ = 0 ≡ 0} refl $ join ! $
    keep ! (2 ∷ 1 ∷ 3 ∷ 0 ∷ []) $
    by ! (leaves 𝓛 f.ended stayed c z (pointer (block_ptr b o)) (record { at = block_ptr b o; value = s }) (new, tt) (tt, tt)))))))))
