-- `tell` changes what the handle says, and no byte. Assumes `Logic`.
use Rattle.std.proofs.Common.{◌≡◌, ℕ, List, [], ◌∷◌, ◌++◌, refl}
use mir.Syntax.{a_type}
use mir.Val.{Val, vptr, vunit}
use mir.MapTy.{inst_fn}
use base.Logic.{SProp}
use base.Fml.{ftrue, flft}
use prog.Wp.{WpFn}
use types.Kit.{prop, regoal, ‵, raw, ◌⊛◌, ◌$◌, ◌∵◌, !, qed, by, move, keep, drop, split, join, fsplit, fsplit3, fjoin, fjoin3, rewrite, feq_i, feq_l}
use types.Run.{of_opd, unit_lit, returns, enter}
use types.ByLocal.{alloc_all, pass_all, free_all, look_at, sets}
use contract.Monad.{fact}
use contract.BorrowLft.{◌⊑◌}
use contract.Running.{tables}
use denote.Exit.{yes}
use denote.RattleType.{owns}
use denote.Signature.{types_at, plain}
use denote.Builtin.{RefOf}
use denote.Steps.{nothing, heard}
use denote.Param.{param, layouts}
use denote.Triple.Walked.{Stays, stay_dropped, stay_ref, walk_of, Goes-dropped, Goes-ref}
use Rattle.std.proofs.raw_atomic.Walks.{proved_at, leaves}
use Rattle.kept_frames.specs.Kept.{kept}
use Rattle.kept_frames.proofs.Boxed.{Handle}
use Rattle.kept_frames.proofs.Steps.{fact_in, handle_opens, handle_closes}
use Rattle.kept_frames.specs.contracts.kept.KeptFrames.tell as f
use Rattle.kept_frames.proofs.kept.KeptFrames.tell.Statement.{statement}
use Rattle.kept_frames.proofs.kept.KeptFrames.tell.Code as code

pub tell_spec : {M : Type 1} → statement M
tell_spec 𝓤 𝓛 𝓜 𝓡 wired T L =
    let H = 𝓛.H in let 𝓣 = tables 𝓤 H 𝓜 𝓡 𝓡.env in let En = f.ended T in let c = f.clauses T 𝓛 𝓜.mem 𝓡.returns in
    let inst = layouts (a_type ∷ []) (T, tt) in let fn = inst_fn inst code.function in
    let by_slot = RefOf {n = 3} (1 ∷ []) tt (plain (λ _. param 0 T)) (λ κs. tt) in
    let hs : Stays En.signature.params En.kept = (stay_ref (0 ∷ []) tt (plain (λ _. Handle)), (stay_dropped by_slot yes, tt)) in
    proved_at 𝓛 En hs c 𝓜 𝓡 (Goes-ref 𝓛 3 0 tt (plain (λ _. Handle)), (Goes-dropped 𝓛 3 by_slot yes (λ κs x w. refl), tt))
    (f.Key.name inst) fn (code.unfolded 𝓤 H 𝓜 𝓡 wired (T, tt)) (λ z are.
    let κs = z.0.0 in let qs = z.0.1 in let d = z.0.3.0.now in let rb = z.0.3.0.ref_ptr.0 in
    let ro = z.0.3.0.ref_ptr.1 in let v = vptr z.0.3.1.0.ref_ptr.0 z.0.3.1.0.ref_ptr.1 in
    let Post : Val → SProp 𝓤 = (walk_of 𝓛 En hs c).post z in
    let Run : List Val → SProp 𝓤 = λ ws. WpFn 𝓤 H 𝓣.C 𝓣.Λ fn ws Post in
    qed 𝓛 (((‵ (flft κs.0 qs.0) ⊛ ‵ (flft κs.1.0 qs.1.0) ⊛ ‵ (flft κs.1.1.0 qs.1.1.0) ⊛ ‵ ftrue) ⊛ ‵ (owns (types_at En.signature.params κs) z.0.3 z.0.4)) ∷ (raw (fact 𝓤 (κs.1.1.0 ⊑ T.lives)) ⊛ raw (fact 𝓤 (d.full ≡ 0))) ∷ []) ∵
    move ! (1 ∷ []) $ split ! $ drop ! $ heard ! (d.full ≡ 0) (λ empty. split ! $ split ! $ move ! (2 ∷ []) $ fsplit ! $
    fsplit3 ! $ feq_l ! (λ e₀. move ! (2 ∷ []) $ drop ! $
    -- [two parts of the handle; its token; the other tokens]
    regoal ! (λ (us : List Val). prop (Run us)) (λ i. e₀ i ++ (are.1.0.0 i ++ [])) refl $
    enter ! 𝓣.C 𝓣.Λ fn (vptr rb ro ∷ v ∷ []) Post $ alloc_all ! (λ l. pass_all ! refl ((tt, tt), ((tt, tt), tt)) $
    handle_opens ! tt d rb ro $ rewrite ! 0 (λ (n : ℕ). ‵ (kept n d.at d.told)) empty refl $
    let new : Handle.Denot = record d { full = 0; told = z.1 } in handle_closes ! tt new rb ro $
    sets ! (of_opd ! (unit_lit !)) refl (tt, tt) $ returns ! (look_at ! 0 refl) $ free_all ! refl $
    feq_i ! (List Val) (vunit ∷ []) (vunit ∷ []) refl $
    -- [the result; two parts of the handle; its token; the other tokens]
    move ! (3 ∷ 4 ∷ []) $ join ! $ move ! (2 ∷ 3 ∷ []) $ feq_i ! (List Val) z.0.4.0 (vptr rb ro ∷ []) e₀ $ fjoin3 ! $
    nothing ! $ nothing ! $ fjoin ! $ move ! (1 ∷ 0 ∷ []) $ fjoin ! $
    fact_in ! {φ = z.1 ≡ z.1} refl $
    fact_in ! {φ = 0 ≡ 0} refl $ join ! $
    keep ! (2 ∷ 1 ∷ 3 ∷ 0 ∷ []) $ by ! (leaves 𝓛 En hs c z vunit tt (new, (tt, tt)) (tt, (tt, tt)))))))
