-- `fill` writes the pointer. Assumes `Logic`.
use Rattle.std.proofs.Common.{◌≡◌, List, [], ◌∷◌, ◌++◌, refl}
use mir.Val.{Val, vptr, vunit}
use base.Logic.{SProp}
use base.Fml.{ftrue, fex, flft}
use prog.Wp.{WpFn}
use types.Kit.{prop, regoal, ‵, raw, ◌⊛◌, ◌$◌, ◌∵◌, !, qed, by, move, keep, drop, split, join, fsplit, fsplit3, fjoin, fjoin3, fpack, feq_i, feq_l}
use types.Run.{stop, fld, of_opd, unit_lit, assigns, returns, enter}
use types.ByLocal.{alloc_all, pass_all, free_all, look_at, get, get_in, through, sets}
use types.Part.{sub, whole, store_in}
use contract.Monad.{fact}
use contract.Running.{tables}
use denote.Exit.{yes}
use denote.RattleType.{owns}
use denote.Signature.{types_at, plain}
use denote.RawPtr.{block_ptr}
use denote.Steps.{nothing, heard}
use denote.Triple.Walked.{Stays, stay_dropped, stay_ref, walk_of, Goes-dropped, Goes-ref}
use Rattle.std.proofs.raw_atomic.Walks.{proved_at, leaves}
use Rattle.kept_frames.specs.Boxes.{heap_owns}
use Rattle.frame_player.specs.Frames.{IsFramesOf}
use Rattle.kept_frames.specs.contracts.loose.Loose as loose
use Rattle.kept_frames.proofs.Boxed.{State, Handle, pointer}
use Rattle.kept_frames.proofs.Steps.{fact_in, loose_out, handle_opens, handle_closes}
use Rattle.kept_frames.specs.contracts.kept.KeptFrames.fill as f
use Rattle.kept_frames.proofs.kept.KeptFrames.fill.Statement.{statement}
use Rattle.kept_frames.proofs.kept.KeptFrames.fill.Code as code

abbrev stayed : Stays f.ended.signature.params f.ended.kept
stayed = (stay_ref (0 ∷ []) tt (plain (λ _. Handle)), (stay_dropped (plain (λ _. loose.the_row State)) yes, tt))

pub fill_spec : {M : Type 1} → statement M
fill_spec 𝓤 𝓛 𝓜 𝓡 wired =
    let H = 𝓛.H in let 𝓣 = tables 𝓤 H 𝓜 𝓡 𝓡.env in let c = f.clauses 𝓛 𝓜.mem 𝓡.returns in let fn = code.function in
    proved_at 𝓛 f.ended stayed c 𝓜 𝓡 (Goes-ref 𝓛 1 0 tt (plain (λ _. Handle)), (Goes-dropped 𝓛 1 (plain (λ _. loose.the_row State)) yes (λ κs x w. refl), tt))
    f.Key.name fn (code.unfolded 𝓤 H 𝓜 𝓡 wired) (λ z are.
    let κ = z.0.0.0 in let q = z.0.1.0 in let d = z.0.3.0.now in let rb = z.0.3.0.ref_ptr.0 in
    let ro = z.0.3.0.ref_ptr.1 in let x = z.0.3.1.0 in
    let Post : Val → SProp 𝓤 = (walk_of 𝓛 f.ended stayed c).post z in
    let Run : List Val → SProp 𝓤 = λ ws. WpFn 𝓤 H 𝓣.C 𝓣.Λ fn ws Post in
    qed 𝓛 (((‵ (flft κ q) ⊛ ‵ ftrue) ⊛ ‵ (owns (types_at f.signature.params z.0.0) z.0.3 z.0.4)) ∷ (raw (fact 𝓤 (d.full ≡ 0)) ⊛ raw (fact 𝓤 (IsFramesOf d.told x.value))) ∷ []) ∵
    move ! (1 ∷ []) $ split ! $ heard ! (d.full ≡ 0) (λ _. heard ! (IsFramesOf d.told x.value) (λ of. split ! $
    split ! $ move ! (2 ∷ []) $ fsplit ! $ fsplit3 ! $ feq_l ! (λ e₀. move ! (2 ∷ []) $ fsplit ! $
    loose_out ! State x z.0.4.1.0 (λ b o e₁. let v : Val = pointer (block_ptr b o) in keep ! (0 ∷ 2 ∷ 3 ∷ 4 ∷ []) $
    regoal ! (λ (us : List Val). prop (Run us)) (λ i. e₀ i ++ (e₁ i ++ [])) refl $
    enter ! 𝓣.C 𝓣.Λ fn (vptr rb ro ∷ v ∷ []) Post $ alloc_all ! (λ l. pass_all ! refl ((tt, tt), ((tt, (tt, tt)), tt)) $
    sets ! (of_opd ! (get_in ! (fld ! refl (stop !)) (sub ! 0 refl (whole !)))) refl (tt, tt) $
    sets ! (of_opd ! (get ! refl)) refl (tt, tt) $
    move ! (1 ∷ 2 ∷ 3 ∷ []) $ handle_opens ! tt d rb ro $ drop ! $
    -- [the handle's pointer; the open borrow, in three entries; what lies on the heap]
    assigns ! (of_opd ! (get ! refl)) (through ! refl (fld ! refl (stop !))) (store_in ! 0 (sub ! 0 refl (whole !)) (tt, tt)) $
    sets ! (of_opd ! (unit_lit !)) refl (tt, tt) $
    move ! (4 ∷ []) $ fpack ! (IsFramesOf d.told x.value) (λ _. heap_owns State (block_ptr b o) x.value) of $
    fpack ! State.Denot (λ y. fex (IsFramesOf d.told y) (λ _. heap_owns State (block_ptr b o) y)) x.value $
    let new : Handle.Denot = record d { at = block_ptr b o; full = 1 } in handle_closes ! tt new rb ro $
    returns ! (look_at ! 0 refl) $ free_all ! refl $ feq_i ! (List Val) (vunit ∷ []) (vunit ∷ []) refl $
    -- [the result; two parts of the handle; the token]
    nothing ! $ move ! (4 ∷ 0 ∷ []) $ join ! $ move ! (2 ∷ 3 ∷ []) $ feq_i ! (List Val) z.0.4.0 (vptr rb ro ∷ []) e₀ $
    fjoin3 ! $ nothing ! $ nothing ! $ fjoin ! $ move ! (1 ∷ 0 ∷ []) $ fjoin ! $
    fact_in ! {φ = d.told ≡ d.told} refl $
    fact_in ! {φ = 1 ≡ 1} refl $ join ! $
    keep ! (2 ∷ 1 ∷ 3 ∷ 0 ∷ []) $ by ! (leaves 𝓛 f.ended stayed c z vunit tt (new, (tt, tt)) (tt, (tt, tt)))))))))
