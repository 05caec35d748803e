-- Creations, fills and flushes of outputs, one after another, and a put to the lines behind them.
use Rattle.std.proofs.Common.{◌≡◌, ◌≢◌, ℕ, Bool, true, false, not, ◌&&◌, ◌||◌, List, [], ◌∷◌, Option, refl, sym, ◌∙◌, subst, inl, inr, ⊎_elim, arith}
use Rattle.std.specs.Prelude.{◌⊎◌}
use Rattle.std.specs.List.{list_any}
use Rattle.shelf.specs.declared.shelves.Out.{Out}
use Rattle.shelf.specs.declared.shelves.Out.TheVariants as out
use Rattle.shelf.specs.Outs.{same_out}
use Rattle.shelf.specs.Told.{Holds}
use Rattle.shelf.specs.Shown.{Shown, IsUntouched, IsPassedOver, OnlyCreates, OnlyPuts}
use Rattle.run_io.specs.Words.{output_name}
use Rattle.run_io.specs.Form.{Order}
use Rattle.run_io.specs.Lists.{AllOf}
use Rattle.snes_commands.specs.Ends.{are_apart, IsFresh, OnlyTouches}
use Rattle.snes_commands.proofs.Lists.{all_map, all_both}

both : (a b : Bool) → a && b ≡ true → (a ≡ true) × (b ≡ true)
both true b h = (refl, h)
both false b h = absurd cc

neither : (a b : Bool) → a || b ≡ false → (a ≡ false) × (b ≡ false)
neither true b h = absurd cc
neither false b h = (refl, h)

is_false : (a : Bool) → not a ≡ true → a ≡ false
is_false true h = absurd cc
is_false false h = refl

same_self : (one : Out) → same_out one one ≡ true
same_self out.Video = refl
same_self out.Sound = refl
same_self out.Image = refl
same_self out.Sums = refl
same_self out.State = refl
same_self out.Spc = refl
same_self out.Say = refl

same_not : (one other : Out) → same_out one other ≡ false → other ≢ one
same_not one other h e =
    let k : same_out one one ≡ false = subst (λ (o : Out). same_out one o ≡ false) e h in
    let t : true ≡ false = sym (same_self one) ∙ k in
    cc

none_same : (one : Out) (outs : List Out) → list_any (same_out one) outs ≡ false → AllOf (λ o. o ≢ one) outs
none_same one [] h = tt
none_same one (o ∷ outs) h = let k = neither (same_out one o) (list_any (same_out one) outs) h in (same_not one o k.0, none_same one outs k.1)

-- an output apart from others is not the lines, and none of the others, which are apart too
split : (one : Out) (rest : List Out) → are_apart (one ∷ rest) ≡ true → (one ≢ out.Say) × AllOf (λ o. o ≢ one) rest × (are_apart rest ≡ true)
split one rest apart =
    let k = both (not (same_out one out.Say)) (not (list_any (same_out one) rest) && are_apart rest) apart in
    let l = both (not (list_any (same_out one) rest)) (are_apart rest) k.1 in
    ((λ e. same_not one out.Say (is_false (same_out one out.Say) k.0) (sym e)), none_same one rest (is_false (list_any (same_out one) rest) l.0), l.1)

pub rest_apart : (one : Out) (rest : List Out) → are_apart (one ∷ rest) ≡ true → are_apart rest ≡ true
rest_apart one rest apart = (split one rest apart).2

pub not_said : (outs : List Out) → are_apart outs ≡ true → AllOf (λ o. o ≢ out.Say) outs
not_said [] h = tt
not_said (o ∷ outs) h = let k = split o outs h in (k.0, not_said outs k.2)

-- an output that is passed over twice
pub over_then : (a b c : Shown) (any : Out) → IsPassedOver a b any → IsPassedOver b c any → IsPassedOver a c any
over_then a b c any h k = record { written = k.written ∙ h.written; named = k.named ∙ h.named; unwritten = k.unwritten ∙ h.unwritten; write_faults = k.write_faults ∙ h.write_faults }

pub touches_none : (outs : List Out) (a : Shown) → OnlyTouches outs a a
touches_none outs a = record { held = refl; load_faults = refl; write_faults = λ any. omega arith; others = λ other none. record { written = refl; named = refl; unwritten = refl; write_faults = refl } }

pub touches_then : (outs : List Out) (a b c : Shown) → OnlyTouches outs a b → OnlyTouches outs b c → OnlyTouches outs a c
touches_then outs a b c h k = record {
  held = k.held ∙ h.held;
  load_faults = k.load_faults ∙ h.load_faults;
  write_faults = λ any. omega (arith, h.write_faults any, k.write_faults any);
  others = λ other none. over_then a b c other (h.others other none) (k.others other none);
}

module _ (one : Out) (rest : List Out) (a b : Shown) where
  pub touches_created : OnlyCreates a b one → OnlyTouches (one ∷ rest) a b
  touches_created h = record { held = h.held; load_faults = h.load_faults; write_faults = h.write_faults; others = λ other none. h.others other (λ e. none.0 (sym e)) }

  pub touches_put : OnlyPuts a b one → OnlyTouches (one ∷ rest) a b
  touches_put h = record { held = h.held; load_faults = h.load_faults; write_faults = h.write_faults; others = λ other none. h.others other (λ e. none.0 (sym e)) }

  pub touches_rest : OnlyTouches rest a b → OnlyTouches (one ∷ rest) a b
  touches_rest h = record { held = h.held; load_faults = h.load_faults; write_faults = h.write_faults; others = λ other none. h.others other none.1 }

  module _ (apart : are_apart (one ∷ rest) ≡ true) where
    -- it was flushed, and stays so while the others are
    pub still_flushed : a.unwritten one ≡ 0 → OnlyTouches rest a b → b.unwritten one ≡ 0
    still_flushed h only = (only.others one (split one rest apart).1).unwritten ∙ h

  module _ (order : Order) (apart : are_apart (one ∷ rest) ≡ true) where
    -- it was created, and stays as it was while the others are
    pub still_fresh : IsFresh order a one → OnlyTouches rest a b → IsFresh order b one
    still_fresh h only =
        let over = only.others one (split one rest apart).1 in
        record {
          named = subst (λ (n : Option (List ℕ)). Holds n (output_name order.pairs one)) (sym over.named) h.named;
          empty = subst (λ (n : Option (List ℕ)). Holds n []) (sym over.written) h.empty;
          unwritten = over.unwritten ∙ h.unwritten;
        }

    -- it was not created, so no other was tried
    pub none_left : IsUntouched a b one → OnlyCreates a b one → AllOf (λ o. IsUntouched a b o ⊎ IsFresh order b o) (one ∷ rest)
    none_left h only = (
      inl h,
      all_map (λ o. o ≢ one) (λ o. IsUntouched a b o ⊎ IsFresh order b o)
          (λ o differ. let over = only.others o differ in inl (record { written = over.written; named = over.named; unwritten = over.unwritten })) rest (split one rest apart).1,
    )

    -- it was created, and the others are left so
    pub all_left : (c : Shown) → OnlyCreates a b one → IsFresh order c one → AllOf (λ o. IsUntouched b c o ⊎ IsFresh order c o) rest
        → AllOf (λ o. IsUntouched a c o ⊎ IsFresh order c o) (one ∷ rest)
    all_left c only h left = (
      inr h,
      all_both (λ o. o ≢ one) (λ o. IsUntouched b c o ⊎ IsFresh order c o) (λ o. IsUntouched a c o ⊎ IsFresh order c o)
          (λ o differ k. let over = only.others o differ in ⊎_elim (λ u. inl (record { written = u.written ∙ over.written; named = u.named ∙ over.named; unwritten = u.unwritten ∙ over.unwritten })) (λ n. inr n) k)
          rest (split one rest apart).1 left,
    )
