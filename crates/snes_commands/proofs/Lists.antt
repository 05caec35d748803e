-- Laws of what holds of the members of a list.
use Rattle.std.proofs.Common.{◌≡◌, List, [], ◌∷◌, ◌++◌, inl, inr, ⊎_elim, Result, Ok, Err, IfErr}
use Rattle.std.specs.Prelude.{OnOk}
use Rattle.run_io.specs.Lists.{AllOf, FirstThat, IsOneOf}

module _ {A : Type 0} where
  pub all_map : (P Q : A → Type 0) → ((x : A) → P x → Q x) → (xs : List A) → AllOf P xs → AllOf Q xs
  all_map P Q f [] h = tt
  all_map P Q f (x ∷ xs) h = (f x h.0, all_map P Q f xs h.1)

  pub all_then : (P : A → Type 0) (xs ys : List A) → AllOf P xs → AllOf P ys → AllOf P (xs ++ ys)
  all_then P [] ys h k = k
  all_then P (x ∷ xs) ys h k = (h.0, all_then P xs ys h.1 k)

  -- of two facts on all members
  pub all_both : (P Q R : A → Type 0) → ((x : A) → P x → Q x → R x) → (xs : List A) → AllOf P xs → AllOf Q xs → AllOf R xs
  all_both P Q R f [] h k = tt
  all_both P Q R f (x ∷ xs) h k = (f x h.0 k.0, all_both P Q R f xs h.1 k.1)

  pub first_map : (B C T U : A → Type 0) → ((x : A) → B x → C x) → ((x : A) → T x → U x) → (xs : List A) → FirstThat B T xs → FirstThat C U xs
  first_map B C T U f g [] h = h
  first_map B C T U f g (x ∷ xs) h = ⊎_elim (λ t. inl (g x t)) (λ b. inr (f x b.0, first_map B C T U f g xs b.1)) h

  pub first_both : (P B C T : A → Type 0) → ((x : A) → P x → B x → C x) → (xs : List A) → AllOf P xs → FirstThat B T xs → FirstThat C T xs
  first_both P B C T f [] all h = h
  first_both P B C T f (x ∷ xs) all h = ⊎_elim (λ t. inl t) (λ b. inr (f x all.0 b.0, first_both P B C T f xs all.1 b.1)) h

  pub first_front : (B T : A → Type 0) (xs ys : List A) → FirstThat B T xs → FirstThat B T (xs ++ ys)
  first_front B T [] ys h = absurd h
  first_front B T (x ∷ xs) ys h = ⊎_elim (λ t. inl t) (λ b. inr (b.0, first_front B T xs ys b.1)) h

  pub first_behind : (B T : A → Type 0) (xs ys : List A) → AllOf B xs → FirstThat B T ys → FirstThat B T (xs ++ ys)
  first_behind B T [] ys all h = h
  first_behind B T (x ∷ xs) ys all h = inr (all.0, first_behind B T xs ys all.1 h)

  -- what holds of all holds of those before one of them
  pub first_of : (B : A → Type 0) (one : A) (xs : List A) → AllOf B xs → IsOneOf xs one → FirstThat B (λ x. x ≡ one) xs
  first_of B one [] all h = h
  first_of B one (x ∷ xs) all h = ⊎_elim (λ t. inl t) (λ b. inr (all.0, first_of B one xs all.1 b.1)) h

  pub one_of : (B : A → Type 0) (one : A) (xs : List A) → FirstThat B (λ x. x ≡ one) xs → IsOneOf xs one
  one_of B one xs h = first_map B (λ x. Unit {0}) (λ x. x ≡ one) (λ x. x ≡ one) (λ x b. tt) (λ x t. t) xs h

  -- what holds of none is not the first of anything
  pub first_never : (B : A → Type 0) (xs : List A) → FirstThat B (λ x. ⊥) xs → ⊥
  first_never B [] h = h
  first_never B (x ∷ xs) h = ⊎_elim (λ t. t) (λ b. first_never B xs b.1) h

  -- something holds of all, and a second thing of one: of this one both hold
  pub all_at : (P B T : A → Type 0) (Q : Type 0) → ((x : A) → P x → T x → Q) → (xs : List A) → AllOf P xs → FirstThat B T xs → Q
  all_at P B T Q f [] all h = absurd h
  all_at P B T Q f (x ∷ xs) all h = ⊎_elim (λ t. f x all.0 t) (λ b. all_at P B T Q f xs all.1 b.1) h

  pub on_ok : {B : Type 0} (r : Result A B) (P Q : Type 0) → (P → Q) → OnOk r P → OnOk r Q
  on_ok (Ok x) P Q f h = f h
  on_ok (Err e) P Q f h = tt

  pub if_err : {B : Type 0} (r : Result A B) (P Q : B → Type 0) → ((e : B) → P e → Q e) → IfErr r P → IfErr r Q
  if_err (Ok x) P Q f h = tt
  if_err (Err e) P Q f h = f e h

  pub empty_front : (xs ys : List A) → xs ++ ys ≡ [] → xs ≡ []
  empty_front [] ys e = cc
  empty_front (x ∷ xs) ys e = absurd cc

  pub empty_behind : (xs ys : List A) → xs ++ ys ≡ [] → ys ≡ []
  empty_behind [] ys e = e
  empty_behind (x ∷ xs) ys e = absurd cc
