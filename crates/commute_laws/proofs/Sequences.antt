-- Two machines that step in turn, seen from one of them: whatever it does next by itself, it also
-- does in the run, sooner or later.
use Rattle.std.proofs.Common.{◌≡◌, ℕ, zero, suc, ◌+◌, ◌-◌, ◌<◌, ◌≤◌, true, false, List, ◌++◌, refl, ap, sym, ◌∙◌, subst, inl, inr, ⊎_elim, arith}
use Rattle.std.specs.Prelude.{◌⊎◌}
use Rattle.std.proofs.lemmas.Bool.{cases_lt}
use Rattle.snes_defs.specs.declared.region.Region.{Region}
use Rattle.snes_defs.specs.declared.ports.Side.{Side}
use Rattle.std.specs.List.{AllByRecursion}
use Rattle.clock_ratio.proofs.Numbers.{numbers}
use Rattle.port_entries.specs.Entry.{Entry, entry_stamp}
use Rattle.port_entries.specs.LastValue.{sees}
use Rattle.port_entries.specs.Window.{IsSettled}
use Rattle.port_entries.proofs.Seen.{other_side, seen_le, other_sees, settled_unseen}
use Rattle.side_law.specs.Moves.{Moves}
use Rattle.commute_laws.specs.History.{History}
use Rattle.commute_laws.specs.Heard.{heard_step, OnLook, IsHeard}
use Rattle.commute_laws.proofs.Later.{Advances, IsLater, later_along, heard_step-unseen, on_look, always_on_look}

module _ {A B : Type 0} (region : Region) (side : Side) (mine : Moves A) (theirs : Moves B) (x : ℕ → History A) (y : ℕ → History B) where
  -- at each place either this side is earlier, and steps against the other's entries so far, or the
  -- other side is, and steps
  pub data TurnAt (n : ℕ) : Type 0 where
    own_turn : sees (other_side side) (mine.stamp (x n).now) (theirs.stamp (y n).now) ≡ true
        → x (suc n) ≡ heard_step side mine (y n).entries (x n)
        → Advances region mine (x n) (x (suc n)) → y (suc n) ≡ y n → TurnAt n
    other_turn : sees side (theirs.stamp (y n).now) (mine.stamp (x n).now) ≡ true
        → x (suc n) ≡ x n → Advances region theirs (y n) (y (suc n)) → TurnAt n

module _ {A B : Type 0} (region : Region) (side : Side) (mine : Moves A) (theirs : Moves B) (x : ℕ → History A) (y : ℕ → History B)
    (turns : (n : ℕ) → TurnAt region side mine theirs x y n) where
  pub own_each : (n : ℕ) → (x (suc n) ≡ x n) ⊎ Advances region mine (x n) (x (suc n))
  own_each n = go (turns n)
    where
      go : TurnAt region side mine theirs x y n → (x (suc n) ≡ x n) ⊎ Advances region mine (x n) (x (suc n))
      go (own_turn first step advances same) = inr advances
      go (other_turn first same advances) = inl same

  other_each : (n : ℕ) → (y (suc n) ≡ y n) ⊎ Advances region theirs (y n) (y (suc n))
  other_each n = go (turns n)
    where
      go : TurnAt region side mine theirs x y n → (y (suc n) ≡ y n) ⊎ Advances region theirs (y n) (y (suc n))
      go (own_turn first step advances same) = inl same
      go (other_turn first same advances) = inr advances

  pub own_later : (n d : ℕ) → IsLater mine (x n) (x (d + n))
  own_later n d = later_along mine region x own_each n d

  pub other_later : (n d : ℕ) → IsLater theirs (y n) (y (d + n))
  other_later n d = later_along theirs region y other_each n d

  -- where this side steps on from what it is at place n
  pub record StepsFrom (n : ℕ) : Type 0 where
    pub place : ℕ
    pub waited : x place ≡ x n
    pub first : sees (other_side side) (mine.stamp (x place).now) (theirs.stamp (y place).now) ≡ true
    pub step : x (suc place) ≡ heard_step side mine (y place).entries (x place)
    pub advances : Advances region mine (x place) (x (suc place))

  -- the other side comes to its stamp in the end, so it does step
  steps_within : (fuel n : ℕ) → mine.stamp (x n).now < theirs.stamp (y n).now + fuel → StepsFrom n
  steps_within zero n small = go (turns n)
    where
      go : TurnAt region side mine theirs x y n → StepsFrom n
      go (own_turn first step advances same) =
          record { place = n; waited = refl; first = first; step = step; advances = advances }
      go (other_turn first same advances) =
          absurd (omega (arith, seen_le side (theirs.stamp (y n).now) (mine.stamp (x n).now) first))
  steps_within (suc fuel) n small = go (steps_within fuel (suc n)) (turns n)
    where
      go : (mine.stamp (x (suc n)).now < theirs.stamp (y (suc n)).now + fuel → StepsFrom (suc n))
          → TurnAt region side mine theirs x y n → StepsFrom n
      go later (own_turn first step advances same) =
          record { place = n; waited = refl; first = first; step = step; advances = advances }
      go later (other_turn first same advances) =
          let nearer : mine.stamp (x (suc n)).now < theirs.stamp (y (suc n)).now + fuel =
          subst (λ h. mine.stamp h.now < theirs.stamp (y (suc n)).now + fuel) (sym same) (omega (arith, advances.rises, (numbers region).rises)) in
          let r = later nearer in
          record { place = r.place; waited = r.waited ∙ same; first = r.first; step = r.step; advances = r.advances }

  pub steps_from : (n : ℕ) → StepsFrom n
  steps_from n = steps_within (suc (mine.stamp (x n).now)) n (omega arith)

  -- what the other side adds from place m on changes no step that doesn't see its stamp there
  unchanged : (n m k : ℕ) → m ≤ k
      → OnLook (mine.act (x n).now) (sees side (theirs.stamp (y m).now) (mine.stamp (x n).now) ≡ false)
      → heard_step side mine (y k).entries (x n) ≡ heard_step side mine (y m).entries (x n)
  unchanged n m k le unseen =
      let e : (k - m) + m ≡ k = omega arith in
      let l : IsLater theirs (y m) (y k) = subst (λ i. IsLater theirs (y m) (y i)) e (other_later m (k - m)) in
      heard_step-unseen side mine (x n) (y m).entries l.rest (y k).entries (theirs.stamp (y m).now) l.entries l.stamped unseen

  -- so a step from what this side is at place n, against the entries that the other side has at
  -- place m, is made in the run, if a look is settled by the other side's stamp there
  pub one_step : (n m : ℕ)
      → OnLook (mine.act (x n).now) (IsSettled side (mine.stamp (x n).now) (theirs.stamp (y m).now))
      → (k : ℕ) × (x k ≡ heard_step side mine (y m).entries (x n)) × Advances region mine (x n) (x k)
  one_step n m settled = (
    suc r.place,
    r.step ∙ ap (heard_step side mine (y r.place).entries) r.waited
        ∙ ⊎_elim sooner later (cases_lt m r.place),
    subst (λ h. Advances region mine h (x (suc r.place))) r.waited r.advances,
  )
    where
      r : StepsFrom n
      r = steps_from n

      sooner : m < r.place → heard_step side mine (y r.place).entries (x n) ≡ heard_step side mine (y m).entries (x n)
      sooner lt =
          unchanged n m r.place (omega arith)
          (on_look (mine.act (x n).now) (IsSettled side (mine.stamp (x n).now) (theirs.stamp (y m).now)) _
          (settled_unseen side (mine.stamp (x n).now) (theirs.stamp (y m).now)) settled)

      later : r.place ≤ m → heard_step side mine (y r.place).entries (x n) ≡ heard_step side mine (y m).entries (x n)
      later le =
          sym (unchanged n r.place m le
          (always_on_look (mine.act (x n).now) _
          (other_sees side (mine.stamp (x n).now) (theirs.stamp (y r.place).now)
          (subst (λ h. sees (other_side side) (mine.stamp h.now) (theirs.stamp (y r.place).now) ≡ true) r.waited r.first))))

  -- the same of what this side is at some place, and the other at some place
  pub one_step_of : (n m : ℕ) (h : History A) (o : History B) → x n ≡ h → y m ≡ o
      → OnLook (mine.act h.now) (IsSettled side (mine.stamp h.now) (theirs.stamp o.now))
      → (k : ℕ) × (x k ≡ heard_step side mine o.entries h) × Advances region mine h (heard_step side mine o.entries h)
  one_step_of n m h o x_is y_is settled =
      let there : OnLook (mine.act (x n).now) (IsSettled side (mine.stamp (x n).now) (theirs.stamp (y m).now)) =
      subst (λ (q : History B). OnLook (mine.act (x n).now) (IsSettled side (mine.stamp (x n).now) (theirs.stamp q.now))) (sym y_is)
      (subst (λ (q : History A). OnLook (mine.act q.now) (IsSettled side (mine.stamp q.now) (theirs.stamp o.now))) (sym x_is) settled) in
      let r = one_step n m there in
      let is : x r.0 ≡ heard_step side mine o.entries h =
      r.1 ∙ ap (λ (q : History B). heard_step side mine q.entries (x n)) y_is ∙ ap (heard_step side mine o.entries) x_is in
      (r.0, is, subst (Advances region mine h) is (subst (λ (q : History A). Advances region mine q (x r.0)) x_is r.2))

  -- the same against a beginning of a list that the other side's entries come to
  pub one_heard_step : (n m : ℕ) (h : History A) (o : History B) (heard whole : List Entry) (upto : ℕ)
      → x n ≡ h → y m ≡ o → IsHeard heard whole upto
      → (rest : List Entry) → o.entries ++ rest ≡ whole → AllByRecursion (λ e. theirs.stamp o.now ≤ entry_stamp e) rest
      → OnLook (mine.act h.now) (IsSettled side (mine.stamp h.now) upto)
      → OnLook (mine.act h.now) (IsSettled side (mine.stamp h.now) (theirs.stamp o.now))
      → (k : ℕ) × (x k ≡ heard_step side mine heard h) × Advances region mine h (heard_step side mine heard h)
  one_heard_step n m h o heard whole upto x_is y_is all_heard rest joined stamped settled_upto settled =
      let r = one_step_of n m h o x_is y_is settled in
      let here : heard_step side mine whole h ≡ heard_step side mine o.entries h =
      heard_step-unseen side mine h o.entries rest whole (theirs.stamp o.now) joined stamped
      (on_look (mine.act h.now) _ _ (settled_unseen side (mine.stamp h.now) (theirs.stamp o.now)) settled) in
      let there : heard_step side mine whole h ≡ heard_step side mine heard h =
      heard_step-unseen side mine h heard all_heard.rest whole upto all_heard.whole_is all_heard.later
      (on_look (mine.act h.now) _ _ (settled_unseen side (mine.stamp h.now) upto) settled_upto) in
      let is : heard_step side mine o.entries h ≡ heard_step side mine heard h = sym here ∙ there in
      (r.0, r.1 ∙ is, subst (Advances region mine h) is r.2)
