-- A run to the stamp after the present one is one step.
use Rattle.std.proofs.Common.{◌≡◌, ℕ, zero, suc, ◌+◌, ◌<◌, ◌≤◌, ◌⊎◌, ap, sym, subst, inl, inr, ⊎_elim, arith}
use Rattle.snes_defs.specs.declared.region.Region.{Region}
use Rattle.clock_ratio.proofs.Numbers.{numbers}
use Rattle.side_law.specs.declared.ports.Stop.{Stop}
use Rattle.side_law.specs.declared.ports.Stop.TheVariants.{Until, Emitted, Refused}
use Rattle.side_law.specs.Moves.{Moves, IsLawful}
use Rattle.side_law.specs.Gone.{Calls, Over, IsRefused, Goes, GoneBy, Gone, IsFull, HasStopped}
use Rattle.side_law.proofs.Gone.{goes_up, gone_up}

module _ {State Ports : Type 0} (region : Region) (valid : State → Type 0) (most : ℕ) (moves : Moves State) (lawful : IsLawful region valid most moves)
    (calls : Calls Ports) (until : ℕ) (x : Over State Ports) (is_valid : valid x.own) where
  -- no step was made where the stamp has not risen
  pub nowhere_by : (n : ℕ) (y : Over State Ports) → GoneBy moves calls until n x y → moves.stamp y.own ≤ moves.stamp x.own → x ≡ y
  nowhere_by zero y same le = same
  nowhere_by (suc n) y (last, steps, goes) le =
      let risen = gone_up region valid most moves lawful calls until x last is_valid (record { steps = n; made = steps }) in
      let step = goes_up region valid most moves lawful calls until last y risen.is_valid goes in
      absurd (omega (arith, le, risen.forward, step.up, (numbers region).rises))

  module _ (soon : until ≤ moves.stamp x.own + 1) where
    last_is_first : (last y : Over State Ports) → Gone moves calls until x last → Goes moves calls until last y → Goes moves calls until x y
    last_is_first last y gone goes =
        subst (λ (z : Over State Ports). Goes moves calls until z y) (sym (nowhere_by gone.steps last gone.made (omega (arith, goes.early, soon)))) goes

    one_or_none : (n : ℕ) (y : Over State Ports) → GoneBy moves calls until n x y → (x ≡ y) ⊎ Goes moves calls until x y
    one_or_none zero y same = inl same
    one_or_none (suc n) y (last, steps, goes) = inr (last_is_first last y (record { steps = n; made = steps }) goes)

    -- it is one, if there is room for it and no call is refused
    pub one_step : (cap : ℕ) (stop : Stop) (y : Over State Ports) → moves.stamp x.own < until → (IsFull moves calls until most cap x → ⊥)
        → ((q : Ports) → IsRefused calls (moves.stamp x.own) (moves.act x.own) x.ports q → ⊥) → HasStopped moves calls until most cap stop x y
        → Goes moves calls until x y
    one_step cap Until y early room answered h = ⊎_elim
        (λ same. absurd (⊎_elim
        (λ past. omega (arith, ap (λ (z : Over State Ports). moves.stamp z.own) same, past, early))
        (λ full. room (subst (λ z. IsFull moves calls until most cap z) (sym same) full))
        h.ends))
        (λ goes. goes)
        (one_or_none h.gone.steps y h.gone.made)
    one_step cap (Emitted at) y early room answered h = last_is_first h.last y h.gone h.goes
    one_step cap Refused y early room answered h =
        let same = nowhere_by h.gone.steps (record y { ports = h.called }) h.gone.made (omega (arith, h.early, soon)) in
        absurd (answered y.ports (subst (λ (z : Over State Ports). IsRefused calls (moves.stamp z.own) (moves.act z.own) z.ports y.ports) (sym same) h.refused))
