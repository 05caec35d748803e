-- One more byte is that of its block's first.
use Rattle.std.proofs.Common.{◌≡◌, ◌≢◌, ℕ, ◌+◌, ◌-◌, ◌%◌, ◌<◌, ◌≤◌, List, length, slice_index, slice_set, inl, inr, sym, ap, subst, ◌∙◌, arith}
use Rattle.std.proofs.lemmas.Bool.{cases_eq}
use Rattle.std.proofs.lemmas.List.{get_or-set_other, get_or-set_same}
use Rattle.std.proofs.Math.Nat.{mod-le}
use Rattle.scanline_ops.proofs.Mosaic.{first_of_first}
use Rattle.scanline_ops.proofs.blocks.spread_blocks.Invariants.{AreSpread}
use Rattle.scanline_ops.proofs.blocks.spread_blocks.Goals as goal

-- the byte that is copied is the block's first as it was
copied :
    (row before : List ℕ) (size place x : ℕ) → 1 ≤ size → AreSpread row before size place x →
    slice_index row (x - place) ≡ slice_index before (x - x % size)
copied row before size place x positive h =
    let at : x - place ≡ x - x % size = ap (λ n. x - n) h.counted in
    elim (cases_eq place 0) [
      | inl none ↦ (
          let here : x ≤ x - place = omega (arith, none) in
          h.rest (x - place) here ∙ ap (λ n. slice_index before n) at
          )
      | inr some ↦ (
          let earlier : x - place < x = (let r = h.reached in omega (arith, r, some)) in
          let again : (x - place) - (x - place) % size ≡ x - x % size =
          (let e = first_of_first x size positive in let f = ap (λ n. n % size) at in omega (arith, e, f, at))
          in
          h.done (x - place) earlier ∙ ap (λ n. slice_index before n) again
          )
    ]

spread_next :
    (row before : List ℕ) (size place next x : ℕ) → 1 ≤ size → x < length row → next ≡ (x + 1) % size →
    AreSpread row before size place x → AreSpread (slice_set row x (slice_index row (x - place))) before size next (x + 1)
spread_next row before size place next x positive within counted h = record {
  counted = counted;
  reached = (let r = mod-le (x + 1) size in omega (arith, counted, r));
  done = λ k below. elim (cases_eq k x) [
    | inl same ↦ (
        let put : slice_index (slice_set row x (slice_index row (x - place))) x ≡ slice_index row (x - place) =
        get_or-set_same row x _ 0 within
        in
        subst (λ n. slice_index (slice_set row x (slice_index row (x - place))) n ≡ slice_index before (n - n % size)) (sym same)
        (put ∙ copied row before size place x positive h)
        )
    | inr other ↦ get_or-set_other row x k _ 0 other ∙ h.done k (omega arith)
  ];
  rest = λ k above. let other : k ≢ x = omega arith in get_or-set_other row x k _ 0 other ∙ h.rest k (omega arith);
}

pub loop-x-preserved : goal.loop-x-preserved
loop-x-preserved c =
    spread_next c.loop-x.row _ c.args.size c.loop-x.place _ c.loop-x.x c.requires.positive (omega arith) (c.next_place-place.ensures c.loop-x.x c.loop-x.invariant.counted) c.loop-x.invariant
