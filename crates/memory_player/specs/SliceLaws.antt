-- Slices that are filled one time after another.
use Rattle.std.proofs.Common.{◌≡◌, ℕ, ◌+◌, ◌-◌, ◌≤◌, List, drop, refl, ap, sym, ◌∙◌, drop-drop, arith}
use Rattle.memory_player.specs.declared.filling.Filling.{Filling}
use Rattle.memory_player.specs.declared.slices.Slices.{Slices}
use Rattle.memory_player.specs.Filled.{OnlyFront}
use Rattle.memory_player.specs.Slices.{OnlyFilled, OnlyFills}

-- what stays behind a place stays behind a later one
later : (j k : ℕ) (a b : List ℕ) → j ≤ k → drop j b ≡ drop j a → drop k b ≡ drop k a
later j k a b le same =
    let whole : j + (k - j) ≡ k = omega arith in
    ap (λ n. drop n b) (sym whole) ∙ sym (drop-drop (k - j) j b) ∙ ap (drop (k - j)) same ∙ drop-drop (k - j) j a ∙ ap (λ n. drop n a) whole

pub front_then : (a b c : List ℕ) (i j k : ℕ) → OnlyFront a b i j → OnlyFront b c j k → OnlyFront a c i k
front_then a b c i j k first then = record {
  size = then.size ∙ first.size;
  back = then.back ∙ later j k a b then.more first.back;
  more = omega (arith, first.more, then.more);
}

filled_none : (a : Filling) → OnlyFilled a a
filled_none a = record { front = record { size = refl; back = refl; more = omega arith } }

filled_more : (a b c : Filling) → OnlyFilled a b → OnlyFilled b c → OnlyFilled a c
filled_more a b c first then = record {
  front = front_then a.bytes.items b.bytes.items c.bytes.items a.count b.count c.count first.front then.front;
}

pub fills_none : (a : Slices) → OnlyFills a a
fills_none a = record { video = filled_none a.video; sound = filled_none a.sound }

pub fills_more : (a b c : Slices) → OnlyFills a b → OnlyFills b c → OnlyFills a c
fills_more a b c first then = record {
  video = filled_more a.video b.video c.video first.video then.video;
  sound = filled_more a.sound b.sound c.sound first.sound then.sound;
}
