-- The channel that has the turn keeps it while it has bytes left.
use Rattle.std.proofs.Common.{◌≡◌, ℕ, ◌∙◌, ap, sym, Bool, true, refl, List, Option, Some, None, get_or}
use Rattle.std.proofs.Math.ListN.{set}
use Rattle.std.specs.List.{position}
use Rattle.std.proofs.lemmas.List.Folds.{position_or_len-set}
use Rattle.std.proofs.lemmas.List.Quantifiers.{position-Some}
use Rattle.std.proofs.lemmas.List.{length-set}
use Rattle.dma_hdma.specs.declared.channel_state.Channel.{Channel}
use Rattle.dma_hdma.specs.declared.whose.Turn.TheVariants.{Hdma, Dma}
use Rattle.dma_hdma.specs.Channel.{first_channel, is_working, run_on}
use Rattle.dma_hdma.specs.Channels.{turn_of, turn_of_hdma, turn_of_dma}

-- a channel that passes as the one before it did changes nothing of whose turn it is
same_position : (p : Channel → Bool) (xs : List Channel) (x : ℕ) (c other : Channel) → p c ≡ p (get_or xs x other)
    → position p (set xs x c) ≡ position p xs
same_position p xs x c other h = rw (position_or_len-set p xs x c other h, length-set xs x c) refl

-- whose turn it is, read back
no_dma_has : (o : Option ℕ) (p : Option ℕ) (x : ℕ) → turn_of_dma o ≡ Hdma x → p ≡ Some x
no_dma_has None p x h = cc
no_dma_has (Some y) p x h = cc

hdma_has : (o : Option ℕ) (xs : List Channel) (x : ℕ) → turn_of_hdma o xs ≡ Hdma x → o ≡ Some x
hdma_has None xs x h = no_dma_has (position (λ c. c.running) xs) None x h
hdma_has (Some y) xs x h = cc

no_hdma_has : (o : Option ℕ) (xs : List Channel) (x : ℕ) → turn_of_hdma o xs ≡ Dma x → o ≡ None
no_hdma_has None xs x h = refl
no_hdma_has (Some y) xs x h = cc

dma_has : (o : Option ℕ) (x : ℕ) → turn_of_dma o ≡ Dma x → o ≡ Some x
dma_has None x h = cc
dma_has (Some y) x h = cc

pub hdma_stays : (xs : List Channel) (x : ℕ) (c : Channel) → turn_of xs ≡ Hdma x → is_working c ≡ true
    → turn_of (set xs x c) ≡ Hdma x
unfolding turn_of
hdma_stays xs x c turn works =
    let first = hdma_has (position is_working xs) xs x turn in
    let worked = (position-Some is_working xs x first_channel first).1 in
    let same = same_position is_working xs x c first_channel (works ∙ sym worked) in
    ap (λ o. turn_of_hdma o (set xs x c)) (same ∙ first)

-- a byte of DMA changes nothing of the channel's HDMA
pub runs_on : (c d : Channel) → d ≡ run_on c → is_working d ≡ is_working c
unfolding run_on
runs_on c d h = rw h refl

pub dma_stays : (xs : List Channel) (x : ℕ) (c other : Channel) → turn_of xs ≡ Dma x
    → is_working c ≡ is_working (get_or xs x other) → c.running ≡ true → turn_of (set xs x c) ≡ Dma x
unfolding turn_of
dma_stays xs x c other turn works runs =
    let none = no_hdma_has (position is_working xs) xs x turn in
    let first = dma_has (position (λ d. d.running) xs) x (ap (λ o. turn_of_hdma o xs) (sym none) ∙ turn) in
    let ran = (position-Some (λ (d : Channel). d.running) xs x first_channel first).1 in
    let same = same_position is_working xs x c other works in
    let second = same_position (λ d. d.running) xs x c first_channel (runs ∙ sym ran) in
    ap (λ o. turn_of_hdma o (set xs x c)) (same ∙ none) ∙ ap turn_of_dma (second ∙ first)
