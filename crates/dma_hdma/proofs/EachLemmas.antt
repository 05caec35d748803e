-- Lemmas on going over the channels with the bits of a mask.
use Rattle.std.proofs.Common.{◌≡◌, ℕ, zero, suc, ◌+◌, ◌/◌, ◌%◌, ◌<◌, Bool, List, [], ◌∷◌, ◌++◌, length, take, drop, get_or, refl, arith, ap, sym, ◌∙◌, add-one, append_assoc}
use Rattle.std.proofs.Math.ListN.{set}
use Rattle.std.specs.Prelude.{nat_eq}
use Rattle.std.proofs.lemmas.List.{length-take, get_or_at, set_at, drop_more}
use Rattle.dma_hdma.specs.declared.channel_state.Channel.{Channel}
use Rattle.dma_hdma.specs.Channels.{by_bits}

-- a mask halved so many times
abbrev pub halved : ℕ → ℕ → ℕ
halved zero mask = mask
halved (suc i) mask = halved i (mask / 2)

-- once more
halved_more : (i mask : ℕ) → halved (suc i) mask ≡ halved i mask / 2
halved_more zero mask = refl
halved_more (suc i) mask = halved_more i (mask / 2)

-- the same, as loops count
pub halved_next : (i mask : ℕ) → halved (i + 1) mask ≡ halved i mask / 2
halved_next i mask = ap (λ n. halved n mask) (add-one i) ∙ halved_more i mask

length-by_bits : (f : Channel → Bool → Channel) (xs : List Channel) (mask : ℕ) → length (by_bits f xs mask) ≡ length xs
length-by_bits f [] mask = refl
length-by_bits f (x ∷ xs) mask = ap (λ n. suc n) (length-by_bits f xs (mask / 2))

-- one channel more, with the bit that comes after so many halvings
by_bits_more : (f : Channel → Bool → Channel) (xs : List Channel) (i : ℕ) (x : Channel) (mask : ℕ) → i < length xs
    → by_bits f (take (suc i) xs) mask ≡ by_bits f (take i xs) mask ++ f (get_or xs i x) (nat_eq (halved i mask % 2) 1) ∷ []
by_bits_more f [] i x mask lt = absurd (omega arith)
by_bits_more f (c ∷ xs) zero x mask lt = refl
by_bits_more f (c ∷ xs) (suc i) x mask lt =
    let within : i < length xs = omega arith in
    ap (λ l. f c (nat_eq (mask % 2) 1) ∷ l) (by_bits_more f xs i x (mask / 2) within)

-- a loop that gives each channel its bit
pub by_bits_over_more : (f : Channel → Bool → Channel) (xs ys : List Channel) (i : ℕ) (x : Channel) (mask : ℕ) → i < length xs
    → ys ≡ by_bits f (take i xs) mask ++ drop i xs → x ≡ get_or ys i x
    → set ys i (f x (nat_eq (halved i mask % 2) 1)) ≡ by_bits f (take (i + 1) xs) mask ++ drop (i + 1) xs
by_bits_over_more f xs ys i x mask lt h is =
    let bit = nat_eq (halved i mask % 2) 1 in
    let front = by_bits f (take i xs) mask in
    let long : length front ≡ i = length-by_bits f (take i xs) mask ∙ omega (arith, length-take i xs) in
    let parts : ys ≡ front ++ get_or xs i x ∷ drop (i + 1) xs = h ∙ ap (λ l. front ++ l) (drop_more xs i x lt) in
    let read : x ≡ get_or xs i x = is ∙ ap (λ l. get_or l i x) parts ∙ get_or_at front _ _ x i long in
    let more : by_bits f (take (i + 1) xs) mask ≡ front ++ f (get_or xs i x) bit ∷ [] =
    ap (λ n. by_bits f (take n xs) mask) (add-one i) ∙ by_bits_more f xs i x mask lt in
    ap (λ l. set l i (f x bit)) parts ∙ set_at front _ _ (f x bit) i long ∙ sym (append_assoc front (f x bit ∷ []) _)
    ∙ ap (λ l. l ++ drop (i + 1) xs) (ap (λ y. front ++ f y bit ∷ []) read ∙ sym more)
