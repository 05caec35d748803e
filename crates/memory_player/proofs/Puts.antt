-- Bytes that are put into a slice behind those that were put before: `c` of them.
use Rattle.std.proofs.Common.{◌≡◌, ℕ, ◌+◌, ◌-◌, ◌≤◌, ◌<◌, List, [], ◌++◌, length, take, drop, refl, ap, sym, ◌∙◌, append-nil, append_assoc, length-append, length-take-le, length-drop, take_all, take_at, take-take, take-add, drop_at, arith}
use Rattle.std.proofs.lemmas.Slice.{take-put_mid, drop-put_mid}
use borrow.Rule.Slice.PartMut.{put_mid, mid_of, same_len_mid}
use Rattle.memory_player.specs.Filled.{Handed, OnlyFront, in_front}

-- a slice is as long as before where a part of it was put in
same_size : (s new : List ℕ) (c k : ℕ) → c + k ≤ length s → length new ≡ k → length (put_mid c k s new) ≡ length s
same_size s new c k fits size =
    ap length (sym (append_assoc (take c s) new _)) ∙ sized
  where
    sized : length ((take c s ++ new) ++ drop k (drop c s)) ≡ length s
    sized = omega (arith, length-append (take c s ++ new) (drop k (drop c s)), length-append (take c s) new, length-take-le c s (omega arith), length-drop c s, length-drop k (drop c s))

-- what was handed fills the front
had_front : (s had : List ℕ) (c : ℕ) → c ≤ length s → Handed s c had → take c s ≡ had
had_front s had c le h = h.front ∙ take_all (length s) had (omega (arith, h.count_is))

pub handed_then : (s bytes new had : List ℕ) (c k : ℕ) → new ≡ bytes → k ≡ length bytes → c + length bytes ≤ length s
    → Handed s c had → Handed (put_mid c k s new) (c + length bytes) (had ++ bytes)
handed_then s bytes new had c k same size fits h = record {
  count_is = omega (arith, h.count_is, length-append had bytes);
  front =
      let long : length new ≡ length bytes = ap length same in
      let all : take (c + length bytes) (put_mid c k s new) ≡ take c s ++ new = take-put_mid c k s new (c + length bytes) (omega arith) (omega arith) in
      let end : length (put_mid c k s new) ≡ length s = same_size s new c k (omega arith) (omega arith) in
      all ∙ ap (λ l. l ++ new) (had_front s had c (omega arith) h) ∙ ap (λ l. had ++ l) same
      ∙ sym (take_all (length (put_mid c k s new)) (had ++ bytes) (omega (arith, length-append had bytes, h.count_is)));
}

-- nothing more is taken of what comes then
pub handed_none : (s bytes had : List ℕ) (c : ℕ) → Handed s c had → (count : ℕ) × Handed s c (had ++ take count bytes)
handed_none s bytes had c h = (
  0,
  record {
    count_is = omega (arith, h.count_is, length-append had (take 0 bytes));
    front = h.front ∙ ap (take (length s)) (sym (append-nil had));
  },
)

-- a slice is filled to its end, and one byte more was handed to it
pub handed_some : (s bytes new had : List ℕ) (c k room : ℕ) → room ≡ length s - c → k ≡ room → c ≤ length s → room < length bytes → new ≡ take room bytes
    → Handed s c had → (count : ℕ) × Handed (put_mid c k s new) (length s + 1) (had ++ take count bytes)
handed_some s bytes new had c k room is size le more same h = (
  room + 1,
  record {
    count_is = omega (arith, h.count_is, length-append had (take (room + 1) bytes), length-take-le (room + 1) bytes (omega arith));
    front =
        let long : length new ≡ room = ap length same ∙ length-take-le room bytes (omega arith) in
        let end : length (put_mid c k s new) ≡ length s = same_size s new c k (omega arith) (omega arith) in
        let held : length had ≡ c = sym h.count_is in
        let whole : put_mid c k s new ≡ had ++ take room bytes =
        sym (take_all (length s) (put_mid c k s new) (omega arith))
        ∙ take-put_mid c k s new (length s) (omega arith) le
        ∙ ap (λ l. l ++ new) (had_front s had c le h) ∙ ap (λ l. had ++ l) same in
        let cut : take (length s) (had ++ take (room + 1) bytes) ≡ had ++ take room bytes =
        ap (λ n. take n (had ++ take (room + 1) bytes)) (lengths (length s) c room had held is le)
        ∙ take-add (length had) room (had ++ take (room + 1) bytes)
        ∙ ap (λ l. l ++ take room (drop (length had) (had ++ take (room + 1) bytes))) (take_at had (take (room + 1) bytes) (length had) refl)
        ∙ ap (λ l. had ++ take room l) (drop_at had (take (room + 1) bytes) (length had) refl)
        ∙ ap (λ l. had ++ l) (take-take room (room + 1) bytes (omega arith)) in
        take_all (length s + 1) (put_mid c k s new) (omega arith) ∙ whole ∙ sym cut ∙ ap (λ n. take n (had ++ take (room + 1) bytes)) (sym end);
  },
)
  where
    lengths : (n c room : ℕ) (had : List ℕ) → length had ≡ c → room ≡ n - c → c ≤ n → n ≡ length had + room
    lengths n c room had held is le = omega arith

-- only the front was changed
pub only_front : (s new : List ℕ) (c k count : ℕ) → c + k ≤ length s → length new ≡ k → c + k ≤ count → c ≤ count → OnlyFront s (put_mid c k s new) c count
only_front s new c k count fits size behind more = record {
  size = same_size s new c k fits size;
  back = drop-put_mid c k s new count behind (omega arith) size;
  more = more;
}

pub ruleset puts = (handed_none, handed_some, handed_then, only_front)
