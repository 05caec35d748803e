-- Bytes that are put into a room behind those that were put before, as far as they fit.
use Rattle.std.proofs.Common.{◌≡◌, ◌≢◌, ℕ, ◌+◌, ◌-◌, ◌≤◌, ◌<◌, List, [], ◌++◌, length, take, drop, refl, ap, sym, ◌∙◌, subst, append_assoc, length-append, length-take-le, length-drop, take_all, arith}
use Rattle.std.proofs.lemmas.List.{take-append-le}
use Rattle.std.proofs.Math.Seq.{take-append-add}
use Rattle.std.proofs.lemmas.Slice.{take-put_mid}
use borrow.Rule.Slice.PartMut.{put_mid}
use Rattle.snes_defs.specs.declared.ports.Side.{Side}
use Rattle.snes_defs.specs.declared.ports.Side.TheVariants.{Console, Sound}
use Rattle.frame_player.specs.declared.frame_bytes.SideBytes.{SideBytes}
use Rattle.frame_player.specs.declared.frame_bytes.FrameBytes.{FrameBytes}
use Rattle.frame_player.specs.FrameBytes.{Takes, TakesOf}

-- a room is as long as before where a part of it was put in
pub same_size : (s new : List ℕ) (c k : ℕ) → c + k ≤ length s → length new ≡ k → length (put_mid c k s new) ≡ length s
same_size s new c k fits size =
    ap length (sym (append_assoc (take c s) new _)) ∙ sized
  where
    sized : length ((take c s ++ new) ++ drop k (drop c s)) ≡ length s
    sized = omega (arith, length-append (take c s ++ new) (drop k (drop c s)), length-append (take c s) new, length-take-le c s (omega arith), length-drop c s, length-drop k (drop c s))

-- as many bytes were put as the count says, where they fit
held_count : (s had : List ℕ) (c : ℕ) → c ≤ length s → Takes s c had → length had ≡ c
held_count s had c le h = let is = h.count_is in omega (arith, is, le)

had_front : (s had : List ℕ) (c : ℕ) → c ≤ length s → Takes s c had → take c s ≡ had
had_front s had c le h =
    let held = held_count s had c le h in
    ap (λ n. take n s) (sym held) ∙ h.front ∙ take_all (length s) had (omega (arith, held, le))

-- at first nothing was put
pub takes_nothing : (s : List ℕ) (c : ℕ) → c ≡ 0 → Takes s c []
takes_nothing s c none = record { count_is = omega (arith, none); front = sym (take_all (length s) [] (omega arith)) }

-- all of them fit
pub takes_all : (s bytes new had : List ℕ) (c k : ℕ) → new ≡ bytes → k ≡ length bytes → c + length bytes ≤ length s
    → Takes s c had → Takes (put_mid c k s new) (c + length bytes) (had ++ bytes)
takes_all s bytes new had c k same size fits h =
    let held = held_count s had c (omega (arith, fits)) h in
    let both = length-append had bytes in
    let long : length new ≡ length bytes = ap length same in
    let end : length (put_mid c k s new) ≡ length s = same_size s new c k (omega (arith, fits, size)) (omega (arith, long, size)) in
    record {
      count_is = omega (arith, held, both, end, fits);
      front =
          ap (λ n. take n (put_mid c k s new)) {x = length (had ++ bytes)} {y = c + length bytes} (omega (arith, both, held))
          ∙ take-put_mid c k s new (c + length bytes) (omega (arith, fits)) (omega (arith, size, long, fits))
          ∙ ap (λ l. l ++ new) (had_front s had c (omega (arith, fits)) h) ∙ ap (λ l. had ++ l) same
          ∙ sym (take_all (length (put_mid c k s new)) (had ++ bytes) (omega (arith, both, held, end, fits)));
    }

-- the room was full, and one byte more had come
pub takes_none : (s bytes had : List ℕ) (c : ℕ) → length s < c → Takes s c had → Takes s c (had ++ bytes)
takes_none s bytes had c more h =
    let is = h.count_is in
    let both = length-append had bytes in
    record {
      count_is = omega (arith, is, more, both);
      front =
          take_all (length (had ++ bytes)) s (omega (arith, is, more, both))
          ∙ sym (take_all (length had) s (omega (arith, is, more))) ∙ h.front
          ∙ sym (take-append-le (length s) had bytes (omega (arith, is, more)));
    }

-- only the first of them fit
pub takes_some : (s bytes new had : List ℕ) (c k left : ℕ) → left ≡ length s - c → k ≡ left → c ≤ length s → left < length bytes → new ≡ take left bytes
    → Takes s c had → Takes (put_mid c k s new) (length s + 1) (had ++ bytes)
takes_some s bytes new had c k left is size le more same h =
    let held = held_count s had c le h in
    let both = length-append had bytes in
    let long : length new ≡ left = ap length same ∙ length-take-le left bytes (omega (arith, more)) in
    let end : length (put_mid c k s new) ≡ length s = same_size s new c k (omega (arith, size, is, le)) (omega (arith, long, size)) in
    let whole : put_mid c k s new ≡ had ++ take left bytes =
    sym (take_all (length s) (put_mid c k s new) (omega (arith, end)))
    ∙ take-put_mid c k s new (length s) (omega (arith, is, size, le)) le
    ∙ ap (λ l. l ++ new) (had_front s had c le h) ∙ ap (λ l. had ++ l) same in
    let cut : take (length s) (had ++ bytes) ≡ had ++ take left bytes =
    ap (λ n. take n (had ++ bytes)) (sizes (length s) c left (length had) held is le) ∙ take-append-add had bytes left in
    record {
      count_is = omega (arith, both, held, is, le, more, end);
      front = take_all (length (had ++ bytes)) (put_mid c k s new) (omega (arith, both, held, is, le, more, end)) ∙ whole ∙ sym cut
          ∙ ap (λ n. take n (had ++ bytes)) (sym end);
    }
  where
    sizes : (n c left had : ℕ) → had ≡ c → left ≡ n - c → c ≤ n → n ≡ had + left
    sizes n c left had held is le = omega (arith, held, is, le)

pub ruleset puts = (takes_all, takes_none, takes_some)

-- what was taken, where all of it fits
pub whole_count : (s bytes : List ℕ) (c : ℕ) → c ≤ length s → Takes s c bytes → c ≡ length bytes
whole_count s bytes c le h = sym (held_count s bytes c le h)

pub whole_front : (s bytes : List ℕ) (c : ℕ) → c ≤ length s → Takes s c bytes → take c s ≡ bytes
whole_front s bytes c le h = had_front s bytes c le h

pub ruleset copies = (whole_count, whole_front)

-- the room of one side is filled, and that of the other stays
pub sound_stays : (a b : FrameBytes) (other : Side) (had : List ℕ) → b.sound ≡ a.sound → other ≢ Console → TakesOf a other had → TakesOf b other had
sound_stays a b Console had same differ h = absurd (differ refl)
sound_stays a b Sound had same differ h = subst (λ (f : SideBytes). Takes f.bytes.items f.count had) (sym same) h

pub video_stays : (a b : FrameBytes) (other : Side) (had : List ℕ) → b.video ≡ a.video → other ≢ Sound → TakesOf a other had → TakesOf b other had
video_stays a b Console had same differ h = subst (λ (f : SideBytes). Takes f.bytes.items f.count had) (sym same) h
video_stays a b Sound had same differ h = absurd (differ refl)

pub ruleset sides = (sound_stays, video_stays)
