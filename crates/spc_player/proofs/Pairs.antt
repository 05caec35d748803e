-- The first pairs of a player, handed on in parts.
use Rattle.std.proofs.Common.{◌≡◌, ℕ, zero, suc, ◌+◌, ◌-◌, ◌*◌, ◌≤◌, List, [], ◌++◌, length, take, add-one, refl, ap, sym, subst, ◌∙◌, append_assoc, arith}
use Rattle.std.proofs.lemmas.List.{append-nil, length-append, take_all}
use Rattle.run_drive.specs.Run.{Adds, AddsSome}
use Rattle.run_drive.proofs.Running.{first_held}
use Rattle.audio_side.specs.Sound.{AudioValue, SoundState, StandsAt}
use Rattle.spc_player.specs.Play.{Playing, AreFirstPairs, after_steps, output, steps_of, to_sample}
use Rattle.spc_player.specs.Player.{PlayerValue, IsPlaying, TookPairs, TookSome}
use Rattle.spc_player.proofs.Steps.{output_more, pair, steps_more}

-- what the steps to so many samples emit
abbrev pub pairs_of : Playing → ℕ → List ℕ
pairs_of w n = output w (steps_of w n)

-- one sample more
pub one_more : (w : Playing) (n : ℕ)
    → pairs_of w (suc n) ≡ pairs_of w n ++ output (after_steps w (steps_of w n)) (to_sample (after_steps w (steps_of w n)))
unfolding steps_of
one_more w n = output_more w (steps_of w n) (to_sample (after_steps w (steps_of w n)))

count_of : (w : Playing) (n : ℕ) → length (pairs_of w n) ≡ 4 * n
unfolding steps_of
count_of w zero = refl
count_of w (suc n) =
    let v = after_steps w (steps_of w n) in
    let both = length-append (pairs_of w n) (output v (to_sample v)) in
    omega (arith, ap (length {A = ℕ}) (one_more w n), both, pair v, count_of w n)

pub are_first : (w : Playing) (n : ℕ) → AreFirstPairs w n (pairs_of w n)
are_first w n = record { steps = steps_of w n; emitted = refl; count = count_of w n }

-- fewer pairs are a beginning of more
pub pairs_begin : (w : Playing) (n d : ℕ) → (rest : List ℕ) × (pairs_of w n ++ rest ≡ pairs_of w (d + n))
pairs_begin w n zero =
    let e : n ≡ 0 + n = omega arith in
    ([], append-nil (pairs_of w n) ∙ ap (pairs_of w) e)
pairs_begin w n (suc d) =
    let p = pairs_begin w n d in
    let v = after_steps w (steps_of w (d + n)) in
    let e : suc (d + n) ≡ suc d + n = omega arith in (
      p.0 ++ output v (to_sample v),
      sym (append_assoc (pairs_of w n) p.0 (output v (to_sample v))) ∙ ap (λ (l : List ℕ). l ++ output v (to_sample v)) p.1
          ∙ sym (one_more w (d + n)) ∙ ap (pairs_of w) e,
    )

-- so many samples were played from a place: of their pairs some were taken, the others wait
pub record HasPlayed (now : PlayerValue) (before after : List ℕ → Type 0) (w : Playing) (n : ℕ) : Type 0 where
  pub plays : IsPlaying now (after_steps w (steps_of w n))
  pub handed : List ℕ
  pub whole : handed ++ now.side.waiting ≡ pairs_of w n
  pub taken : Adds before after handed

pub play_starts : (p : PlayerValue) (holds : List ℕ → Type 0) (w : Playing) → p.side.waiting ≡ [] → IsPlaying p w → HasPlayed p holds holds w 0
unfolding steps_of
play_starts p holds w empty h =
    record { plays = h; handed = []; whole = empty; taken = λ had held. subst holds (sym (append-nil had)) held }

-- a side that was drained stands where it stood
pub lent_plays : (side lent : AudioValue) (ports' : List ℕ) (now : PlayerValue) → record { side = side; ports = ports' } ≡ now
    → ((m : SoundState) → StandsAt side m → StandsAt lent m) → (v : Playing) → IsPlaying now v → IsPlaying (record { side = lent; ports = ports' }) v
lent_plays side lent ports' now view state v h =
    let g : IsPlaying (record { side = side; ports = ports' }) v = subst (λ (p : PlayerValue). IsPlaying p v) (sym view) h in
    record { sound = state v.sound g.sound; ports = g.ports }

-- what waited was taken
pub play_pours : (now lent : PlayerValue) (before after later : List ℕ → Type 0) (w : Playing) (n : ℕ) → HasPlayed now before after w n
    → ((v : Playing) → IsPlaying now v → IsPlaying lent v) → lent.side.waiting ≡ [] → Adds after later now.side.waiting
    → HasPlayed lent before later w n
play_pours now lent before after later w n h same empty adds =
    record {
      plays = same (after_steps w (steps_of w n)) h.plays;
      handed = h.handed ++ now.side.waiting;
      whole = ap (λ (l : List ℕ). (h.handed ++ now.side.waiting) ++ l) empty ∙ append-nil (h.handed ++ now.side.waiting) ∙ h.whole;
      taken = λ had held. subst later (append_assoc had h.handed now.side.waiting) (adds (had ++ h.handed) (h.taken had held));
    }

-- a sample more waits
pub play_goes_on : (now next : PlayerValue) (before after : List ℕ → Type 0) (w : Playing) (n : ℕ) → HasPlayed now before after w n
    → ((v : Playing) → IsPlaying now v → IsPlaying next (after_steps v (to_sample v)))
    → ((v : Playing) → IsPlaying now v → next.side.waiting ≡ now.side.waiting ++ output v (to_sample v))
    → HasPlayed next before after w (n + 1)
unfolding steps_of
play_goes_on now next before after w n h steps emits =
    let v = after_steps w (steps_of w n) in
    subst (HasPlayed next before after w) (sym (add-one n)) (record {
      plays = subst (IsPlaying next) (sym (steps_more w (steps_of w n) (to_sample v))) (steps v h.plays);
      handed = h.handed;
      whole = ap (λ (l : List ℕ). h.handed ++ l) (emits v h.plays) ∙ sym (append_assoc h.handed now.side.waiting (output v (to_sample v)))
          ∙ ap (λ (l : List ℕ). l ++ output v (to_sample v)) h.whole ∙ sym (one_more w n);
      taken = h.taken;
    })

-- all was taken
pub play_is_whole : (now : PlayerValue) (before after later : List ℕ → Type 0) (w : Playing) (n : ℕ) → HasPlayed now before after w n
    → Adds after later now.side.waiting → TookPairs w n before later
play_is_whole now before after later w n h adds =
    record {
      bytes = pairs_of w n;
      first = are_first w n;
      taken = λ had held. subst later (append_assoc had h.handed now.side.waiting ∙ ap (λ (l : List ℕ). had ++ l) h.whole) (adds (had ++ h.handed) (h.taken had held));
    }

pub whole_is_some : (before after : List ℕ → Type 0) (w : Playing) (n : ℕ) → TookPairs w n before after → TookSome w n before after
whole_is_some before after w n h =
    record {
      bytes = h.bytes;
      first = h.first;
      taken = λ had held. (length h.bytes, subst after (ap (λ (l : List ℕ). had ++ l) (sym (take_all (length h.bytes) h.bytes (omega arith)))) (h.taken had held));
    }

-- some of what waited was not taken, when more samples were to come
pub play_stops : (now : PlayerValue) (before after later : List ℕ → Type 0) (w : Playing) (n all : ℕ) → n ≤ all → HasPlayed now before after w n
    → AddsSome after later now.side.waiting → TookSome w all before later
play_stops now before after later w n all le h some =
    let d = all - n in
    let e : d + n ≡ all = omega (arith, le) in
    let rest = pairs_begin w n d in
    let begins : (h.handed ++ now.side.waiting) ++ rest.0 ≡ pairs_of w all = ap (λ (l : List ℕ). l ++ rest.0) h.whole ∙ rest.1 ∙ ap (pairs_of w) e in
    record {
      bytes = pairs_of w all;
      first = are_first w all;
      taken = λ had held.
          let p = some (had ++ h.handed) (h.taken had held) in (
            length (h.handed ++ take p.0 now.side.waiting),
            first_held (λ (l : List ℕ). later (had ++ l)) h.handed now.side.waiting rest.0 (pairs_of w all) p.0 begins
                (subst later (append_assoc had h.handed (take p.0 now.side.waiting)) p.1),
          );
    }
