-- The samples that are heard, gathered and handed on in parts.
use Rattle.std.proofs.Common.{◌≡◌, ◌∙◌, ℕ, zero, suc, ◌+◌, ◌-◌, ◌≤◌, List, [], ◌++◌, length, take, add-one, refl, ap, sym, subst, append_assoc, arith}
use Rattle.std.proofs.lemmas.List.{append-nil, take_all}
use Rattle.run_drive.specs.Run.{Adds, AddsSome}
use Rattle.run_drive.proofs.Running.{first_held}
use Rattle.spc_player.specs.Play.{Playing, after_steps, steps_of, to_sample}
use Rattle.spc_player.specs.Player.{HasGoneOn, IsPlaying, PlayerValue}
use Rattle.spc_player.proofs.Steps.{steps_more}
use Rattle.stem_player.specs.Heard.{heard_pairs, heard_sample}
use Rattle.stem_player.specs.declared.heard.Heard.{Heard}

-- one sample more
pub one_heard : (h : Heard) (w : Playing) (n k : ℕ)
    → heard_pairs h w n (suc k) ≡ heard_pairs h w n k ++ heard_sample h (after_steps w (steps_of w k)) (n - k)
unfolding heard_pairs
one_heard h w n k = refl

-- fewer samples are a prefix of more
pub heard_begin : (h : Heard) (w : Playing) (n k d : ℕ) → (rest : List ℕ) × (heard_pairs h w n k ++ rest ≡ heard_pairs h w n (d + k))
heard_begin h w n k zero =
    let e : k ≡ 0 + k = omega arith in
    ([], append-nil (heard_pairs h w n k) ∙ ap (heard_pairs h w n) e)
heard_begin h w n k (suc d) =
    let p = heard_begin h w n k d in
    let more = heard_sample h (after_steps w (steps_of w (d + k))) (n - (d + k)) in
    let e : suc (d + k) ≡ suc d + k = omega arith in (
      p.0 ++ more,
      sym (append_assoc (heard_pairs h w n k) p.0 more) ∙ ap (λ (l : List ℕ). l ++ more) p.1 ∙ sym (one_heard h w n (d + k)) ∙ ap (heard_pairs h w n) e,
    )

-- of n samples the first k were played from a place: of their bytes some were taken, the others are gathered
pub record HasHeard (h : Heard) (now : PlayerValue) (gathered : List ℕ) (before after : List ℕ → Type 0) (w : Playing) (n k : ℕ) : Type 0 where
  pub plays : HasGoneOn now w k
  pub handed : List ℕ
  pub whole : handed ++ gathered ≡ heard_pairs h w n k
  pub taken : Adds before after handed

pub hearing_starts : (h : Heard) (p : PlayerValue) (gathered : List ℕ) (holds : List ℕ → Type 0) (w : Playing) (n : ℕ) → gathered ≡ [] → IsPlaying p w
    → HasHeard h p gathered holds holds w n 0
unfolding steps_of heard_pairs
hearing_starts h p gathered holds w n empty plays' =
    record { plays = plays'; handed = []; whole = empty; taken = λ had held. subst holds (sym (append-nil had)) held }

-- what was gathered was taken
pub hearing_hands_on : (h : Heard) (now : PlayerValue) (gathered left : List ℕ) (before after later : List ℕ → Type 0) (w : Playing) (n k : ℕ)
    → HasHeard h now gathered before after w n k → left ≡ [] → Adds after later gathered → HasHeard h now left before later w n k
hearing_hands_on h now gathered left before after later w n k i empty adds =
    record {
      plays = i.plays;
      handed = i.handed ++ gathered;
      whole = ap (λ (l : List ℕ). (i.handed ++ gathered) ++ l) empty ∙ append-nil (i.handed ++ gathered) ∙ i.whole;
      taken = λ had held. subst later (append_assoc had i.handed gathered) (adds (had ++ i.handed) (i.taken had held));
    }

-- a sample more is gathered
pub hearing_goes_on : (h : Heard) (now next : PlayerValue) (gathered more all : List ℕ) (before after : List ℕ → Type 0) (w : Playing) (n k : ℕ)
    → HasHeard h now gathered before after w n k → all ≡ gathered ++ more
    → ((v : Playing) → IsPlaying now v → IsPlaying next (after_steps v (to_sample v)))
    → ((v : Playing) → IsPlaying now v → more ≡ heard_sample h v (n - k)) → HasHeard h next all before after w n (k + 1)
unfolding steps_of
hearing_goes_on h now next gathered more all before after w n k i all_is steps bytes =
    let v = after_steps w (steps_of w k) in
    subst (HasHeard h next all before after w n) (sym (add-one k)) (record {
      plays = subst (IsPlaying next) (sym (steps_more w (steps_of w k) (to_sample v))) (steps v i.plays);
      handed = i.handed;
      whole = ap (λ (l : List ℕ). i.handed ++ l) all_is ∙ sym (append_assoc i.handed gathered more) ∙ ap (λ (l : List ℕ). l ++ more) i.whole
          ∙ ap (λ (l : List ℕ). heard_pairs h w n k ++ l) (bytes v i.plays) ∙ sym (one_heard h w n k);
      taken = i.taken;
    })

-- all was taken
pub hearing_is_whole : (h : Heard) (now : PlayerValue) (gathered : List ℕ) (before after later : List ℕ → Type 0) (w : Playing) (n k : ℕ)
    → HasHeard h now gathered before after w n k → Adds after later gathered → Adds before later (heard_pairs h w n k)
hearing_is_whole h now gathered before after later w n k i adds = λ had held.
    subst later (append_assoc had i.handed gathered ∙ ap (λ (l : List ℕ). had ++ l) i.whole) (adds (had ++ i.handed) (i.taken had held))

pub all_is_some : (before after : List ℕ → Type 0) (bytes : List ℕ) → Adds before after bytes → AddsSome before after bytes
all_is_some before after bytes adds = λ had held.
    (length bytes, subst after (ap (λ (l : List ℕ). had ++ l) (sym (take_all (length bytes) bytes (omega arith)))) (adds had held))

-- some of what was gathered was not taken, when more samples were to come
pub hearing_stops : (h : Heard) (now : PlayerValue) (gathered : List ℕ) (before after later : List ℕ → Type 0) (w : Playing) (n k : ℕ) → k ≤ n
    → HasHeard h now gathered before after w n k → AddsSome after later gathered → AddsSome before later (heard_pairs h w n n)
hearing_stops h now gathered before after later w n k le i some =
    let d = n - k in
    let e : d + k ≡ n = omega (arith, le) in
    let rest = heard_begin h w n k d in
    let begins : (i.handed ++ gathered) ++ rest.0 ≡ heard_pairs h w n n = ap (λ (l : List ℕ). l ++ rest.0) i.whole ∙ rest.1 ∙ ap (heard_pairs h w n) e in
    λ had held.
    let p = some (had ++ i.handed) (i.taken had held) in (
      length (i.handed ++ take p.0 gathered),
      first_held (λ (l : List ℕ). later (had ++ l)) i.handed gathered rest.0 (heard_pairs h w n n) p.0 begins
          (subst later (append_assoc had i.handed (take p.0 gathered)) p.1),
    )
