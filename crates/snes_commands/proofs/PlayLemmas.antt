-- What is put to the output for sound is what `play` makes.
use Rattle.std.proofs.Common.{◌≡◌, ℕ, Bool, true, false, nat_eq, List, [], ◌∷◌, Option, MatchBool, Result, Ok, Err, OnOk, refl, sym, subst}
use Rattle.shelf.specs.declared.shelves.Input.{Input}
use Rattle.shelf.specs.declared.shelves.Out.TheVariants.{Sound}
use Rattle.shelf.specs.Told.{Holds}
use Rattle.shelf.specs.Shown.{Shown, OnlyPuts}
use Rattle.run_io.specs.Line.{line_of, samples_text}
use Rattle.run_io.specs.Form.{Order}
use Rattle.run_io.specs.Lists.{AllOf}
use Rattle.spc_player.specs.SoundFile.{Image}
use Rattle.run_drive.specs.Run.{Adds, AddsSome}
use Rattle.run_io.specs.Settings.{count_set}
use Rattle.spc_player.specs.Play.{Playing, AreFirstPairs, play_start}
use Rattle.spc_player.specs.Player.{TookPairs, TookSome}
use Rattle.stem_player.specs.declared.heard.Heard.{Heard}
use Rattle.stem_player.specs.Heard.{heard_pairs}
use Rattle.spc_player.proofs.Pairs.{pairs_of, are_first}
use Rattle.snes_commands.specs.Command.{CanMake, HoldsWhole, HoldsFirst}
use Rattle.snes_commands.specs.Ends.{OnlyTouches}
use Rattle.snes_commands.specs.Play.{ShowsSound, play_settings, heard_in, IsSound, TookSound, TookSoundFirst, play}

-- a sound by the words: the first pairs if no setting is set, else what is heard
chosen : (P Q : List ℕ → Type 0) (b : Bool) → ((bytes : List ℕ) × P bytes) → ((bytes : List ℕ) × Q bytes) → (bytes : List ℕ) × MatchBool b (P bytes) (Q bytes)
chosen P Q true one other = one
chosen P Q false one other = other

pub plain_sound : (order : Order) (w : Playing) (bytes : List ℕ) → nat_eq (count_set order.pairs play_settings) 0 ≡ true → AreFirstPairs w order.count bytes → IsSound order w bytes
unfolding IsSound
plain_sound order w bytes none first =
    subst (λ (b : Bool). MatchBool b (AreFirstPairs w order.count bytes) (bytes ≡ heard_pairs (heard_in order.pairs) w order.count order.count)) (sym none) first

pub heard_sound : (order : Order) (w : Playing) → nat_eq (count_set order.pairs play_settings) 0 ≡ false → IsSound order w (heard_pairs (heard_in order.pairs) w order.count order.count)
unfolding IsSound
heard_sound order w some =
    let bytes = heard_pairs (heard_in order.pairs) w order.count order.count in
    subst (λ (b : Bool). MatchBool b (AreFirstPairs w order.count bytes) (bytes ≡ heard_pairs (heard_in order.pairs) w order.count order.count)) (sym some) refl

-- there is such a sound
pub some_sound : (order : Order) (w : Playing) → (bytes : List ℕ) × IsSound order w bytes
unfolding IsSound
some_sound order w =
    chosen (AreFirstPairs w order.count) (λ bytes. bytes ≡ heard_pairs (heard_in order.pairs) w order.count order.count)
    (nat_eq (count_set order.pairs play_settings) 0) (pairs_of w order.count, are_first w order.count) (heard_pairs (heard_in order.pairs) w order.count order.count, refl)

-- what was taken, by the words
module _ (order : Order) (w : Playing) (before after : List ℕ → Type 0) where
  pub took_plain : nat_eq (count_set order.pairs play_settings) 0 ≡ true → TookPairs w order.count before after → TookSound order w before after
  took_plain none h = record { bytes = h.bytes; sound = plain_sound order w h.bytes none h.first; taken = h.taken }

  pub took_plain_first : nat_eq (count_set order.pairs play_settings) 0 ≡ true → TookSome w order.count before after → TookSoundFirst order w before after
  took_plain_first none h = record { bytes = h.bytes; sound = plain_sound order w h.bytes none h.first; taken = h.taken }

  module _ (heard : Heard) (is : heard ≡ heard_in order.pairs) where
    pub took_heard : nat_eq (count_set order.pairs play_settings) 0 ≡ false → Adds before after (heard_pairs heard w order.count order.count) → TookSound order w before after
    took_heard some h = record {
      bytes = heard_pairs (heard_in order.pairs) w order.count order.count;
      sound = heard_sound order w some;
      taken = subst (λ (x : Heard). Adds before after (heard_pairs x w order.count order.count)) is h;
    }

    pub took_heard_first : nat_eq (count_set order.pairs play_settings) 0 ≡ false → AddsSome before after (heard_pairs heard w order.count order.count) → TookSoundFirst order w before after
    took_heard_first some h = record {
      bytes = heard_pairs (heard_in order.pairs) w order.count order.count;
      sound = heard_sound order w some;
      taken = subst (λ (x : Heard). AddsSome before after (heard_pairs x w order.count order.count)) is h;
    }

-- what follows from a call that was done
pub on_ok : {A B : Type 0} (result : Result A B) (P Q : Type 0) → (P → Q) → OnOk result P → OnOk result Q
on_ok (Ok x) P Q f h = f h
on_ok (Err e) P Q f h = tt

module _ (order : Order) (told : Input → Option (List ℕ)) (image : Image) (table : List ℕ) (shows : ShowsSound told image table) where
  pub play_can : CanMake play order told
  play_can =
      let some = some_sound order (play_start image table) in
      record {
        contents = λ o. some.0;
        line = line_of (samples_text order.count);
        makes = record { image = image; table = table; shows = shows; sound = some.1; says = refl };
      }

  module _ (before after : Shown) (empty : Holds (before.written Sound) []) where
    pub play_whole : (line : List ℕ) → line ≡ line_of (samples_text order.count)
        → TookSound order (play_start image table) (Holds (before.written Sound)) (Holds (after.written Sound)) → HoldsWhole play order told after.written line
    play_whole line says h = record {
      contents = λ o. h.bytes;
      makes = record { image = image; table = table; shows = shows; sound = h.sound; says = says };
      holds = (h.taken [] empty, tt);
    }

    pub play_first : TookSoundFirst order (play_start image table) (Holds (before.written Sound)) (Holds (after.written Sound))
        → AllOf (HoldsFirst play order told after.written) (Sound ∷ [])
    play_first h =
        let some = h.taken [] empty in (
          record {
            contents = λ o. h.bytes;
            line = line_of (samples_text order.count);
            makes = record { image = image; table = table; shows = shows; sound = h.sound; says = refl };
            count = some.0;
            holds = some.1;
          },
          tt,
        )

pub play_only : (a b : Shown) → OnlyPuts a b Sound → OnlyTouches (Sound ∷ []) a b
play_only a b h = record {
  held = h.held;
  load_faults = h.load_faults;
  write_faults = h.write_faults;
  others = λ other none. h.others other (λ e. none.0 (sym e));
}
