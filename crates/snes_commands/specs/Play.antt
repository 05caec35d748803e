-- THE COMMAND `play`: a sound file is played by the sound side alone, and its first pairs become sound; or what is heard of
-- them, where the words name parts of the sound or a fade.
use Rattle.std.specs.Prelude.{◌≡◌, ℕ, ◌*◌, nat_eq, false, List, [], ◌∷◌, Option, Some, IfSome, MatchBool, unwrap_or}
use Rattle.shelf.specs.declared.shelves.Input.{Input}
use Rattle.shelf.specs.declared.shelves.Input.TheVariants.{Spc, Table}
use Rattle.shelf.specs.declared.shelves.Out.{Out}
use Rattle.shelf.specs.declared.shelves.Out.TheVariants.{Sound}
use Rattle.input_files.specs.Table.{IsTableFile}
use Rattle.run_drive.specs.Run.{Adds, AddsSome}
use Rattle.run_io.specs.declared.options.Count.TheVariants.{Samples}
use Rattle.run_io.specs.declared.options.Setting.{Setting}
use Rattle.run_io.specs.declared.options.Setting.TheVariants.{Voices, Fade}
use Rattle.run_io.specs.Settings.{count_set, number_set, stem_set}
use Rattle.run_io.specs.Line.{line_of, samples_text}
use Rattle.run_io.specs.Form.{FormValue, Order}
use Rattle.spc_player.specs.SoundFile.{Image, image_of}
use Rattle.spc_player.specs.Play.{Playing, AreFirstPairs, play_start}
use Rattle.stem_player.specs.declared.heard.Heard.{Heard}
use Rattle.stem_player.specs.Heard.{heard_pairs}
use Rattle.snes_commands.specs.Command.{Command, never}

-- the settings: the parts of the sound that are heard, and a fade at the end
abbrev pub play_settings : List Setting
play_settings = Voices ∷ (Fade ∷ [])

-- the words: a sound file and a table, samples, what is heard, and an output
abbrev pub play_form : FormValue
play_form = record {
  numbered = false;
  inputs = Spc ∷ (Table ∷ []);
  optional = [];
  count = Some Samples;
  settings = play_settings;
  outputs = Sound ∷ [];
}

-- what the sound file holds and the table are those of the inputs, as far as they are told
pub record ShowsSound (told : Input → Option (List ℕ)) (image : Image) (table : List ℕ) : Type 0 where
  pub image_is : IfSome (told Spc) (λ bytes. image ≡ image_of bytes)
  pub table_is : IfSome (told Table) (λ bytes. IsTableFile bytes table)

-- WHAT IS HEARD by the words: the parts that they name, or all nine; and 32 samples of fade for each millisecond
abbrev pub heard_in : List (List ℕ) → Heard
heard_in pairs = record { stem = unwrap_or (stem_set pairs) 511; fade = 32 * unwrap_or (number_set pairs Fade) 0 }

-- THE SOUND from a place, by the words: exactly the first pairs that the sound side emits, as many as the words ask for; and
-- what is heard of them, where the words name parts or a fade
unfoldable pub IsSound : Order → Playing → List ℕ → Type 0
IsSound order start bytes =
    MatchBool (nat_eq (count_set order.pairs play_settings) 0)
    (AreFirstPairs start order.count bytes)
    (bytes ≡ heard_pairs (heard_in order.pairs) start order.count order.count)

module _ (order : Order) (start : Playing) (before after : List ℕ → Type 0) where
  -- exactly this sound was taken, after what was held before
  pub record TookSound : Type 0 where
    pub bytes : List ℕ
    pub sound : IsSound order start bytes
    pub taken : Adds before after bytes

  -- first bytes of it were taken: all, some or none
  pub record TookSoundFirst : Type 0 where
    pub bytes : List ℕ
    pub sound : IsSound order start bytes
    pub taken : AddsSome before after bytes

-- the sound is that of the words, from where the file says
pub record MakesPlay (order : Order) (told : Input → Option (List ℕ)) (contents : Out → List ℕ) (line : List ℕ) : Type 0 where
  pub image : Image
  pub table : List ℕ
  pub shows : ShowsSound told image table
  pub sound : IsSound order (play_start image table) (contents Sound)
  pub says : line ≡ line_of (samples_text order.count)

abbrev pub play : Command
play = record { form = play_form; Makes = MakesPlay; differs = never }
