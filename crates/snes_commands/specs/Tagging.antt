-- THE TAGS that words set, and a sound file with them.
use Rattle.std.specs.Prelude.{ℕ, Bool, true, false, nat_eq, nat_lt, if◌then◌else◌, List, [], ◌∷◌, length}
use Rattle.run_io.specs.declared.options.Setting.{Setting}
use Rattle.run_io.specs.declared.options.Setting.TheVariants as setting
use Rattle.run_io.specs.Settings.{setting_value, is_unset, count_set}
use Rattle.sound_tags.specs.declared.field.Field.{Field}
use Rattle.sound_tags.specs.declared.field.Field.TheVariants as field
use Rattle.sound_tags.specs.Put.{no_tags, with_field, with_tags}

-- the settings of tags
abbrev pub tag_settings : List Setting
tag_settings = setting.Title ∷ (setting.Game ∷ (setting.Artist ∷ (setting.Comment ∷ (setting.Length ∷ (setting.Fade ∷ [])))))

-- each sets the field of its name
abbrev pub sets : Setting → Field → Bool
sets setting.Title field.Title = true
sets setting.Game field.Game = true
sets setting.Artist field.Artist = true
sets setting.Comment field.Comment = true
sets setting.Length field.Length = true
sets setting.Fade field.Fade = true
sets _ _ = false

-- the tags, if a field has what a setting is set to
unfoldable pub then_set : List (List ℕ) → Setting → Field → List ℕ → List ℕ
then_set pairs setting field tags = if is_unset pairs setting then tags else with_field tags field (setting_value pairs setting)

-- THE TAGS OF WORDS: each field that is set, one after another
unfoldable pub tags_in : List (List ℕ) → List ℕ
tags_in pairs =
    then_set pairs setting.Fade field.Fade
    (then_set pairs setting.Length field.Length
    (then_set pairs setting.Comment field.Comment
    (then_set pairs setting.Artist field.Artist
    (then_set pairs setting.Game field.Game
    (then_set pairs setting.Title field.Title no_tags)))))

-- A SOUND FILE BY WORDS: with the tags that they set, and as it is where they set none. A file has at least 256 bytes; what
-- has fewer has no place for tags
unfoldable pub tagged_by : List (List ℕ) → List ℕ → List ℕ
tagged_by pairs file =
    if nat_eq (count_set pairs tag_settings) 0 then file
    else (if nat_lt (length file) 256 then file else with_tags (tags_in pairs) file)
