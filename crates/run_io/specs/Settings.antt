-- THE SETTINGS: options that may be left out, and stand at most once. What each takes, and what it then means.
use Rattle.std.specs.Prelude.{◌≡◌, ℕ, ◌+◌, Bool, true, ◌&&◌, ◌||◌, nat_le, nat_eq, if◌then◌else◌, List, [], ◌∷◌, length, Option}
use Rattle.std.specs.List.{list_all}
use Rattle.std.specs.Char.{is_ascii_digit}
use Rattle.run_io.specs.declared.options.Setting.{Setting}
use Rattle.run_io.specs.declared.options.Setting.TheVariants as setting
use Rattle.run_io.specs.Options.{setting_option}
use Rattle.run_io.specs.Words.{word_behind, number_in}
use Rattle.run_io.specs.Stems.{is_stem, stem_in}

-- a text of 1 to 32 bytes, each from 20 to 7E; it may begin with a dash
abbrev pub is_printable : ℕ → Bool
is_printable byte = nat_le 0x20 byte && nat_le byte 0x7E

unfoldable pub is_label : List ℕ → Bool
is_label word = nat_le 1 (length word) && (nat_le (length word) 32 && list_all is_printable word)

-- a number of at most so many decimal digits
unfoldable pub is_number : ℕ → List ℕ → Bool
is_number digits word = nat_le 1 (length word) && (nat_le (length word) digits && list_all is_ascii_digit word)

-- WHAT A SETTING TAKES: four texts, the length in seconds, the fade in milliseconds, and a list of voices
unfoldable pub accepts : Setting → List ℕ → Bool
accepts setting.Title word = is_label word
accepts setting.Game word = is_label word
accepts setting.Artist word = is_label word
accepts setting.Comment word = is_label word
accepts setting.Length word = is_number 3 word
accepts setting.Fade word = is_number 5 word
accepts setting.Voices word = is_stem word

-- the word behind the option of a setting; it is unset if there is none
unfoldable pub setting_value : List (List ℕ) → Setting → List ℕ
setting_value pairs setting = word_behind pairs (setting_option setting)

abbrev pub is_unset : List (List ℕ) → Setting → Bool
is_unset pairs setting = nat_eq (length (setting_value pairs setting)) 0

-- how many of these settings are set
abbrev pub count_set : List (List ℕ) → List Setting → ℕ
count_set pairs [] = 0
count_set pairs (setting ∷ settings) = if is_unset pairs setting then count_set pairs settings else count_set pairs settings + 1

-- a setting is unset, or is set to what it takes
abbrev pub is_taken : List (List ℕ) → Setting → Bool
is_taken pairs setting = is_unset pairs setting || accepts setting (setting_value pairs setting)

abbrev pub IsTaken : List (List ℕ) → Setting → Type 0
IsTaken pairs setting = is_taken pairs setting ≡ true

-- the number that a setting is set to, and that of a list of voices; none if it is unset
unfoldable pub number_set : List (List ℕ) → Setting → Option ℕ
number_set pairs setting = number_in 5 99999 (setting_value pairs setting)

unfoldable pub stem_set : List (List ℕ) → Option ℕ
stem_set pairs = stem_in (setting_value pairs setting.Voices)
