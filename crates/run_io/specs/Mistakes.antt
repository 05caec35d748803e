-- What is wrong with the words of a command line: which of them is at fault, and that it is.
use Rattle.std.specs.Prelude.{◌≡◌, ℕ, Bool, true, false, not, ◌&&◌, ◌||◌, List, Option, None, Some}
use Rattle.std.specs.List.{list_any}
use Rattle.std.specs.Str.{bytes_eq}
use Rattle.run_io.specs.declared.options.Count.{Count}
use Rattle.run_io.specs.declared.mistakes.Fault.{Fault}
use Rattle.run_io.specs.declared.mistakes.Fault.TheVariants as fault
use Rattle.run_io.specs.declared.mistakes.Mistake.{Mistake}
use Rattle.run_io.specs.Options.{input_option, output_option, count_option, digits_of, most_of, takes_seconds, seconds_option, setting_option}
use Rattle.run_io.specs.Words.{is_value, number_in}
use Rattle.run_io.specs.Settings.{accepts}
use Rattle.run_io.specs.Form.{FormValue}

-- the option of a form's number, or that of seconds
abbrev pub is_count_option : Option Count → List ℕ → Bool
is_count_option None word = false
is_count_option (Some count) word = bytes_eq (count_option count) word || (takes_seconds count && bytes_eq seconds_option word)

-- a word is an option of the form
abbrev pub is_option : FormValue → List ℕ → Bool
is_option form word =
    list_any (λ input. bytes_eq (input_option input) word) form.inputs
    || (list_any (λ out. bytes_eq (output_option out) word) form.outputs
    || (is_count_option form.count word || list_any (λ setting. bytes_eq (setting_option setting) word) form.settings))

-- the setting of this option does not take a word
abbrev pub refuses : FormValue → (option word : List ℕ) → Bool
refuses form option word = list_any (λ setting. bytes_eq (setting_option setting) option && not (accepts setting word)) form.settings

-- the word that is named is at fault, where one is; of a setting, it is its option that does not take the word
abbrev pub IsAtFault : FormValue → Fault → (option word : List ℕ) → Type 0
IsAtFault form fault.NotTheNumber option word = number_in 10 4294967295 word ≡ None
IsAtFault form fault.NotAnOption option word = is_option form word ≡ false
IsAtFault form fault.NotAValue option word = is_value word ≡ false
IsAtFault form fault.NotItsNumber option word = (count : Count) → form.count ≡ Some count → number_in (digits_of count) (most_of count) word ≡ None
IsAtFault form fault.NotItsSeconds option word = number_in 3 600 word ≡ None
IsAtFault form fault.NotItsSetting option word = refuses form option word ≡ true
IsAtFault form _ option word = Unit {0}

abbrev pub IsMistake : FormValue → Mistake → Type 0
IsMistake form mistake = IsAtFault form mistake.fault mistake.option.now mistake.word.now
