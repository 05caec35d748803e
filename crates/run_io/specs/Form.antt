-- The form of a command's words behind its name: a number where it has one, and pairs of an option and its value in any
-- order. This project's own.
use Rattle.std.specs.Prelude.{◌≡◌, ℕ, ◌+◌, ◌*◌, ◌/◌, ◌%◌, ◌≤◌, ◌<◌, Bool, true, false, not, ◌&&◌, ◌||◌, nat_eq, if◌then◌else◌, List, [], ◌∷◌, length, Option, Some, None}
use Rattle.std.specs.Option.{option_map}
use Rattle.std.specs.List.{list_all}
use Rattle.std.specs.Str.{bytes_eq}
use Rattle.shelf.specs.declared.shelves.Input.{Input}
use Rattle.shelf.specs.declared.shelves.Out.{Out}
use Rattle.run_io.specs.declared.options.Count.{Count}
use Rattle.run_io.specs.declared.options.Setting.{Setting}
use Rattle.run_io.specs.declared.forms.Form.{Form}
use Rattle.run_io.specs.declared.forms.Asked.{Asked}
use Rattle.run_io.specs.Options.{is_optional, count_option, digits_of, most_of, takes_seconds, seconds_option}
use Rattle.run_io.specs.Words.{word_behind, is_value, input_name, output_name, number_in}
use Rattle.run_io.specs.Lists.{AllOf}
use Rattle.run_io.specs.Settings.{count_set, is_taken, IsTaken}

-- whether a number comes first, the inputs in the order in which they are loaded, those of them that may be left out, the
-- number behind an option, the settings, and the outputs in the order in which they are created
pub record FormValue : Type 0 where
  pub numbered : Bool
  pub inputs : List Input
  pub optional : List Input
  pub count : Option Count
  pub settings : List Setting
  pub outputs : List Out

-- what words in a form give: the number that comes first, the one behind its option (0 where the form has none), and the pairs
pub record Order : Type 0 where
  pub number : ℕ
  pub count : ℕ
  pub pairs : List (List ℕ)

-- a value that may be missing, and what is made of it
abbrev pub given : {A B : Type 0} → Option A → (A → Option B) → Option B
given None made = None
given (Some x) made = made x

-- the number that comes first, and the words behind it
abbrev pub number_first : Bool → List (List ℕ) → Option (ℕ × List (List ℕ))
number_first false words = Some (0, words)
number_first true [] = None
number_first true (word ∷ words) = given (number_in 10 4294967295 word) (λ number. Some (number, words))

-- a number is given in seconds: it may be, and nothing stands behind its own option
abbrev pub in_seconds : Count → List (List ℕ) → Bool
in_seconds count pairs = takes_seconds count && nat_eq (length (word_behind pairs (count_option count))) 0

-- the seconds: 1 to 3 decimal digits, at most 600; each is 32,000 samples
abbrev pub seconds_in : List (List ℕ) → Option ℕ
seconds_in pairs = number_in 3 600 (word_behind pairs seconds_option)

-- the number behind its option
abbrev pub count_in : Option Count → List (List ℕ) → Option ℕ
count_in None pairs = Some 0
count_in (Some count) pairs =
    if in_seconds count pairs then option_map (λ seconds. 32000 * seconds) (seconds_in pairs)
    else number_in (digits_of count) (most_of count) (word_behind pairs (count_option count))

-- how many options a form has
abbrev pub count_options : Option Count → ℕ
count_options None = 0
count_options (Some count) = 1

-- an input that may be left out is left out: nothing stands behind its option
abbrev pub is_left_out : List (List ℕ) → List Input → Input → Bool
is_left_out pairs optional input = is_optional optional input && nat_eq (length (input_name pairs input)) 0

-- how many of these inputs are not left out
abbrev pub count_named : List (List ℕ) → List Input → List Input → ℕ
count_named pairs optional [] = 0
count_named pairs optional (input ∷ inputs) =
    if is_left_out pairs optional input then count_named pairs optional inputs else count_named pairs optional inputs + 1

-- there are as many pairs as the form has options, but for the inputs that are left out and the settings that are unset
abbrev pub has_pairs : FormValue → List (List ℕ) → Bool
has_pairs form pairs =
    nat_eq (length pairs % 2) 0
    && nat_eq (length pairs / 2) (count_named pairs form.optional form.inputs + length form.outputs + count_options form.count + count_set pairs form.settings)

-- no two of these outputs have one name
abbrev pub differ : List (List ℕ) → List Out → Bool
differ pairs [] = true
differ pairs (out ∷ outs) = list_all (λ other. not (bytes_eq (output_name pairs out) (output_name pairs other))) outs && differ pairs outs

-- as many pairs as the form has options, and a value behind each option of an input or output, but for the inputs that are left
-- out and the settings that are unset: so each of the others stands there just once. Each setting that is set takes its value
abbrev pub has_values : FormValue → List (List ℕ) → Bool
has_values form pairs =
    has_pairs form pairs
    && list_all (λ input. is_left_out pairs form.optional input || is_value (input_name pairs input)) form.inputs
    && list_all (λ out. is_value (output_name pairs out)) form.outputs
    && differ pairs form.outputs
    && list_all (is_taken pairs) form.settings

-- what the words behind a command's name give, if they are in its form
unfoldable pub order_in : FormValue → List (List ℕ) → Option Order
order_in form words =
    given (number_first form.numbered words) (λ first.
    if has_values form first.1 then
    given (count_in form.count first.1) (λ count.
    Some (record { number = first.0; count = count; pairs = first.1 }))
    else None)

-- a form and an order of the code, by their values
abbrev pub form_by : Form → FormValue
form_by form = record {
  numbered = form.numbered;
  inputs = form.inputs.now;
  optional = form.optional.now;
  count = form.count;
  settings = form.settings.now;
  outputs = form.outputs.now;
}

abbrev pub order_by : Asked → Order
order_by asked = record { number = asked.number; count = asked.count; pairs = asked.pairs.now }

-- the name of an output has 1 to 4,096 bytes
pub record IsName (name : List ℕ) : Type 0 where
  pub some : 0 < length name
  pub fits : length name ≤ 4096

-- the names of the outputs are names, the number is within its limit, and the settings take what they are set to
pub record Fits (form : FormValue) (order : Order) : Type 0 where
  pub names : AllOf (λ out. IsName (output_name order.pairs out)) form.outputs
  pub count : (count : Count) → form.count ≡ Some count → order.count ≤ most_of count
  pub settings : AllOf (IsTaken order.pairs) form.settings
