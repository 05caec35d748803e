-- The kinds of inputs: which bytes of each are refused, and what the others are read as. The cartridge and the other
-- files have their rules in the crates that read them; the limits of length are this project's own.
use Rattle.std.specs.Prelude.{◌≡◌, ◌≢◌, ℕ, nat_lt, List, length, Some, Ok, Err, MatchBool}
use Rattle.snes_defs.specs.declared.cart.Cart.{Cart}
use Rattle.snes_defs.specs.Script.{Script}
use Rattle.cart_map.specs.Accept.{verdict, image_of, rom_of}
use Rattle.spc_player.specs.SoundFile.{refusal_of}
use Rattle.input_files.specs.Table.{IsRefusedAt}
use Rattle.input_files.specs.Script.{script_of}
use Rattle.input_files.specs.Plan.{PlanValue, plan_of}
use Rattle.frame_sums.specs.SumsFile.{SumsIn, sums_of_file}
use Rattle.shelf.specs.declared.shelves.Input.{Input}
use Rattle.shelf.specs.declared.shelves.Input.TheVariants as input
use Rattle.snes_commands.specs.declared.status.Why.{Why}
use Rattle.snes_commands.specs.declared.status.Why.TheVariants as why

-- the input that a refusal speaks of
abbrev pub input_of : Why → Input
input_of (why.Cart cause) = input.Cart
input_of why.Boot = input.Boot
input_of (why.Spc cause) = input.Spc
input_of (why.Table entry) = input.Table
input_of (why.Script line) = input.Script
input_of (why.Plan line) = input.Plan
input_of (why.Sums line) = input.Sums

-- why the bytes of an input are refused: the cartridge by the first rule that it breaks, the boot ROM
-- where it hasn't 64 bytes, the sound file by the first rule that it breaks, the table at 512 for its length or at
-- its first large entry, the script, the plan and the sums at 0 for their length or at their first bad line
abbrev pub AreRefused : List ℕ → Why → Type 0
AreRefused bytes (why.Cart cause) = verdict bytes ≡ Err cause
AreRefused bytes why.Boot = length bytes ≢ 64
AreRefused bytes (why.Spc cause) = refusal_of bytes ≡ Some cause
AreRefused bytes (why.Table entry) = IsRefusedAt bytes entry
AreRefused bytes (why.Script line) = MatchBool (nat_lt 1048576 (length bytes)) (line ≡ 0) (script_of bytes ≡ Err line)
AreRefused bytes (why.Plan line) = MatchBool (nat_lt 1048576 (length bytes)) (line ≡ 0) (plan_of bytes ≡ Err line)
AreRefused bytes (why.Sums line) = MatchBool (nat_lt 5000000 (length bytes)) (line ≡ 0) (sums_of_file bytes ≡ Err line)

-- the bytes of an input are accepted: nothing refuses them
pub record AreAccepted (input : Input) (bytes : List ℕ) : Type 0 where
  pub unrefused : (cause : Why) → input_of cause ≡ input → ¬ AreRefused bytes cause

-- the cartridge that is read of an accepted file, the script, and the plan
pub record IsCartIn (bytes : List ℕ) (cart : Cart) : Type 0 where
  pub header : verdict bytes ≡ Ok (record { map = cart.map; ram = cart.ram })
  pub rom : cart.rom ≡ rom_of (image_of bytes)

abbrev pub IsScriptIn : List ℕ → Script → Type 0
IsScriptIn bytes script = script_of bytes ≡ Ok script

abbrev pub IsPlanIn : List ℕ → PlanValue → Type 0
IsPlanIn bytes plan = plan_of bytes ≡ Ok plan

abbrev pub IsSumsIn : List ℕ → SumsIn → Type 0
IsSumsIn bytes sums = sums_of_file bytes ≡ Ok sums
