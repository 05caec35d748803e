-- The numbers by which an end is told. `embed/snes.h` has them under their names.
use Rattle.std.specs.Prelude.{◌≡◌, ℕ}
use Rattle.snes_defs.specs.declared.ports.Side.TheVariants.{Console, Sound}
use Rattle.cart_map.specs.declared.refused.CartRefused.TheVariants as cart
use Rattle.memory_player.specs.declared.inputs.Why.TheVariants as why
use Rattle.memory_player.specs.declared.inputs.End.{End}
use Rattle.memory_player.specs.declared.inputs.End.TheVariants.{Frames, Refused, NoMemory, TooShort}
use Rattle.snes_library.specs.declared.answer.SnesAnswer.{SnesAnswer}

-- the status: that of the program for the same answer; a slice that is too short stands as an output that could not be
-- written
abbrev pub status_of : End → ℕ
status_of Frames = 1
status_of (Refused cause) = 3
status_of (TooShort side) = 4
status_of NoMemory = 5

-- the cause
abbrev pub cause_of : End → ℕ
cause_of (Refused (why.Cart cart.TooShort)) = 1
cause_of (Refused (why.Cart cart.TooLong)) = 2
cause_of (Refused (why.Cart cart.NoHeader)) = 3
cause_of (Refused (why.Cart (cart.Coprocessor chip))) = 4
cause_of (Refused (why.Cart (cart.RamSize size))) = 5
cause_of (Refused why.Boot) = 6
cause_of (Refused (why.Table entry)) = 7
cause_of (Refused (why.Script line)) = 8
cause_of (TooShort Console) = 9
cause_of (TooShort Sound) = 10
cause_of Frames = 11
cause_of NoMemory = 12

-- where in its input: the byte of the header, the entry, the line; 0 for the others
abbrev pub place_of : End → ℕ
place_of (Refused (why.Cart (cart.Coprocessor chip))) = chip
place_of (Refused (why.Cart (cart.RamSize size))) = size
place_of (Refused (why.Table entry)) = entry
place_of (Refused (why.Script line)) = line
place_of (Refused (why.Cart cart.TooShort)) = 0
place_of (Refused (why.Cart cart.TooLong)) = 0
place_of (Refused (why.Cart cart.NoHeader)) = 0
place_of (Refused why.Boot) = 0
place_of (TooShort side) = 0
place_of Frames = 0
place_of NoMemory = 0

-- an end is told by these numbers
pub record IsToldAs (end : End) (status : ℕ) (answer : SnesAnswer) : Type 0 where
  pub status_is : status ≡ status_of end
  pub cause_is : answer.cause ≡ cause_of end
  pub place_is : answer.place ≡ place_of end
  pub no_video : answer.video ≡ 0
  pub no_sound : answer.sound ≡ 0
