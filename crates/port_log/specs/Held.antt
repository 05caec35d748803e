-- What every log holds of itself, so that no buffer is ever full. This project's own profile.
use Rattle.std.specs.Prelude.{◌≡◌, ℕ, ◌+◌, ◌<◌, ◌≤◌, false, Some, List, [], ◌∷◌, length}
use Rattle.std.specs.List.{AllByRecursion}
use Rattle.snes_defs.specs.declared.ports.Side.{Side}
use Rattle.snes_defs.specs.declared.ports.Side.TheVariants.{Console, Sound}
use Rattle.clock_ratio.specs.Stamp.{least_of}
use Rattle.port_entries.specs.LastValue.{sees}
use Rattle.port_entries.specs.Window.{IsSettled}
use Rattle.port_log.specs.declared.written.Written.{Written}
use Rattle.port_log.specs.Kept.{SideValue, LogValue, greatest_clear}

-- the stamp of the first write, and the clock where there is none
abbrev pub first_stamp : List Written → ℕ → ℕ
first_stamp [] clock = clock
first_stamp (w ∷ ws) clock = w.at

-- each write is at least so many stamps before the next, and the last before the writer's clock
abbrev pub AreSpaced : ℕ → ℕ → List Written → Type 0
AreSpaced least clock [] = Unit {0}
AreSpaced least clock (w ∷ ws) = (w.at + least ≤ first_stamp ws clock) × AreSpaced least clock ws

-- no write comes after one of a later stamp
abbrev pub AreInOrder : List Written → Type 0
AreInOrder [] = Unit {0}
AreInOrder (w ∷ ws) = (w.at ≤ first_stamp ws w.at) × AreInOrder ws

-- a write is to one of the four ports
abbrev pub HasPort : Written → Type 0
HasPort w = w.port < 4

-- the first write isn't seen at the clock yet, so no later one is
abbrev pub AreUnseen : Side → ℕ → List Written → Type 0
AreUnseen side clock [] = Unit {0}
AreUnseen side clock (w ∷ ws) = sees side w.at clock ≡ false

-- what is kept of a side, where `least` is the least rise of a step and `other` the other's clock
pub record IsHeld (side : Side) (least other : ℕ) (kept : SideValue) : Type 0 where
  pub latches : length kept.latches ≡ 4
  pub ports : length kept.cleared ≡ 4
  -- the other's clock settles each clear
  pub settled : (port at : ℕ) → port < 4 → greatest_clear kept.cleared port ≡ Some at
      → IsSettled side at other
  pub to_ports : AllByRecursion HasPort kept.waiting
  pub spaced : AreSpaced least other kept.waiting
  pub unseen : AreUnseen side kept.clock kept.waiting
  -- as many as lie within a window
  pub few : length kept.waiting ≤ 3638

-- what every log holds
pub record IsKept (log : LogValue) : Type 0 where
  pub console : IsHeld Console (least_of log.region) log.sound.clock log.console
  pub sound : IsHeld Sound (least_of log.region) log.console.clock log.sound
