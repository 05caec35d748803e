-- Where the sound side behind the console's ports has come.
use Rattle.std.specs.Prelude.{◌≡◌, ◌<◌, ◌≤◌, ℕ, List, length}
use Rattle.side_law.specs.Moves.{Moves}
use Rattle.serial_console.specs.declared.behind.Rest.{Rest}
use Rattle.serial_console.specs.Rest.{RestState, StandsBehind, HasFollowed}

-- from a state it has followed, up to a stamp, to one in which the value stands
pub record HasCome {V S : Type 0} (moves : Moves S) (most : ℕ) (stands : V → S → Type 0) (waiting : V → List ℕ)
    (r : Rest V) (at : ℕ) (p : RestState S) : Type 0 where
  pub to : RestState S
  pub now_stands : StandsBehind stands waiting r to
  pub followed : HasFollowed moves most at p to

-- WHAT A LEAD DID, by the stamps of both sides, the last stamps at which they emitted, and the bytes that wait
pub record HasLedOver (most cap sound_most sound_cap end console console' sound sound' row sample sample' : ℕ)
    (waited waits audio_waited audio_waits : List ℕ) : Type 0 where
  pub forward : console ≤ console'
  pub sound_forward : sound ≤ sound'
  pub few : length waited ≡ 0 → length waits ≤ most
  pub sound_few : length audio_waited ≤ sound_most → length audio_waits ≤ sound_most
  pub longer : length audio_waited ≤ length audio_waits
  pub begins : length waited < length waits → (console < end) × (console < console')
  pub last : length waited < length waits → (row < end) × (row < console')
  pub sound_begins : length audio_waited < length audio_waits → (sound < end) × (sound < sound')
  pub sound_last : length audio_waited < length audio_waits → (sample' < end) × (sample' < sound')
  pub sound_last_stays : length audio_waits ≡ length audio_waited → sample' ≡ sample
  pub stops : length waits ≡ 0 → most ≤ cap → sound_most ≤ sound_cap → console' < end
      → (0 < length audio_waits) × (sound' < console')
