-- The slice of one side is filled, and that of the other stays.
use Rattle.std.proofs.Common.{◌≡◌, ◌≢◌, ℕ, List, refl, sym, subst}
use Rattle.snes_defs.specs.declared.ports.Side.{Side}
use Rattle.snes_defs.specs.declared.ports.Side.TheVariants.{Console, Sound}
use Rattle.memory_player.specs.declared.filling.Filling.{Filling}
use Rattle.memory_player.specs.declared.slices.Slices.{Slices}
use Rattle.memory_player.specs.Filled.{Handed}
use Rattle.memory_player.specs.Slices.{HoldsIn}

pub sound_stays : (a b : Slices) (other : Side) (had : List ℕ) → b.sound ≡ a.sound → other ≢ Console → HoldsIn a other had → HoldsIn b other had
sound_stays a b Console had same differ h = absurd (differ refl)
sound_stays a b Sound had same differ h = subst (λ (f : Filling). Handed f.bytes.items f.count had) (sym same) h

pub video_stays : (a b : Slices) (other : Side) (had : List ℕ) → b.video ≡ a.video → other ≢ Sound → HoldsIn a other had → HoldsIn b other had
video_stays a b Console had same differ h = subst (λ (f : Filling). Handed f.bytes.items f.count had) (sym same) h
video_stays a b Sound had same differ h = absurd (differ refl)

pub ruleset takes = (sound_stays, video_stays)
