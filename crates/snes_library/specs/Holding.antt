-- What each call does to the console that a caller holds, and why a call was not done.
use Rattle.std.specs.Prelude.{◌≡◌, ℕ, ◌<◌, ◌≤◌, List, length, ◌⊎◌}
use Rattle.memory_player.specs.declared.inputs.End.TheVariants as end
use Rattle.frame_player.specs.declared.ends.BeginEnd.TheVariants as begin
use Rattle.frame_player.specs.declared.ends.FrameEnd.TheVariants as frame
use Rattle.frame_player.specs.Told.{Told, MayReset}
use Rattle.frame_player.specs.Frames.{EndsBegin, EndsFrame, RoomsStay}
use Rattle.kept_frames.specs.declared.console.SnesConsole.{SnesConsole}
use Rattle.snes_library.specs.declared.fault.Fault.{Fault}
use Rattle.snes_library.specs.declared.fault.Fault.TheVariants.{Empty, Full, Region, Slot, End}

module _ (old new : SnesConsole) where
  -- there was none, and now there is the one of what was told
  pub record HasBegun (told : Told) : Type 0 where
    pub was_empty : old.kept.full ≡ 0
    pub is_full : new.kept.full ≡ 1
    pub told_is : new.kept.told ≡ told

  -- there was one, and now there is the one of what was told
  pub record Holds (told : Told) : Type 0 where
    pub was_full : old.kept.full ≡ 1
    pub is_full : new.kept.full ≡ 1
    pub told_is : new.kept.told ≡ told

  -- there was one, and now there is none
  pub record HasEnded : Type 0 where
    pub was_full : old.kept.full ≡ 1
    pub is_empty : new.kept.full ≡ 0

  -- it is as it was: full or empty, and of what was told
  pub record Stays : Type 0 where
    pub full : new.kept.full ≡ old.kept.full
    pub told : new.kept.told ≡ old.kept.told

-- why none was made
abbrev pub EndsBegun : SnesConsole → (cart boot table : List ℕ) → (region most slots : ℕ) → Fault → Type 0
EndsBegun old cart boot table region most slots Full = old.kept.full ≡ 1
EndsBegun old cart boot table region most slots Region = 1 < region
EndsBegun old cart boot table region most slots Slot = EndsBegin cart boot table most slots begin.Slots
EndsBegun old cart boot table region most slots (End end.Frames) = EndsBegin cart boot table most slots begin.Frames
EndsBegun old cart boot table region most slots (End (end.Refused cause)) = EndsBegin cart boot table most slots
    (begin.Refused cause)
EndsBegun old cart boot table region most slots (End end.NoMemory) = Unit {0}
EndsBegun old cart boot table region most slots _ = ⊥

-- why no frame was played
abbrev pub EndsPlayed : SnesConsole → (pad1 pad2 : ℕ) → (video_old sound_old video_new sound_new : List ℕ) → Fault
    → Type 0
EndsPlayed old pad1 pad2 video_old sound_old video_new sound_new Empty =
    (old.kept.full ≡ 0) × RoomsStay old.kept.told pad1 pad2 video_old sound_old video_new sound_new
EndsPlayed old pad1 pad2 video_old sound_old video_new sound_new (End end.Frames) =
    EndsFrame old.kept.told pad1 pad2 video_old sound_old video_new sound_new frame.Frames
EndsPlayed old pad1 pad2 video_old sound_old video_new sound_new (End (end.TooShort side)) =
    EndsFrame old.kept.told pad1 pad2 video_old sound_old video_new sound_new (frame.TooShort side)
EndsPlayed old pad1 pad2 video_old sound_old video_new sound_new _ = ⊥

-- why nothing was stored, or returned to
abbrev pub EndsMoved : SnesConsole → ℕ → ℕ → Type 0
EndsMoved old slot status = ((old.kept.full ≡ 0) × (status ≡ 6)) ⊎ ((length old.kept.told.held ≤ slot) × (status ≡ 3))

-- why the button was not pressed
abbrev pub EndsReset : SnesConsole → ℕ → Type 0
EndsReset old status = ((old.kept.full ≡ 0) × (status ≡ 6)) ⊎ ((MayReset old.kept.told → ⊥) × (status ≡ 3))
