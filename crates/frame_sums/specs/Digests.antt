-- What a side's sums stand for, while its bytes come and after them.
use Rattle.std.specs.Prelude.{◌≡◌, ℕ, ◌+◌, ◌<◌, ◌≤◌, List, [], length, drop, slice_index_or}
use Rattle.sha2.specs.Sha256.{sha256}
use Rattle.sha2.specs.Hashers.{Holds256}
use Rattle.sha2.specs.declared.Sha256.{Sha256}
use Rattle.snes_defs.specs.declared.region.Region.{Region}
use Rattle.snes_defs.specs.declared.ports.Side.{Side}
use Rattle.snes_defs.specs.declared.ports.Side.TheVariants.{Console, Sound}
use Rattle.frame_sums.specs.declared.pieces.Pieces.{Pieces}
use Rattle.frame_sums.specs.declared.file.SumPair.{SumPair}
use Rattle.frame_sums.specs.declared.cuts.Cuts.{Cuts}
use Rattle.frame_sums.specs.declared.sums.SideSums.{SideSums}
use Rattle.frame_sums.specs.declared.digests.Digests.{Digests}
use Rattle.frame_sums.specs.declared.sums.FrameSums.{FrameSums}
use Rattle.frame_sums.specs.Pieces.{start_of, piece_of}

-- the pieces of a side in a run of so many frames
abbrev pub pieces_of : Region → Side → ℕ → Pieces
pieces_of region side frames = record { region = region; side = side; frames = frames }

-- the sum of a frame, among rows
abbrev pub row_in : List (List ℕ) → ℕ → List ℕ
row_in rows frame = slice_index_or rows frame []

-- it is that of the frame's bytes
abbrev pub IsRow : Pieces → List ℕ → List (List ℕ) → ℕ → Type 0
IsRow of bytes rows frame = row_in rows frame ≡ sha256 (piece_of of.region of.side frame bytes)

-- the rows are the sums of all frames
abbrev pub AreRows : Pieces → List ℕ → List (List ℕ) → Type 0
AreRows of bytes rows = (frame : ℕ) → frame < of.frames → IsRow of bytes rows frame

-- The sums of the frames that are over are those of their bytes. Of the frame under way, what was taken is in the hasher, and so
-- many bytes are still to come.
pub record IsCut (of : Pieces) (rows : List (List ℕ)) (done left : ℕ) (part : Sha256) (bytes : List ℕ) : Type 0 where
  pub over : (frame : ℕ) → frame < done → start_of of.region of.side (frame + 1) ≤ length bytes
  pub rows_are : (frame : ℕ) → frame < done → IsRow of bytes rows frame
  pub begun : done < of.frames → start_of of.region of.side done ≤ length bytes
  pub part_holds : done < of.frames → Holds256 part (drop (start_of of.region of.side done) bytes)
  pub left_is : done < of.frames → length bytes + left ≡ start_of of.region of.side (done + 1)

abbrev pub AreCut : Cuts → List ℕ → Type 0
AreCut cuts bytes = IsCut cuts.of cuts.rows.items cuts.done cuts.left cuts.part bytes

-- and all bytes are in the other hasher
pub record AreSummed (sums : SideSums) (bytes : List ℕ) : Type 0 where
  pub cut : AreCut sums.cuts bytes
  pub all : Holds256 sums.all bytes

-- nothing was taken of either side yet, in a run of so many frames
pub record AreNew (sums : FrameSums) (region : Region) (frames : ℕ) : Type 0 where
  pub video_of : sums.video.cuts.of ≡ pieces_of region Console frames
  pub audio_of : sums.audio.cuts.of ≡ pieces_of region Sound frames
  pub no_video : AreSummed sums.video []
  pub no_audio : AreSummed sums.audio []

-- the sums of all frames, and of all bytes
pub record AreDigests (digests : Digests) (bytes : List ℕ) : Type 0 where
  pub rows : AreRows digests.of bytes digests.rows.items
  pub all : digests.all ≡ sha256 bytes

-- a run of so many frames emits some video and some audio, and these are their sums
pub record AreSumsOf (emits : List ℕ → List ℕ → Type 0) (region : Region) (frames : ℕ) (video_sums audio_sums : Digests) : Type 0 where
  pub video : List ℕ
  pub audio : List ℕ
  pub emitted : emits video audio
  pub video_of : video_sums.of ≡ pieces_of region Console frames
  pub audio_of : audio_sums.of ≡ pieces_of region Sound frames
  pub pictures : AreDigests video_sums video
  pub sounds : AreDigests audio_sums audio

-- these may be the bytes that were taken of a side
abbrev pub HasTaken : FrameSums → Side → List ℕ → Type 0
HasTaken sums Console bytes = AreSummed sums.video bytes
HasTaken sums Sound bytes = AreSummed sums.audio bytes

-- the sums of a frame, by those of both sides, and the sums of all frames
abbrev pub digest_pair : (video audio : Digests) → ℕ → SumPair
digest_pair video audio frame = record { picture = row_in video.rows.items frame; sound = row_in audio.rows.items frame }

abbrev pub digest_all : (video audio : Digests) → SumPair
digest_all video audio = record { picture = video.all; sound = audio.all }
