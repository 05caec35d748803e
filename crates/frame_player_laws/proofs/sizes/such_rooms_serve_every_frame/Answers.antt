use Rattle.std.proofs.Common.{ℕ, ◌<◌, ◌≤◌, min, List, length, arith}
use Rattle.snes_defs.specs.declared.ports.Side.{Side}
use Rattle.snes_defs.specs.declared.ports.Side.TheVariants.{Console, Sound}
use Rattle.frame_player.specs.Told.{region_of}
use Rattle.frame_player.specs.Frames.{IsLonger}
use Rattle.frame_player.proofs.Sizes.{frame_size, few_bytes}
use Rattle.frame_player_laws.proofs.sizes.such_rooms_serve_every_frame.Goals as goal

pub returns : goal.returns
returns c = λ told job pad1 pad2 video sound new_video new_sound side is few wide loud ends.
    let (picture, samples, frame, longer, stay) = ends in
    let size = frame_size told job pad1 pad2 picture samples is few frame in
    let picture_size = size.picture_size in
    let are = size.samples_are in
    let most = few_bytes (region_of told.region) (length told.pads) in
    elim side as (λ s. IsLonger told pad1 pad2 video sound new_video new_sound s picture samples → ⊥) [
      | Console ↦ λ more. omega (arith, picture_size, wide, more)
      | Sound ↦ λ more. omega (arith, are, most, loud, more)
    ] longer
