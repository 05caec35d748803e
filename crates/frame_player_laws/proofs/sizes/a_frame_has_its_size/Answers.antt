use Rattle.std.proofs.Common.{length, arith}
use Rattle.frame_player.specs.Told.{region_of}
use Rattle.frame_player.proofs.Sizes.{frame_size, few_bytes}
use Rattle.frame_player_laws.proofs.sizes.a_frame_has_its_size.Goals as goal

pub returns : goal.returns
returns c = λ told job pad1 pad2 picture samples is few frame.
    let size = frame_size told job pad1 pad2 picture samples is few frame in
    let are = size.samples_are in
    let most = few_bytes (region_of told.region) (length told.pads) in
    (size.picture_size, omega (arith, are, most))
