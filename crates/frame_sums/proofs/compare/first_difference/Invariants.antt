use Rattle.std.proofs.Common.{◌≤◌, length}
use Rattle.frame_sums.specs.Compare.{AreSame}
use Rattle.frame_sums.specs.Digests.{digest_pair, digest_all}
use Rattle.frame_sums.proofs.compare.first_difference.Given as goal

-- the frames so far are in the file, and the same
abbrev pub invariant-loop-frame : goal.invariant-loop-frame
invariant-loop-frame l = record {
  has : l.frame ≤ length l.file.frames;
  same : AreSame l.file l.video.of.frames (digest_pair l.video l.audio) (digest_all l.video l.audio) l.frame;
}
