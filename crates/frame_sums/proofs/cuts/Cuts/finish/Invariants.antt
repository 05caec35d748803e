use Rattle.std.proofs.Common.{◌≡◌, ◌+◌, ◌-◌, ◌<◌, ◌≤◌, ℕ, List, length, vec_len}
use Rattle.sha2.specs.Hashers.{Holds256}
use Rattle.frame_sums.specs.Digests.{AreCut, IsRow}
use Rattle.frame_sums.specs.Pieces.{start_of, piece_of}
use Rattle.frame_sums.proofs.cuts.Cuts.finish.Given as goal

-- the rows so far are the sums of their frames, what came of the next frame is in the hasher, and no more came
abbrev pub invariant-finishing : goal.invariant-finishing
invariant-finishing l = record {
  size : vec_len l.rows ≡ l.fn.self.of.frames;
  within : l.done ≤ l.fn.self.of.frames;
  over : (bytes : List ℕ) → AreCut l.fn.self bytes → (frame : ℕ) → frame < l.done → IsRow l.fn.self.of bytes l.rows.items frame;
  part : (bytes : List ℕ) → AreCut l.fn.self bytes → l.done < l.fn.self.of.frames → Holds256 l.part (piece_of l.fn.self.of.region l.fn.self.of.side l.done bytes);
  last : (bytes : List ℕ) → AreCut l.fn.self bytes → l.done < l.fn.self.of.frames → length bytes ≤ start_of l.fn.self.of.region l.fn.self.of.side (l.done + 1);
}

abbrev pub decreases-finishing : goal.decreases-finishing
decreases-finishing l = l.fn.self.of.frames - l.done
