use Rattle.std.proofs.Common.{◌≡◌, ℕ, ◌<◌, get_or, vec_len}
use Rattle.demo_files.specs.Image.{head_of}
use Rattle.demo_files.proofs.image_file.first_page.Given as goal

abbrev pub invariant-loop-offset : goal.invariant-loop-offset
invariant-loop-offset l = record {
  size : vec_len l.page ≡ l.offset;
  bytes : (k : ℕ) → k < l.offset → get_or l.page.items k 0 ≡ head_of k;
}
