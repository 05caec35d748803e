use Rattle.std.proofs.Common.{◌≡◌, ℕ, ◌-◌, ◌<◌, ◌≤◌, get_or, vec_len}
use Rattle.demo_files.specs.Image.{byte_of, number_after}
use Rattle.demo_files.proofs.image_file.image.Given as goal

abbrev pub invariant-pages : goal.invariant-pages
invariant-pages l = record {
  some : 32768 ≤ vec_len l.image;
  most : vec_len l.image ≤ 524288;
  number : l.x ≡ number_after (vec_len l.image - 32768) l.fn.number;
  bytes : (k : ℕ) → k < vec_len l.image → get_or l.image.items k 0 ≡ byte_of l.fn.number k;
}

abbrev pub decreases-pages : goal.decreases-pages
decreases-pages l = 524288 - vec_len l.image
