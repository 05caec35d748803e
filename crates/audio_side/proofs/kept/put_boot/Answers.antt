use Rattle.std.proofs.Common.{◌∙◌, ◌+◌, ℕ, List, ap, sym, rules, slice_index_or, slice_set}
use Rattle.audio_side.proofs.BootOver.{one_more_byte}
use Rattle.audio_side.proofs.kept.put_boot.Goals as goal

pub bytes-preserved : goal.bytes-preserved
bytes-preserved c = record {
  put = ap (λ (l : List ℕ). slice_set l (65472 + c.bytes.n) (slice_index_or c.args.boot.now c.bytes.n 0)) c.bytes.invariant.put
      ∙ sym (one_more_byte c.args.into.now c.args.boot.now c.bytes.n);
  size = search rules;
}
