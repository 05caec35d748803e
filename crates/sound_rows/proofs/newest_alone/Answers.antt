use Rattle.std.proofs.Common.{◌≤◌, replicate, arith}
use Rattle.std.proofs.lemmas.List.Elements.{All-set, All-replicate}
use Rattle.sound_rows.proofs.newest_alone.Goals as goal

pub of-requires : goal.of-requires
of-requires c =
    let small : 1024 ≤ 2047 = omega arith in
    All-set (λ n. n ≤ 2047) (replicate 512 0) 0 1024 small (All-replicate (λ n. n ≤ 2047) 512 0 (omega arith))
