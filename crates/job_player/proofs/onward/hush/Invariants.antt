use Rattle.std.proofs.Common.{◌≡◌, length}
use Rattle.job_player.proofs.onward.hush.Given as goal

-- bytes alone have gone
abbrev pub invariant-pending : goal.invariant-pending
invariant-pending g l =
    let M = g.M.Machine in
    record {
      state : (m : M.State) → M.stands l.initial.machine m → M.stands l.machine m;
      stamp : M.stamp_of l.machine ≡ M.stamp_of l.initial.machine;
    }

-- the bytes that are pending
abbrev pub decreases-pending : goal.decreases-pending
decreases-pending g l = length (g.M.Machine.waiting l.machine)
