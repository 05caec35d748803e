use Rattle.std.proofs.Common.{◌≡◌, ◌≤◌, ◌-◌, ℕ, List}
use Rattle.spc700.specs.Instruction.{SpcState}
use Rattle.spc700.specs.Stands.{Stands}
use Rattle.audio_side.specs.Clock.{stamp_now}
use Rattle.audio_side.specs.PortRuns.{PortRun}
use Rattle.audio_side.specs.Runs.{AreFree, later}
use Rattle.audio_side.specs.Sound.{IsRunning}
use Rattle.audio_side.proofs.port_runs.run_accesses.Given as goal

abbrev pub invariant-accesses : goal.invariant-accesses
invariant-accesses g l =
    let P = g.P.Ports in
    record {
      run : (until : ℕ) (waits : List ℕ) (s : SpcState) (p : P.State) → AreFree l.fn.hardware.timer2.on until l.most l.clock → Stands l.fn.spc s → P.stands l.fn.ports p
          → PortRun P.calls until l.spc l.hardware l.clock (l.most - l.left) (λ to. P.stands l.ports) waits s l.fn.hardware p;
      fewer : l.left ≤ l.most;
      in_order : P.clock l.ports ≤ stamp_now (later (l.most - l.left) l.clock);
      times : P.times l.ports ≡ P.times l.fn.ports;
      runs : IsRunning l.fn.spc → IsRunning l.spc;
    }

abbrev pub decreases-accesses : goal.decreases-accesses
decreases-accesses g l = l.left
