use Rattle.std.proofs.Common.{◌≡◌, ℕ, ◌+◌, ◌*◌, List, ap, ◌∙◌, arith}
use Rattle.spc700.specs.Instruction.{between}
use Rattle.audio_side.specs.HardwareState.{HardwareState}
use Rattle.audio_side.specs.Kept.{kept_ram}
use Rattle.spc_player.specs.Play.{play_start}
use Rattle.sound_laws.specs.PlaysOn.{with_memory, goes_on, file_of}
use Rattle.sound_laws.proofs.PlayOn.{same_output}
use Rattle.sound_laws.proofs.Ports.{under_ports, ports_come_back}
use Rattle.sound_laws.proofs.resumed.a_file_plays_on.Goals as goal

pub returns : goal.returns
returns c = λ regs b dsp table ports times gives stays.
    let number : 983040 * times ≡ 0 + 983040 * times = omega arith in
    same_output b.boot_seen times (goes_on regs b (983040 * times) ports) (play_start (file_of regs b dsp ports) table)
    (record {
      s = between regs;
      b = b;
      n = 0;
      ports' = ports;
      ram' = gives.ram';
      boot' = gives.boot';
      w_is = ap (λ (n : ℕ). goes_on regs b n ports) number;
      other_is =
          ap (λ (x : HardwareState). goes_on regs x 0 (under_ports (kept_ram b ports))) gives.hardware ∙ ap (λ (p : List ℕ). goes_on regs (with_memory b gives.ram' gives.boot') 0 p) (ports_come_back b ports gives.ram_size gives.four_ports);
      alike = gives.alike;
      boot_same = gives.boot_same;
    }) stays
