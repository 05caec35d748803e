use Rattle.std.proofs.Common.{sym, ap, ℕ, ◌%◌}
use Rattle.spc_modes.specs.Addresses.{stack}
use Rattle.spc_modes.specs.declared.place.Place.{Place}
use Rattle.audio_side.proofs.Follows.{access_at, follows_write}
use Rattle.audio_side.proofs.instructions.push_low.Goals as goal

pub returns-in_ok-put_at : goal.returns-in_ok-put_at
returns-in_ok-put_at c =
    let put = c.in_ok-put_at.ensures in
    follows_write c.args.spc.now c.wrote_counter_low.new.self c.args.hardware.now c.put_at.new.hardware c.args.left.now c.put_at.new.left
    (stack c.args.spc.now.micro.here) (c.args.spc.now.micro.here.pc % 256) c.push_place.result (c.counter.result % 256) (access_at c.args.spc.now Place.PushLow (sym c.in-PushLow.ensures))
    c.push_place.ensures (ap (λ (n : ℕ). n % 256) c.counter.ensures) put.timer put.made put.quiet put.stored c.wrote_counter_low.ensures
