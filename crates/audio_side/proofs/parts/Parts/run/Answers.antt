use Rattle.std.proofs.Common.{Bool, ◌-◌, subst, arith}
use Rattle.audio_side.specs.Parts.{value_of}
use Rattle.audio_side.specs.Runs.{AreFree}
use Rattle.audio_side.specs.Sound.{AudioValue}
use Rattle.audio_side.proofs.PortRuns.{run_on_way, run_refused}
use Rattle.audio_side.proofs.parts.Parts.run.Goals as goal

pub returns-clause-gone : goal.returns-clause-gone
returns-clause-gone g c = λ done m p h stand.
    let P = g.P.Ports in
    let made = c.run_accesses-is_refused in
    let waiting = c.args.self.now.waiting.items in
    let old = value_of c.args.self.now in
    let new : AudioValue = record { processor = made.new.spc; hardware = made.new.hardware; clock = c.go_on_by.new.self; waiting = waiting } in
    let F : Bool → Type 0 = λ fast. AreFree fast c.args.until c.free_cycles-free.result c.args.self.now.clock in
    run_on_way P.calls c.args.until old new m p h (c.free_cycles-free.result - made.new.left) c.go_on_by.ensures (P.stands made.new.ports)
    (made.ensures.made done c.args.until waiting m.processor p (subst F c.has_fast_timer-fast.ensures c.free_cycles-free.ensures.free) h.processor stand)

pub returns-clause-refused : goal.returns-clause-refused
returns-clause-refused g c = λ held m p h stand.
    let P = g.P.Ports in
    let made = c.run_accesses-is_refused in
    let waiting = c.args.self.now.waiting.items in
    let old = value_of c.args.self.now in
    let new : AudioValue = record { processor = made.new.spc; hardware = made.new.hardware; clock = c.go_on_by.new.self; waiting = waiting } in
    let n = c.free_cycles-free.result - made.new.left in
    let F : Bool → Type 0 = λ fast. AreFree fast c.args.until c.free_cycles-free.result c.args.self.now.clock in
    run_refused P.calls c.args.until old new m p h n c.go_on_by.ensures c.has_fast_timer-fast.result 4 4096 (P.stands made.new.ports)
    (c.free_cycles-free.ensures.free n (omega (arith, made.ensures.some_left held, made.ensures.fewer)))
    (made.ensures.refused held c.args.until waiting m.processor p (subst F c.has_fast_timer-fast.ensures c.free_cycles-free.ensures.free) h.processor stand)
