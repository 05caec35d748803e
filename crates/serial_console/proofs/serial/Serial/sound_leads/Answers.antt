use Rattle.std.proofs.Common.{◌++◌, sym, subst, arith}
use Rattle.serial_console.specs.Joined.{Joined}
use Rattle.serial_console.specs.Lead.{IsLed}
use Rattle.serial_console.proofs.Led.{led_sound}
use Rattle.serial_console.proofs.serial.Serial.sound_leads.Goals as goal

pub returns-then-pending-gt0-2-clause-led : goal.returns-then-pending-gt0-2-clause-led
returns-then-pending-gt0-2-clause-led g c = λ from video audio led.
    let C = g.C.Machine in
    let S = g.S.Machine in
    let of_console = g.met.C.Machine g.world.𝓛 g.world.𝓜 g.world.𝓡 ((λ s x. x), (λ x. x), (λ x. x), λ x. x) in
    let of_sound = g.met.S.Machine g.world.𝓛 g.world.𝓜 g.world.𝓡 ((λ s x. x), (λ x. x), (λ x. x), λ x. x) in
    let inside = c.self.inside in
    let here : Joined g.row.C.Denot g.row.S.Denot = record { console = inside.console; sound = inside.rest.sound; to_sound = inside.rest.bytes.incoming; to_console = inside.rest.bytes.outgoing } in
    led_sound C.moves S.moves C.stands S.stands C.stamp_of S.stamp_of of_console.stands_stamp of_sound.stands_stamp
    c.args.end from here video audio c.stamp-self-inside.result c.lead_by-stop.new.machine (S.waiting here.sound) (S.waiting c.lead_by-stop.new.machine)
    c.lead_by-stop.new.bytes.incoming c.lead_by-stop.new.bytes.outgoing (omega (arith, c.stamp-self-inside.ensures.stamp)) c.lead_by-stop.ensures.made
    (subst (λ (s : Joined g.row.C.Denot g.row.S.Denot). IsLed C.moves S.moves C.stands S.stands c.args.end from s video (audio ++ S.waiting s.sound)) (sym c.self.view_is) led)

pub returns-clause-led : goal.returns-clause-led
returns-clause-led g c = λ from video audio led.
    let C = g.C.Machine in
    let S = g.S.Machine in
    let of_console = g.met.C.Machine g.world.𝓛 g.world.𝓜 g.world.𝓡 ((λ s x. x), (λ x. x), (λ x. x), λ x. x) in
    let of_sound = g.met.S.Machine g.world.𝓛 g.world.𝓜 g.world.𝓡 ((λ s x. x), (λ x. x), (λ x. x), λ x. x) in
    let inside = c.self.inside in
    let here : Joined g.row.C.Denot g.row.S.Denot = record { console = inside.console; sound = inside.rest.sound; to_sound = inside.rest.bytes.incoming; to_console = inside.rest.bytes.outgoing } in
    led_sound C.moves S.moves C.stands S.stands C.stamp_of S.stamp_of of_console.stands_stamp of_sound.stands_stamp
    c.args.end from here video audio c.stamp-self-inside.result c.lead_by-stop.new.machine (S.waiting here.sound) (S.waiting c.lead_by-stop.new.machine)
    c.lead_by-stop.new.bytes.incoming c.lead_by-stop.new.bytes.outgoing (omega (arith, c.stamp-self-inside.ensures.stamp)) c.lead_by-stop.ensures.made
    (subst (λ (s : Joined g.row.C.Denot g.row.S.Denot). IsLed C.moves S.moves C.stands S.stands c.args.end from s video (audio ++ S.waiting s.sound)) (sym c.self.view_is) led)
