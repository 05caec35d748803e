use Rattle.std.proofs.Common.{◌++◌, sym, subst}
use Rattle.serial_console.specs.Joined.{Joined}
use Rattle.serial_console.specs.Lead.{IsLead, IsLed}
use Rattle.serial_console.proofs.serial.Serial.console_leads.Goals as goal

pub returns-clause-led : goal.returns-clause-led
returns-clause-led g c = λ from video audio led.
    let C = g.C.Machine in
    let S = g.S.Machine in
    let before = subst (λ (s : Joined g.row.C.Denot g.row.S.Denot). IsLed C.moves S.moves C.stands S.stands c.args.end from s (video ++ C.waiting s.console) (audio ++ S.waiting s.sound)) (sym c.self.view_is) led in
    let after = c.lead_over.ensures.led from video audio (record {
      at = before.at;
      console = before.stands.console;
      sound = before.stands.sound;
      to_sound = before.stands.to_sound;
      to_console = before.stands.to_console;
      lead = before.lead;
    }) in
    record {
      at = after.at;
      stands = record { console = after.console; sound = after.sound; to_sound = after.to_sound; to_console = after.to_console };
      lead = subst (λ end. IsLead C.moves S.moves end from after.at (video ++ C.waiting c.lead_over.new.console) (audio ++ S.waiting c.lead_over.new.rest.sound)) c.lead_over.ensures.end after.lead;
    }
