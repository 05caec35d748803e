-- Refusals of the log, and of a call over a pass.
use Rattle.std.specs.Prelude.{◌≡◌, Result, Ok, Err}
use Rattle.port_log.specs.declared.late.Late.{Late}
use Rattle.port_log.specs.declared.late.Late.TheVariants.{Behind, Ahead}
use Rattle.port_wire.specs.declared.late.PassLate.{PassLate}
use Rattle.port_wire.specs.declared.late.PassLate.TheVariants as pass

-- a refusal of the log, as that of a call over a pass
abbrev pub over_pass_of : Late → PassLate
over_pass_of (Behind need other) = pass.Behind need other
over_pass_of (Ahead at other) = pass.Ahead at other

-- an answer that is not held, as one of the log
abbrev pub IsAsOfLog : {A : Type 0} → Result A PassLate → Result A Late → Type 0
IsAsOfLog (Ok x) r = r ≡ Ok x
IsAsOfLog (Err (pass.Behind need other)) r = r ≡ Err (Behind need other)
IsAsOfLog (Err (pass.Ahead at other)) r = r ≡ Err (Ahead at other)
IsAsOfLog (Err (pass.Held by)) r = ⊥
