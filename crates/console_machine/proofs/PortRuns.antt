-- Steps of the console over the ports behind it: quiet ones, of which the ports know nothing, and one more.
use Rattle.std.proofs.Common.{◌≡◌, ◌∙◌, ◌<◌, ◌≤◌, ℕ, zero, suc, List, [], ◌++◌, length, refl, sym, ap, subst, arith}
use Rattle.std.proofs.lemmas.List.{append-nil}
use Rattle.snes_defs.specs.declared.ports.Act.{Act}
use Rattle.snes_defs.specs.declared.ports.Act.TheVariants.{Quiet}
use Rattle.side_law.specs.declared.ports.Stop.TheVariants.{Emitted}
use Rattle.side_law.specs.Moves.{Moves, taken}
use Rattle.side_law.specs.Gone.{Calls, Over, Leads, IsAnswered, Goes, Gone, IsOnWay, HasGone}
use Rattle.side_law.proofs.Gone.{gone_none, gone_on, gone_then, goes_silently, goes_emitting, way_to, way_on, stops_emitted}
use Rattle.side_law.proofs.SilentSteps.{SilentSteps}
use Rattle.console_steps.specs.ConsoleState.{ConsoleState, act_of, due_of, console_after, console_moves}
use Rattle.console_machine.specs.Side.{ConsoleValue, StandsAt}
use Rattle.console_machine.specs.Silent.{IsSilent}
use Rattle.console_machine.specs.PortRuns.{HasTaken}

-- ---- quiet steps leave the ports as they are

module _ {State Ports : Type 0} (moves : Moves State) (calls : Calls Ports) (until : ℕ) where
  -- a machine and its ports, with bytes that wait
  abbrev over : State → Ports → List ℕ → Over State Ports
  over own ports waits = record { own = own; ports = ports; waits = waits }

  -- one that emits nothing
  goes_quietly : (w : State) (p : Ports) (waits : List ℕ) → moves.act w ≡ Quiet → moves.stamp w < until → moves.bytes w 0 ≡ []
      → Goes moves calls until (over w p waits) (over (moves.next w 0) p waits)
  goes_quietly w p waits quiet early none = record {
    early = early;
    got = 0;
    byte = omega arith;
    called = p;
    answered = subst (λ (a : Act). IsAnswered calls (moves.stamp w) a 0 p p) (sym quiet) (refl, refl);
    own = refl;
    waits = ap (λ (b : List ℕ). waits ++ b) none ∙ append-nil waits;
    silent = λ same. refl;
    room = λ some. absurd (omega (arith, some));
    told = λ some. absurd (omega (arith, some));
  }

  -- so many
  gone_quietly : (n : ℕ) (w to : State) (p : Ports) (waits : List ℕ) → SilentSteps moves until n w to → Gone moves calls until (over w p waits) (over to p waits)
  gone_quietly zero w to p waits same =
      let R : State → Type 0 = λ x. Gone moves calls until (over w p waits) (over x p waits) in
      subst R same (gone_none moves calls until (over w p waits))
  gone_quietly (suc n) w to p waits (quiet, early, none, rest) =
      let next = over (moves.next w 0) p waits in
      let one = gone_on moves calls until (over w p waits) (over w p waits) next (gone_none moves calls until (over w p waits)) (goes_quietly w p waits quiet early none) in
      gone_then moves calls until (over w p waits) next (over to p waits) one (gone_quietly n (moves.next w 0) to p waits rest)

pub quiet_way : {Ports : Type 0} (calls : Calls Ports) (until : ℕ) (new : ConsoleValue) (stand : Ports → Type 0) (waited waits : List ℕ) (w : ConsoleState) (p : Ports)
    → IsSilent until new w → waited ≡ waits → stand p → IsOnWay console_moves calls until (StandsAt new) stand waited waits w p
quiet_way calls until new stand waited waits w p h same now =
    let R : List ℕ → Type 0 = λ l. Gone console_moves calls until (over console_moves calls until w p waited) (over console_moves calls until h.to p l) in
    record { to = h.to; now_stands = h.now_stands; ports = p; ports_stand = now; gone = subst R same (gone_quietly console_moves calls until h.steps w h.to p waited h.silent) }

-- ---- the next step, after others

module _ {Ports : Type 0} (calls : Calls Ports) (until : ℕ) (stands : ConsoleState → Type 0) (stand : Ports → Type 0) (waited waits more : List ℕ) (w : ConsoleState) (p : Ports)
    (way : IsOnWay console_moves calls until stands stand waited waits w p) (at : ℕ) (act : Act) (new : ConsoleValue) (have : Ports → Type 0)
    (took : HasTaken calls at act new have waits more way.to way.ports) (at_is : console_moves.stamp way.to ≡ at) (act_is : act_of way.to.rest (due_of way.to) ≡ act) (early : at < until) where
  abbrev taken_to : ConsoleState
  taken_to = console_after way.to (due_of way.to) (taken (act_of way.to.rest (due_of way.to)) took.got)

  -- that emitted nothing
  pub way_silently : length more ≤ length waits → IsOnWay console_moves calls until (StandsAt new) have waited more w p
  way_silently few =
      let x = way_to console_moves calls until stands stand waited waits w p way in
      let goes = goes_silently console_moves calls until at act x took.got took.ports more at_is act_is early took.small took.answered took.waits_is few in
      way_on console_moves calls until stands stand waited waits w p (StandsAt new) have more way taken_to took.ports goes took.now_stands took.ports_stand

  -- that emitted, and of which the ports were told
  pub way_emitting : (most cap waiting : ℕ) (last : Ports → Type 0) → length more ≡ waiting → length waits < waiting
      → at < calls.room way.ports (length waits) → Leads have last (calls.told at waiting)
      → HasGone console_moves calls until most cap (StandsAt new) last waited more (Emitted at) w p
  way_emitting most cap waiting last is some room told =
      let x = way_to console_moves calls until stands stand waited waits w p way in
      let after = told took.ports took.ports_stand in
      let goes = goes_emitting console_moves calls until at act x took.got took.ports more at_is act_is early took.small took.answered took.waits_is after.to waiting is some room after.led in
      stops_emitted console_moves calls until stands stand waited waits w p most cap (StandsAt new) last more at way taken_to after.to goes took.now_stands after.now_stands at_is (omega (arith, is, some))
