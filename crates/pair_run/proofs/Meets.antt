-- Two legs that began on the serial run and met again are on it, and so is a step of the earlier side after
-- them.
use Rattle.std.proofs.Common.{◌≡◌, ℕ, ◌<◌, ◌≤◌, List, [], refl, sym, ◌∙◌, subst}
use Rattle.std.proofs.lemmas.List.{append-nil}
use Rattle.snes_defs.specs.declared.region.Region.{Region}
use Rattle.snes_defs.specs.declared.ports.Side.{Side}
use Rattle.snes_defs.specs.declared.ports.Side.TheVariants.{Console, Sound}
use Rattle.port_entries.specs.Entry.{Entry, CarryBytes}
use Rattle.port_entries.specs.Window.{IsSettled}
use Rattle.port_entries.proofs.LastValues.{carry_bytes-left}
use Rattle.side_law.specs.Moves.{Moves, IsLawful}
use Rattle.commute_laws.specs.History.{History}
use Rattle.commute_laws.specs.Heard.{IsHeard, RanAlone, heard_step}
use Rattle.commute_laws.specs.Leg.{IsLeg}
use Rattle.commute_laws.specs.OnRun.{IsOnRun, StaysBelow}
use Rattle.commute_laws.proofs.Later.{always_on_look}
use Rattle.commute_laws.proofs.OnRuns.{console_heard, sound_heard, console_below_next, sound_below_next, heard_on_run, heard_below}
use Rattle.port_wire.specs.Seen.{Half, HasHeard, AreReunited}
use Rattle.pair_run.proofs.Fronts.{same_leg}

-- a leg against what was heard of a list is a run alone against the beginning of it that was heard
alone : {State : Type 0} (side : Side) (moves : Moves State) (heard whole others : List Entry) (upto end clock : ℕ) (before after : History State)
    → IsLeg side moves heard upto end before after → HasHeard heard whole upto → CarryBytes whole → others ≡ whole → upto ≤ clock
    → RanAlone side moves before after others clock
alone side moves heard whole others upto end clock before after leg has bytes is published = record {
  heard = has.front;
  upto = upto;
  bytes = carry_bytes-left has.front has.rest (subst CarryBytes (sym has.whole_is) bytes);
  ran = (same_leg side moves heard has.front has.writes upto end before after leg).ran;
  all_heard = record { rest = has.rest; whole_is = has.whole_is ∙ sym is; later = has.later };
  published = published;
}

all_of : (entries : List Entry) (upto : ℕ) → IsHeard entries entries upto
all_of entries upto = record { rest = []; whole_is = append-nil entries; later = tt }

module _ {C S : Type 0} (region : Region) (console_valid : C → Type 0) (sound_valid : S → Type 0) (console_most sound_most : ℕ)
    (cm : Moves C) (sm : Moves S)
    (console_lawful : IsLawful region console_valid console_most cm) (sound_lawful : IsLawful region sound_valid sound_most sm)
    (c0 : C) (s0 : S) (c0_valid : console_valid c0) (s0_valid : sound_valid s0) where
  -- where two legs that met have come to
  pub record Met (end : ℕ) (c after_c : History C) (s after_s : History S) : Type 0 where
    pub on : IsOnRun cm sm c0 s0 after_c after_s
    pub below : StaysBelow cm sm c0 s0 end c s → StaysBelow cm sm c0 s0 end after_c after_s

  pub legs_meet : (end : ℕ) (c after_c : History C) (s after_s : History S) (console sound : Half)
      → IsOnRun cm sm c0 s0 c s
      → IsLeg Console cm console.heard console.upto end c after_c
      → IsLeg Sound sm sound.heard sound.upto end s after_s
      → after_c.entries ≡ console.mine → after_s.entries ≡ sound.mine
      → AreReunited console sound
      → console.at ≤ cm.stamp after_c.now → sound.at ≤ sm.stamp after_s.now
      → Met end c after_c s after_s
  unfolding alone
  legs_meet end c after_c s after_s console sound on by_console by_sound console_is sound_is met console_clock sound_clock =
      let cr = alone Console cm console.heard sound.mine after_s.entries console.upto end sound.at c after_c by_console met.console_heard met.sound_bytes sound_is met.console_upto in
      let sr = alone Sound sm sound.heard console.mine after_c.entries sound.upto end console.at s after_s by_sound met.sound_heard met.console_bytes console_is met.sound_upto in
      record {
        on = heard_on_run region console_valid sound_valid console_most sound_most cm sm console_lawful sound_lawful c0 s0 c0_valid s0_valid
            c after_c s after_s console.at sound.at on cr sr console_clock sound_clock;
        below = heard_below region console_valid sound_valid console_most sound_most cm sm console_lawful sound_lawful c0 s0 c0_valid s0_valid
            end c after_c s after_s console.at sound.at on cr sr console_clock sound_clock
            (same_leg Console cm console.heard met.console_heard.front met.console_heard.writes console.upto end c after_c by_console).below
            (same_leg Sound sm sound.heard met.sound_heard.front met.sound_heard.writes sound.upto end s after_s by_sound).below;
      }

  -- a step of the console, where it is the earlier side, against all that the sound side has logged
  pub console_goes : (end : ℕ) (c : History C) (s : History S) → IsOnRun cm sm c0 s0 c s
      → cm.stamp c.now ≤ sm.stamp s.now → cm.stamp c.now < end
      → Met end c (heard_step Console cm s.entries c) s s
  console_goes end c s on first early =
      let settled = always_on_look (cm.act c.now) (IsSettled Console (cm.stamp c.now) (sm.stamp s.now)) first in
      record {
        on = (console_heard region console_valid sound_valid console_most sound_most cm sm console_lawful sound_lawful c0 s0 c0_valid s0_valid
            c s on s.entries s.entries (sm.stamp s.now) (all_of s.entries (sm.stamp s.now)) [] (append-nil s.entries) tt settled settled).0;
        below = λ below. console_below_next region console_valid sound_valid console_most sound_most cm sm console_lawful sound_lawful c0 s0 c0_valid s0_valid
            end c s on below early (heard_step Console cm s.entries c) refl;
      }

  -- and of the sound side
  pub sound_goes : (end : ℕ) (c : History C) (s : History S) → IsOnRun cm sm c0 s0 c s
      → sm.stamp s.now < cm.stamp c.now → sm.stamp s.now < end
      → Met end c c s (heard_step Sound sm c.entries s)
  sound_goes end c s on first early =
      let settled = always_on_look (sm.act s.now) (IsSettled Sound (sm.stamp s.now) (cm.stamp c.now)) first in
      record {
        on = (sound_heard region console_valid sound_valid console_most sound_most cm sm console_lawful sound_lawful c0 s0 c0_valid s0_valid
            c s on c.entries c.entries (cm.stamp c.now) (all_of c.entries (cm.stamp c.now)) [] (append-nil c.entries) tt settled settled).0;
        below = λ below. sound_below_next region console_valid sound_valid console_most sound_most cm sm console_lawful sound_lawful c0 s0 c0_valid s0_valid
            end c s on below early (heard_step Sound sm c.entries s) refl;
      }
