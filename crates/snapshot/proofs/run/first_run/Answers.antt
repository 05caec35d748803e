use Rattle.std.proofs.Common.{max, ap, subst, ◌∙◌}
use Rattle.console_machine.specs.Side.{ConsoleValue}
use Rattle.audio_side.specs.Sound.{AudioValue, SoundState, StandsAt}
use Rattle.audio_side.specs.Playing.{sound_with_room}
use Rattle.snapshot.proofs.Starting.{first_done}
use Rattle.snapshot.proofs.run.first_run.Goals as goal

pub returns-clause-done : goal.returns-clause-done
returns-clause-done c =
    first_done c.args.job.now c.args.spans c.new-3.result c.in_ok-console.console c.reserve.new.self c.in_ok-sound.sound c.reserve-2.new.self c.requires
    c.in_ok-console.ensures.starts c.in_ok-reserve.ensures.stands c.in_ok-sound.ensures.starts
    (subst (λ k. (m : SoundState) → StandsAt c.in_ok-sound.sound m → StandsAt c.reserve-2.new.self (sound_with_room m (max c.in_ok-sound.sound.clock.room k))) c.room_for.ensures c.in_ok-reserve-2.ensures.stands) c.new-3.ensures.starts
    (ap (λ (v : ConsoleValue). v.waiting) c.new-3.ensures.console ∙ ap (λ (v : ConsoleValue). v.waiting) c.in_ok-reserve.ensures.ok ∙ c.in_ok-console.ensures.empty)
    (ap (λ (v : AudioValue). v.waiting) c.new-3.ensures.sound ∙ ap (λ (v : AudioValue). v.waiting) c.in_ok-reserve-2.ensures.ok ∙ c.in_ok-sound.ensures.empty)
