use Rattle.std.proofs.Common.{ℕ, ◌<◌, subst}
use Rattle.console_steps.proofs.PlainPlaces.{plainly_there}
use Rattle.console_steps.proofs.plain_places.reach_plain_place.Goals as goal

pub returns-clause-there : goal.returns-clause-there
returns-clause-there c =
    let N : ℕ → Type 0 = λ n. 0 < n in
    plainly_there c.args.bus.now c.reach-happens.new.self c.reach-happens.result c.requires.plain (subst N c.clocks_left-left.ensures.clocks c.clocks_left-left.ensures.some)
    c.reach-happens.ensures.none_before c.reach-happens.ensures.last c.reach-happens.ensures.moved

pub returns-clause-far : goal.returns-clause-far
returns-clause-far c = (returns-clause-there c).far
