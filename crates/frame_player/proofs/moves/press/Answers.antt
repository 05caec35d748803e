use Rattle.std.proofs.Common.{◌≡◌, Bool, true, false}
use Rattle.frame_player.proofs.Standing.{may_told, may_press, reset_fits, pressed_so}
use Rattle.frame_player.proofs.moves.press.Goals as goal

-- an answer is not both
tell : {b : Bool} → b ≡ true → b ≡ false → ⊥
tell on off = cc

pub reset-requires : goal.reset-requires
reset-requires c =
    let (told, h) = c.requires.stands in
    let may = (c.may_reset.ensures h.job told.most h.paths h.rested).0 c.if-may_reset.true in
    record { rested = (h.job, told.most, h.paths, h.rested, reset_fits told c.args.rewind.now h may, may) }

pub returns-then-may_reset-clause-pressed : goal.returns-then-may_reset-clause-pressed
returns-then-may_reset-clause-pressed c = λ told h on.
    let may = (c.may_reset.ensures h.job told.most h.paths h.rested).0 c.if-may_reset.true in
    (may_told told c.args.rewind.now h may, pressed_so told c.args.rewind.now c.reset.new.self h c.reset.ensures.reset c.reset.ensures.slots)

pub returns-clause-none : goal.returns-clause-none
returns-clause-none c = λ told h off. (
  λ may. (let on = (c.may_reset.ensures h.job told.most h.paths h.rested).1 (may_press told c.args.rewind.now h may) in tell on c.if-may_reset.false),
  h,
)
