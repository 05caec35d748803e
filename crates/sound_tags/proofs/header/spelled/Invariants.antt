use Rattle.std.proofs.Common.{◌≡◌, ◌^◌, ◌<◌, drop}
use Rattle.sound_tags.specs.Number.{number_after}
use Rattle.sound_tags.proofs.header.spelled.Given as goal

-- what is left spells with the number so far what all digits spell
abbrev pub invariant-loop-digit : goal.invariant-loop-digit
invariant-loop-digit l =
    (l.number < 10 ^ l.digit-index) × (number_after l.number (drop l.digit-index l.digits) ≡ number_after 0 l.digits)
