-- The two orders in which the sides see each other's writes are each other's complement.
use Rattle.std.proofs.Common.{◌≡◌, ℕ, ◌<◌, ◌≤◌, true, false, arith}
use Rattle.std.proofs.lemmas.Bool.{ltb-true, ltb-false, leb-true, leb-false, lt-ltb, le-ltb, le-leb, lt-leb}
use Rattle.snes_defs.specs.declared.ports.Side.{Side}
use Rattle.snes_defs.specs.declared.ports.Side.TheVariants.{Console, Sound}
use Rattle.port_entries.specs.LastValue.{sees}
use Rattle.port_entries.specs.Window.{IsSettled}

abbrev pub other_side : Side → Side
other_side Console = Sound
other_side Sound = Console

-- of two stamps of the two sides exactly one is seen by the other side
pub seen_back : (side : Side) (a b : ℕ) → sees side a b ≡ true → sees (other_side side) b a ≡ false
seen_back Console a b h = lt-leb b a (ltb-true a b h)
seen_back Sound a b h = le-ltb b a (leb-true a b h)

pub unseen_back : (side : Side) (a b : ℕ) → sees side a b ≡ false → sees (other_side side) b a ≡ true
unseen_back Console a b h = le-leb b a (ltb-false a b h)
unseen_back Sound a b h = lt-ltb b a (leb-false a b h)

-- what is seen is seen later too
pub seen_later : (side : Side) (a b c : ℕ) → sees side a b ≡ true → b ≤ c → sees side a c ≡ true
seen_later Console a b c h le = lt-ltb a c (omega (arith, ltb-true a b h))
seen_later Sound a b c h le = le-leb a c (omega (arith, leb-true a b h))

-- what comes later than what isn't seen isn't seen either
pub unseen_later : (side : Side) (a b c : ℕ) → sees side a c ≡ false → a ≤ b → sees side b c ≡ false
unseen_later Console a b c h le = le-ltb b c (omega (arith, ltb-false a c h))
unseen_later Sound a b c h le = lt-leb b c (omega (arith, leb-false a c h))

-- a settled stamp doesn't see what is written at the other's clock
pub settled_unseen : (side : Side) (at clock : ℕ) → IsSettled side at clock → sees side clock at ≡ false
settled_unseen Console at clock h = le-ltb clock at h
settled_unseen Sound at clock h = lt-leb clock at h

pub unseen_settled : (side : Side) (at clock : ℕ) → sees side clock at ≡ false → IsSettled side at clock
unseen_settled Console at clock h = ltb-false clock at h
unseen_settled Sound at clock h = leb-false clock at h

pub settled_later : (side : Side) (at a b : ℕ) → IsSettled side at a → a ≤ b → IsSettled side at b
settled_later Console at a b h le = omega arith
settled_later Sound at a b h le = omega arith

-- a stamp strictly below sees and is settled on either side
pub below_seen : (side : Side) (a b : ℕ) → a < b → sees side a b ≡ true
below_seen Console a b h = lt-ltb a b h
below_seen Sound a b h = le-leb a b (omega arith)

-- what is seen isn't later
pub seen_le : (side : Side) (a b : ℕ) → sees side a b ≡ true → a ≤ b
seen_le Console a b h = omega (arith, ltb-true a b h)
seen_le Sound a b h = leb-true a b h

-- of two stamps that the other side sees in this order, this side doesn't see the later one
pub other_sees : (side : Side) (a b : ℕ) → sees (other_side side) a b ≡ true → sees side b a ≡ false
other_sees Console a b h = le-ltb b a (leb-true a b h)
other_sees Sound a b h = lt-leb b a (ltb-true a b h)
