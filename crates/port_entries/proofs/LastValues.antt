-- The last value, as lists of entries grow.
use Rattle.std.proofs.Common.{◌≡◌, ℕ, ◌<◌, Bool, true, false, cond, eqb, List, [], ◌∷◌, ◌++◌, refl, ap, ◌∙◌, arith}
use Rattle.std.specs.Prelude.{◌&&◌}
use Rattle.std.specs.List.{list_all, AllByRecursion}
use Rattle.std.proofs.lemmas.Bool.{and_left, and_right}
use Rattle.snes_defs.specs.declared.ports.Side.{Side}
use Rattle.port_entries.specs.Entry.{Entry, WriteAt, ClearAt, entry_stamp, CarryBytes}
use Rattle.port_entries.specs.LastValue.{sees, leaves, counts, byte_after, byte_after_all, last_value}

-- a list that is added at the end
pub byte_after_all-append : (side : Side) (own : List Entry) (port at byte : ℕ) (xs ys : List Entry)
    → byte_after_all side own port at byte (xs ++ ys)
    ≡ byte_after_all side own port at (byte_after_all side own port at byte xs) ys
byte_after_all-append side own port at byte [] ys = refl
byte_after_all-append side own port at byte (x ∷ xs) ys =
    byte_after_all-append side own port at (byte_after side own port at byte x) xs ys

-- writes that don't count change nothing
pub uncounted : (side : Side) (own : List Entry) (port at byte : ℕ) (xs : List Entry)
    → AllByRecursion (λ e. counts side own port at (entry_stamp e) ≡ false) xs
    → byte_after_all side own port at byte xs ≡ byte
uncounted side own port at byte [] h = refl
uncounted side own port at byte (WriteAt w p v ∷ xs) h =
    let e : byte_after side own port at byte (WriteAt w p v) ≡ byte =
    ap (λ t. cond (eqb p port && t) v byte) h.0 ∙ ap (λ t. cond t v byte) (and_right (eqb p port) false refl) in
    ap (λ b. byte_after_all side own port at b xs) e ∙ uncounted side own port at byte xs h.1
uncounted side own port at byte (ClearAt w m ∷ xs) h = uncounted side own port at byte xs h.1

-- the value depends on the own entries and the stamp only by which writes count
pub counted_alike : (side : Side) (own more : List Entry) (port at later byte : ℕ) (xs : List Entry)
    → AllByRecursion (λ e. counts side own port at (entry_stamp e) ≡ counts side more port later (entry_stamp e)) xs
    → byte_after_all side own port at byte xs ≡ byte_after_all side more port later byte xs
counted_alike side own more port at later byte [] h = refl
counted_alike side own more port at later byte (WriteAt w p v ∷ xs) h =
    let e : byte_after side own port at byte (WriteAt w p v) ≡ byte_after side more port later byte (WriteAt w p v) =
    ap (λ t. cond (eqb p port && t) v byte) h.0 in
    ap (λ b. byte_after_all side own port at b xs) e
    ∙ counted_alike side own more port at later (byte_after side more port later byte (WriteAt w p v)) xs h.1
counted_alike side own more port at later byte (ClearAt w m ∷ xs) h =
    counted_alike side own more port at later byte xs h.1

-- what isn't seen doesn't count
unseen_uncounted : (side : Side) (own : List Entry) (port at : ℕ) (xs : List Entry)
    → AllByRecursion (λ e. sees side (entry_stamp e) at ≡ false) xs
    → AllByRecursion (λ e. counts side own port at (entry_stamp e) ≡ false) xs
unseen_uncounted side own port at [] h = h
unseen_uncounted side own port at (x ∷ xs) h =
    (and_left (sees side (entry_stamp x) at) (list_all (leaves side port (entry_stamp x)) own) h.0, unseen_uncounted side own port at xs h.1)

-- entries that aren't seen yet leave the value
pub last_value-unseen : (side : Side) (own : List Entry) (port at : ℕ) (xs ys : List Entry)
    → AllByRecursion (λ e. sees side (entry_stamp e) at ≡ false) ys
    → last_value side own port at (xs ++ ys) ≡ last_value side own port at xs
last_value-unseen side own port at xs ys h =
    byte_after_all-append side own port at 0 xs ys
    ∙ uncounted side own port at (last_value side own port at xs) ys (unseen_uncounted side own port at ys h)

-- the last value is a byte where the writes carry bytes
byte_after_all-byte : (side : Side) (own : List Entry) (port at byte : ℕ) (xs : List Entry)
    → byte < 256 → CarryBytes xs → byte_after_all side own port at byte xs < 256
byte_after_all-byte side own port at byte [] small h = small
byte_after_all-byte side own port at byte (WriteAt w p v ∷ xs) small h =
    byte_after_all-byte side own port at (byte_after side own port at byte (WriteAt w p v)) xs
    (picked (eqb p port && counts side own port at w)) h.1
  where
    picked : (t : Bool) → cond t v byte < 256
    picked true = h.0
    picked false = small
byte_after_all-byte side own port at byte (ClearAt w m ∷ xs) small h =
    byte_after_all-byte side own port at byte xs small h.1

pub last_value-byte : (side : Side) (own : List Entry) (port at : ℕ) (xs : List Entry)
    → CarryBytes xs → last_value side own port at xs < 256
last_value-byte side own port at xs h = byte_after_all-byte side own port at 0 xs (omega arith) h

-- lists of entries that carry bytes, joined and at their end
pub carry_bytes-append : (xs ys : List Entry) → CarryBytes xs → CarryBytes ys → CarryBytes (xs ++ ys)
carry_bytes-append [] ys h k = k
carry_bytes-append (x ∷ xs) ys h k = (h.0, carry_bytes-append xs ys h.1 k)

pub carry_bytes-left : (xs ys : List Entry) → CarryBytes (xs ++ ys) → CarryBytes xs
carry_bytes-left [] ys h = tt
carry_bytes-left (x ∷ xs) ys h = (h.0, carry_bytes-left xs ys h.1)
