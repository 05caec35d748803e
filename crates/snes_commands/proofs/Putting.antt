-- A put and then a flush of one output.
use Rattle.std.proofs.Common.{◌≡◌, ℕ, List, ◌++◌, length, Option, sym, subst, arith}
use Rattle.std.proofs.lemmas.List.{take_all}
use Rattle.shelf.specs.declared.shelves.Out.{Out}
use Rattle.shelf.specs.Told.{Holds, Appends, AppendsSome, HasRisen}
use Rattle.shelf.specs.Shown.{Shown, OnlyPuts}
use Rattle.run_drive.specs.OutputLaws.{risen_since}
use Rattle.snes_commands.specs.PutLaws.{puts_then}

-- a fault of the flush is a fault since before the put
pub risen_then : (a b c : Shown) (out : Out) → OnlyPuts a b out → HasRisen (b.write_faults out) (c.write_faults out) → HasRisen (a.write_faults out) (c.write_faults out)
risen_then a b c out first risen = risen_since _ _ _ (first.write_faults out) risen

-- a flush leaves what was put, and all bytes are the first ones
pub appended_still : (a b c : Shown) (out : Out) (bytes : List ℕ) → Appends (a.written out) (b.written out) bytes → c.written ≡ b.written → Appends (a.written out) (c.written out) bytes
appended_still a b c out bytes h same = subst (λ (w : Out → Option (List ℕ)). Appends (a.written out) (w out) bytes) (sym same) h

pub all_appended : (a b c : Shown) (out : Out) (bytes : List ℕ) → Appends (a.written out) (b.written out) bytes → c.written ≡ b.written → AppendsSome (a.written out) (c.written out) bytes
all_appended a b c out bytes h same = λ had held.
    (length bytes, subst (λ (l : List ℕ). Holds (c.written out) (had ++ l)) (sym (take_all (length bytes) bytes (omega arith))) (appended_still a b c out bytes h same had held))

pub ruleset puts_whole = (puts_then, risen_then, appended_still)
