-- Loads one after another.
use Rattle.std.proofs.Common.{◌≡◌, ℕ, ◌<◌, List, ◌++◌, length, Option, IfSome, Some, None, refl, sym, ap, subst, ◌∙◌, arith}
use Rattle.shelf.specs.declared.shelves.Input.{Input}
use Rattle.shelf.specs.Told.{Holds}
use Rattle.shelf.specs.Shown.{Shown, OnlyLoads}
use Rattle.run_drive.specs.OutputLaws.{risen_since}
use Rattle.run_io.specs.Lists.{AllOf}
use Rattle.run_io.specs.Words.{input_name}
use Rattle.snes_commands.specs.declared.status.Why.{Why}
use Rattle.snes_commands.specs.declared.status.Status.{Status}
use Rattle.snes_commands.specs.declared.status.Status.TheVariants.{Ok, Usage, LoadFault, Refused, WriteFault, NoMemory, Differs}
use Rattle.snes_commands.specs.Kinds.{input_of, AreRefused}
use Rattle.snes_commands.specs.Loads.{free_in, free_or, told_in, ShowsAccepted, EndsInput, EndsInputs}
use Rattle.snes_commands.proofs.Lists.{all_then, first_front, first_behind, first_map}

-- what is told to be longer is told to be refused
pub longer_is_refused : (told : Option (List ℕ)) (limit : ℕ) (cause : Why) → ((bytes : List ℕ) → limit < length bytes → AreRefused bytes cause)
    → IfSome told (λ bytes. limit < length bytes) → IfSome told (λ bytes. AreRefused bytes cause)
longer_is_refused None limit cause longer long = tt
longer_is_refused (Some bytes) limit cause longer long = longer bytes long

-- free bytes are told, and where there are none what is held is
pub free_told : (free held : Option (List ℕ)) (bytes : List ℕ) → free ≡ Some bytes → Holds (free_or free held) bytes
free_told None held bytes is = absurd cc
free_told (Some own) held bytes is = let same : own ≡ bytes = cc in same

pub free_told_as : (free held : Option (List ℕ)) (bytes : List ℕ) (P : List ℕ → Type 0) → free ≡ Some bytes → P bytes → IfSome (free_or free held) P
free_told_as free held bytes P is h = subst (λ (f : Option (List ℕ)). IfSome (free_or f held) P) (sym is) h

pub held_told : (free held : Option (List ℕ)) (P : List ℕ → Type 0) → free ≡ None → IfSome held P → IfSome (free_or free held) P
held_told free held P is h = subst (λ (f : Option (List ℕ)). IfSome (free_or f held) P) (sym is) h

pub longer_told : (free held : Option (List ℕ)) (limit : ℕ) (cause : Why) → free ≡ None → ((bytes : List ℕ) → limit < length bytes → AreRefused bytes cause)
    → IfSome held (λ bytes. limit < length bytes) → IfSome (free_or free held) (λ bytes. AreRefused bytes cause)
longer_told free held limit cause is longer long = held_told free held (λ bytes. AreRefused bytes cause) is (longer_is_refused held limit cause longer long)

-- what is told is of a kind where the bytes that were loaded are
pub loaded_is : (told : Option (List ℕ)) (bytes : List ℕ) (P : List ℕ → Type 0) → Holds told bytes → P bytes → IfSome told P
loaded_is None bytes P is h = tt
loaded_is (Some all) bytes P is h = subst P (sym is) h

module _ (pairs : List (List ℕ)) where
  -- what is held stays over loads
  pub told_still : (a b : Shown) → OnlyLoads a b → told_in b pairs ≡ told_in a pairs
  told_still a b only = ap {B = Input → Option (List ℕ)} (λ (held : List ℕ → Option (List ℕ)) (input : Input). free_or (free_in pairs input) (held (input_name pairs input))) only.held

  -- what is read of the bytes that are told is read of them as they were before other loads
  pub read_before : (a b : Shown) → OnlyLoads a b → (reads : (Input → Option (List ℕ)) → Type 0) → reads (told_in b pairs) → reads (told_in a pairs)
  read_before a b only reads h = subst reads (told_still a b only) h

  ends_since : (a b c : Shown) → OnlyLoads a b → (status : Status) (input : Input) → EndsInput pairs b c status input → EndsInput pairs a c status input
  ends_since a b c only (LoadFault failed) input h = (h.0, risen_since _ _ _ (only.load_faults (input_name pairs input)) h.1)
  ends_since a b c only (Refused cause) input h = subst (λ (told : Input → Option (List ℕ)). (input_of cause ≡ input) × IfSome (told input) (λ bytes. AreRefused bytes cause)) (told_still a b only) h
  ends_since a b c only NoMemory input h = tt
  ends_since a b c only Ok input h = h
  ends_since a b c only Usage input h = h
  ends_since a b c only Differs input h = h
  ends_since a b c only (WriteFault out) input h = h

  -- the first inputs were not taken
  pub first_ends : (a b : Shown) (first then : List Input) (status : Status) → EndsInputs pairs a b first status → EndsInputs pairs a b (first ++ then) status
  first_ends a b first then status h = first_front (ShowsAccepted (told_in a pairs)) (EndsInput pairs a b status) first then h

  -- the first were accepted, and those behind them were not taken
  pub then_ends : (a b c : Shown) (first then : List Input) (status : Status) → OnlyLoads a b → AllOf (ShowsAccepted (told_in a pairs)) first
      → EndsInputs pairs b c then status → EndsInputs pairs a c (first ++ then) status
  then_ends a b c first then status only accepted h =
      first_behind (ShowsAccepted (told_in a pairs)) (EndsInput pairs a c status) first then accepted
      (first_map (ShowsAccepted (told_in b pairs)) (ShowsAccepted (told_in a pairs)) (EndsInput pairs b c status) (EndsInput pairs a c status)
      (λ input k. subst (λ (told : Input → Option (List ℕ)). ShowsAccepted told input) (told_still a b only) k)
      (ends_since a b c only status) then h)

  pub then_accepted : (a b : Shown) (first then : List Input) → OnlyLoads a b → AllOf (ShowsAccepted (told_in a pairs)) first → AllOf (ShowsAccepted (told_in b pairs)) then
      → AllOf (ShowsAccepted (told_in a pairs)) (first ++ then)
  then_accepted a b first then only h k =
      all_then (ShowsAccepted (told_in a pairs)) first then h (subst (λ (told : Input → Option (List ℕ)). AllOf (ShowsAccepted told) then) (told_still a b only) k)

pub loads_then : (a b c : Shown) → OnlyLoads a b → OnlyLoads b c → OnlyLoads a c
loads_then a b c first next = record {
  held = next.held ∙ first.held;
  written = next.written ∙ first.written;
  named = next.named ∙ first.named;
  unwritten = next.unwritten ∙ first.unwritten;
  write_faults = next.write_faults ∙ first.write_faults;
  load_faults = λ name. omega (arith, first.load_faults name, next.load_faults name);
}

pub loads_none : (a : Shown) → OnlyLoads a a
loads_none a = record { held = refl; written = refl; named = refl; unwritten = refl; write_faults = refl; load_faults = λ name. omega arith }

pub ruleset told = (loaded_is)

pub ruleset fetches = (free_told, free_told_as, loads_none)

pub ruleset fetches_held = (held_told, longer_told)
