-- The clauses of `snes`, each from how the call ended.
use Rattle.std.proofs.Common.{◌≡◌, ◌≢◌, ℕ, true, false, if◌then◌else◌, List, [], ◌∷◌, length, Option, None, Some, IfSome, IsSomeAnd, refl, sym, ap, ◌∙◌, subst, inl, inr, ⊎_elim, arith}
use Rattle.std.specs.Prelude.{◌⊎◌}
use Rattle.std.proofs.lemmas.List.{take_all}
use Rattle.shelf.specs.declared.shelves.Input.{Input}
use Rattle.shelf.specs.declared.shelves.Out.{Out}
use Rattle.shelf.specs.declared.shelves.Out.TheVariants as out
use Rattle.shelf.specs.Told.{Holds, HasRisen}
use Rattle.shelf.specs.Shown.{Shown, IsKept, OnlyPuts}
use Rattle.run_io.specs.Form.{Order}
use Rattle.run_io.specs.Lists.{AllOf, FirstThat, IsOneOf}
use Rattle.snes_commands.specs.declared.status.Why.{Why}
use Rattle.snes_commands.specs.declared.status.Status.{Status}
use Rattle.snes_commands.specs.declared.status.Status.TheVariants.{Ok, Usage, LoadFault, Refused, WriteFault, NoMemory, Differs}
use Rattle.snes_commands.specs.Kinds.{AreRefused, AreAccepted}
use Rattle.snes_commands.specs.Loads.{told_in, ShowsAccepted, ShowsRefused, TellsAccepted, TellsRefused, HasFailed, EndsInput, EndsInputs}
use Rattle.snes_commands.specs.Command.{Command}
use Rattle.snes_commands.specs.Wish.{Wish, Nothing, Asks, IfAsks, IsNothing}
use Rattle.snes_commands.specs.Said.{IsSaid}
use Rattle.snes_commands.specs.Status.{refusal_of}
use Rattle.snes_commands.specs.Ends.{due_of, OnlySays, IsNamed, IsMade, IsBegun, IsLeft, IsDone, IsWriteFault, IsAnswered, EndsShort, EndsCall, EndsWish}
use Rattle.snes_program.specs.Snes.{OrNoMemory, IsEarly, IsLate, IsOver, IsDue, IsFaultBefore, AreBegun, IsClean}
use Rattle.snes_commands.proofs.KindLemmas.{one_cause}
use Rattle.snes_commands.proofs.Lists.{all_map, all_both, one_of, all_at}

-- THE FIRST INPUT THAT ISN'T ACCEPTED DECIDES
-- what is told can't be both refused and accepted
told_both : (told : Input → Option (List ℕ)) (cause : Why) (input : Input) → TellsRefused told cause input → ShowsAccepted told input → ⊥
told_both told cause input (is, h) k = both (told input) h k
  where
    both : (bytes : Option (List ℕ)) → IsSomeAnd bytes (λ b. AreRefused b cause) → IfSome bytes (AreAccepted input) → ⊥
    both None h k = absurd h
    both (Some b) h k = k.unrefused cause is h

shown_both : (told : Input → Option (List ℕ)) (cause : Why) (input : Input) → ShowsRefused told cause input → TellsAccepted told input → ⊥
shown_both told cause input (is, h) k = both (told input) h k
  where
    both : (bytes : Option (List ℕ)) → IfSome bytes (λ b. AreRefused b cause) → IsSomeAnd bytes (AreAccepted input) → ⊥
    both None h k = absurd k
    both (Some b) h k = k.unrefused cause is h

told_causes : (told : Input → Option (List ℕ)) (a b : Why) (input : Input) → ShowsRefused told a input → TellsRefused told b input → a ≡ b
told_causes told a b input (is, h) (too, k) = both (told input) h k
  where
    both : (bytes : Option (List ℕ)) → IfSome bytes (λ x. AreRefused x a) → IsSomeAnd bytes (λ x. AreRefused x b) → a ≡ b
    both None h k = absurd k
    both (Some x) h k = one_cause x a b (is ∙ sym too) h k

module _ (told : Input → Option (List ℕ)) (cause : Why) where
  -- not all are accepted
  not_all : (inputs : List Input) → FirstThat (TellsAccepted told) (TellsRefused told cause) inputs → AllOf (ShowsAccepted told) inputs → ⊥
  not_all inputs due h = all_at (ShowsAccepted told) (TellsAccepted told) (TellsRefused told cause) ⊥ (λ x k t. told_both told cause x t k) inputs h due

  -- a refusal is that of the first refused input
  one_due : (other : Why) (inputs : List Input) → FirstThat (TellsAccepted told) (TellsRefused told cause) inputs → FirstThat (ShowsAccepted told) (ShowsRefused told other) inputs → other ≡ cause
  one_due other [] due h = absurd h
  one_due other (x ∷ inputs) due h =
      ⊎_elim
      (λ r. ⊎_elim (λ t. told_causes told other cause x r t) (λ t. absurd (shown_both told other x r t.0)) due)
      (λ a. ⊎_elim (λ t. absurd (told_both told cause x t a.0)) (λ t. one_due other inputs t.1 a.1) due)
      h

  -- a load that failed was of an input before which all are told and accepted
  fault_due : (Fault : Input → Type 0) (failed : Input) → ((x : Input) → Fault x → failed ≡ x) → (inputs : List Input)
      → FirstThat (TellsAccepted told) (TellsRefused told cause) inputs → FirstThat (ShowsAccepted told) Fault inputs → FirstThat (TellsAccepted told) (λ x. failed ≡ x) inputs
  fault_due Fault failed of [] due h = absurd h
  fault_due Fault failed of (x ∷ inputs) due h =
      ⊎_elim
      (λ f. inl (of x f))
      (λ a. ⊎_elim (λ t. absurd (told_both told cause x t a.0)) (λ t. inr (t.0, fault_due Fault failed of inputs t.1 a.1)) due)
      h

module _ (command : Command) (order : Order) (before after : Shown) where
  abbrev Answered : Status → Type 0
  Answered status = IsAnswered command order before after status

  abbrev Short : Status → Type 0
  Short status = EndsShort command order before after status

  -- what stands whole was begun
  done_begun : (line : List ℕ) → IsDone command order before after line → AllOf (IsBegun command order before after) command.form.outputs
  done_begun line h =
      let contents = h.whole.contents in
      all_both (λ o. Holds (after.written o) (contents o)) (IsNamed order after.named) (IsBegun command order before after)
      (λ o w n. record {
        named = n;
        first = record {
          contents = contents;
          line = line;
          makes = h.whole.makes;
          count = length (contents o);
          holds = subst (Holds (after.written o)) (sym (take_all (length (contents o)) (contents o) (omega arith))) w;
        };
      })
      command.form.outputs h.whole.holds h.named

  module _ (others : AllOf (λ o. o ≢ out.Say) command.form.outputs) where
    -- an output that was not written is not that of the lines
    not_lines : (failed : Out) → IsWriteFault command order before after failed → failed ≢ out.Say
    not_lines failed h =
        all_at (λ o. o ≢ out.Say) (IsBegun command order before after) (λ o. o ≡ failed) (failed ≢ out.Say)
        (λ o d e. subst (λ (k : Out). k ≢ out.Say) e d) command.form.outputs others h.earlier

    -- by how the call ended: its line was said whole, with nothing or something that differs, or in part; or an input or an output
    -- failed, or memory was wanting
    by : (Q : Status → Type 0) → (Answered Ok → Q Ok) → (Answered Differs → Q Differs) → (Answered (WriteFault out.Say) → HasRisen (before.write_faults out.Say) (after.write_faults out.Say) → Q (WriteFault out.Say))
        → ((input : Input) → Short (LoadFault input) → Q (LoadFault input)) → ((cause : Why) → Short (Refused cause) → Q (Refused cause))
        → ((failed : Out) → failed ≢ out.Say → IsWriteFault command order before after failed → Q (WriteFault failed)) → (OnlySays before after → Q NoMemory)
        → (status : Status) → Answered status ⊎ Short status → Q status
    by Q whole differs part load refuse write memory status h = ⊎_elim (said status) (short status) h
      where
        due : (line : List ℕ) → Answered (due_of command line) → Q (due_of command line)
        due line =
            elim (command.differs line) as (λ d. Answered (if d then Differs else Ok) → Q (if d then Differs else Ok)) [
              | true ↦ differs
              | false ↦ whole
            ]

        said : (s : Status) → Answered s → Q s
        said s a = ⊎_elim (λ w. subst Q (sym w.answer) (due a.line (subst Answered w.answer a))) (λ p. subst Q (sym p.answer) (part (subst Answered p.answer a) p.risen)) a.says

        short : (s : Status) → Short s → Q s
        short (LoadFault input) k = load input k
        short (Refused cause) k = refuse cause k
        short (WriteFault failed) k = write failed (not_lines failed k) k
        short NoMemory k = memory k
        short Ok k = absurd k
        short Usage k = absurd k
        short Differs k = absurd k

    pub headline : (status : Status) → Answered status ⊎ Short status → IsOver status → Answered status
    headline =
        by (λ s. IsOver s → Answered s) (λ a late. a) (λ a late. a) (λ a risen late. a) (λ i k late. absurd (omega arith)) (λ i k late. absurd (omega arith))
        (λ o differ k late. absurd (early o differ late)) (λ k late. absurd (omega arith))
      where
        early : (o : Out) → o ≢ out.Say → ¬ IsOver (WriteFault o)
        early out.Say differ late = differ refl
        early out.Video differ late = absurd (omega arith)
        early out.Sound differ late = absurd (omega arith)
        early out.Image differ late = absurd (omega arith)
        early out.Sums differ late = absurd (omega arith)
        early out.State differ late = absurd (omega arith)
        early out.Spc differ late = absurd (omega arith)

    pub usage : (status : Status) → Answered status ⊎ Short status → status ≡ Usage → ⊥
    usage = by (λ s. s ≡ Usage → ⊥) (λ a e. cc) (λ a e. cc) (λ a risen e. cc) (λ i k e. cc) (λ i k e. cc) (λ o differ k e. cc) (λ k e. cc)

    abbrev Ended : Status → Type 0
    Ended status = EndsInputs order.pairs before after command.form.inputs status

    pub load_fault : (status : Status) → Answered status ⊎ Short status → (input : Input) → status ≡ LoadFault input → Ended (LoadFault input)
    load_fault status h input =
        by (λ s. s ≡ LoadFault input → Ended (LoadFault input)) (λ a e. absurd cc) (λ a e. absurd cc) (λ a risen e. absurd cc)
        (λ i k e. subst Ended e k.0) (λ i k e. absurd cc) (λ o differ k e. absurd cc) (λ k e. absurd cc) status h

    pub refused : (status : Status) → Answered status ⊎ Short status → (cause : Why) → status ≡ Refused cause → Ended (Refused cause)
    refused status h cause =
        by (λ s. s ≡ Refused cause → Ended (Refused cause)) (λ a e. absurd cc) (λ a e. absurd cc) (λ a risen e. absurd cc)
        (λ i k e. absurd cc) (λ i k e. subst Ended e k.0) (λ o differ k e. absurd cc) (λ k e. absurd cc) status h

    abbrev HasFault : Out → Type 0
    HasFault failed = HasRisen (before.write_faults failed) (after.write_faults failed) × (IsOneOf command.form.outputs failed ⊎ (failed ≡ out.Say))

    pub write_fault : (status : Status) → Answered status ⊎ Short status → (failed : Out) → status ≡ WriteFault failed → HasFault failed
    write_fault status h failed =
        by (λ s. s ≡ WriteFault failed → HasFault failed) (λ a e. absurd cc) (λ a e. absurd cc)
        (λ a risen e. subst HasFault (let k : out.Say ≡ failed = cc in k) (risen, inr refl)) (λ i k e. absurd cc) (λ i k e. absurd cc)
        (λ o differ k e. subst HasFault (let m : o ≡ failed = cc in m) (k.risen, inl (one_of (IsBegun command order before after) o command.form.outputs k.earlier))) (λ k e. absurd cc) status h

    pub refused_always : (status : Status) → Answered status ⊎ Short status → (cause : Why) → IsDue command order before cause → (status ≡ Refused cause) ⊎ IsFaultBefore command order before status
    refused_always status h cause due =
        let none : (Q : Type 0) → AllOf (ShowsAccepted (told_in before order.pairs)) command.form.inputs → Q
        = λ Q all. absurd (not_all (told_in before order.pairs) cause command.form.inputs due all) in
        by (λ s. (s ≡ Refused cause) ⊎ IsFaultBefore command order before s)
        (λ a. none _ a.done.accepted) (λ a. none _ a.done.accepted) (λ a risen. none _ a.done.accepted)
        (λ i k. inr (fault_due (told_in before order.pairs) cause (EndsInput order.pairs before after (LoadFault i)) i (λ x f. f.0) command.form.inputs due k.0))
        (λ i k. inl (ap Refused (one_due (told_in before order.pairs) cause i command.form.inputs due k.0)))
        (λ o differ k. none _ k.made.accepted) (λ k. inr tt) status h

    abbrev Made : Type 0
    Made = IsMade command order before

    pub accepted : (status : Status) → Answered status ⊎ Short status → IsLate status → Made
    accepted =
        by (λ s. IsLate s → Made) (λ a late. of_done a) (λ a late. of_done a) (λ a risen late. of_done a) (λ i k late. absurd (omega arith)) (λ i k late. absurd (omega arith))
        (λ o differ k late. k.made) (λ k late. absurd (omega arith))
      where
        of_done : {s : Status} → Answered s → Made
        of_done a = record { accepted = a.done.accepted; makes = record { contents = a.done.whole.contents; line = a.line; makes = a.done.whole.makes } }

    pub untouched : (status : Status) → Answered status ⊎ Short status → IsEarly status → OnlySays before after
    untouched =
        by (λ s. IsEarly s → OnlySays before after) (λ a early. absurd (omega arith)) (λ a early. absurd (omega arith)) (λ a risen early. absurd (omega arith))
        (λ i k early. k.1) (λ i k early. k.1) (λ o differ k early. absurd (late o early)) (λ k early. k)
      where
        late : (o : Out) → ¬ IsEarly (WriteFault o)
        late out.Say early = absurd (omega arith)
        late out.Video early = absurd (omega arith)
        late out.Sound early = absurd (omega arith)
        late out.Image early = absurd (omega arith)
        late out.Sums early = absurd (omega arith)
        late out.State early = absurd (omega arith)
        late out.Spc early = absurd (omega arith)

    abbrev AllLeft : Type 0
    AllLeft = AllOf (IsLeft command order before after) command.form.outputs

    pub left : (status : Status) → Answered status ⊎ Short status → AllLeft
    left = by (λ s. AllLeft) (λ a. done a) (λ a. done a) (λ a risen. done a) (λ i k. over k.1) (λ i k. over k.1) (λ o differ k. k.left) over
      where
        done : {s : Status} → Answered s → AllLeft
        done a = all_map (IsBegun command order before after) (IsLeft command order before after) (λ o b. inr b) command.form.outputs (done_begun a.line a.done)

        over : OnlySays before after → AllLeft
        over h = all_map (λ o. o ≢ out.Say) (IsLeft command order before after) (λ o d. inl (record { written = (h o d).written; named = (h o d).named; unwritten = (h o d).unwritten })) command.form.outputs others

    pub begun : (status : Status) → Answered status ⊎ Short status → AreBegun command order before after status
    begun = by (AreBegun command order before after) (λ a. done_begun a.line a.done) (λ a. done_begun a.line a.done) (λ a risen. done_begun a.line a.done) (λ i k. tt) (λ i k. tt) write (λ k. tt)
      where
        write : (o : Out) → o ≢ out.Say → IsWriteFault command order before after o → AreBegun command order before after (WriteFault o)
        write out.Say differ k = absurd (differ refl)
        write out.Video differ k = k.earlier
        write out.Sound differ k = k.earlier
        write out.Image differ k = k.earlier
        write out.Sums differ k = k.earlier
        write out.State differ k = k.earlier
        write out.Spc differ k = k.earlier

    -- with all accepted and no fault counted, the answer is that of a command that was done, or want of memory
    pub complete : (status : Status) → Answered status ⊎ Short status → IsClean command order before after → OrNoMemory command status
    complete status h clean = ⊎_elim answered (short status) h
      where
        answered : Answered status → OrNoMemory command status
        answered a = ⊎_elim (λ w. inl (a.line, w.answer)) (λ p. absurd (clean.line p.risen)) a.says

        short : (s : Status) → Short s → OrNoMemory command s
        short (LoadFault i) k = absurd (all_at (λ x. ¬ HasFailed order.pairs before after x) (ShowsAccepted (told_in before order.pairs)) (EndsInput order.pairs before after (LoadFault i)) ⊥
            (λ x calm f. calm f.1) command.form.inputs clean.loads k.0)
        short (Refused i) k = absurd (all_at (TellsAccepted (told_in before order.pairs)) (ShowsAccepted (told_in before order.pairs)) (EndsInput order.pairs before after (Refused i)) ⊥
            (λ x t r. shown_both (told_in before order.pairs) i x r t) command.form.inputs clean.inputs k.0)
        short (WriteFault o) k = absurd (all_at (λ x. ¬ HasRisen (before.write_faults x) (after.write_faults x)) (IsBegun command order before after) (λ x. x ≡ o) ⊥
            (λ x calm e. calm (subst (λ (y : Out). HasRisen (before.write_faults y) (after.write_faults y)) (sym e) k.risen)) command.form.outputs clean.outputs k.earlier)
        short NoMemory k = inr refl
        short Ok k = absurd k
        short Usage k = absurd k
        short Differs k = absurd k

-- each clause of a call, whatever the words ask for
module _ (before after : Shown) (status : Status) where
  pub wish_usage : (wish : Wish) → EndsWish wish before after status → status ≡ Usage → IsNothing wish
  wish_usage Nothing h e = tt
  wish_usage (Asks command order) h e = usage command order before after h.not_lines status h.ends e

  pub wish_usage_always : (wish : Wish) → EndsWish wish before after status → IsNothing wish → status ≡ Usage
  wish_usage_always Nothing h e = h.answer
  wish_usage_always (Asks command order) h e = absurd e

  pub wish_formless : (wish : Wish) → EndsWish wish before after status → IsNothing wish → OnlyPuts before after out.Say
  wish_formless Nothing h e = h.only
  wish_formless (Asks command order) h e = absurd e

  pub wish_asks : (P : Command → Order → Type 0) → ((command : Command) (order : Order) → EndsCall command order before after status → P command order)
      → (wish : Wish) → EndsWish wish before after status → IfAsks wish P
  wish_asks P f Nothing h = tt
  wish_asks P f (Asks command order) h = f command order h

  pub wish_kept : (wish : Wish) → EndsWish wish before after status → IsKept before after
  wish_kept Nothing h = record { held = h.only.held; load_faults = λ name. omega (arith, ap (λ (f : List ℕ → ℕ). f name) h.only.load_faults); write_faults = h.only.write_faults }
  wish_kept (Asks command order) h = h.kept

  pub wish_unnamed : (wish : Wish) → EndsWish wish before after status → after.named out.Say ≡ before.named out.Say
  wish_unnamed Nothing h = ap (λ (n : Out → Option (List ℕ)). n out.Say) h.only.named
  wish_unnamed (Asks command order) h = h.unnamed

  pub wish_said : (wish : Wish) → EndsWish wish before after status → IfSome (refusal_of status) (IsSaid before after)
  wish_said Nothing h = h.said
  wish_said (Asks command order) h = h.said
