-- How a call ends, from how its loads, creations and fills ended and what was said.
use Rattle.std.proofs.Common.{◌≡◌, ◌≢◌, ℕ, true, false, if◌then◌else◌, List, [], take, Option, None, Some, IfSome, Result, Ok as good, Err, IfOk, IfErr, refl, sym, ap, ◌∙◌, subst, inl, inr, ⊎_elim, arith}
use Rattle.std.specs.Prelude.{◌⊎◌}
use Rattle.shelf.specs.declared.shelves.Input.{Input}
use Rattle.shelf.specs.declared.shelves.Out.{Out}
use Rattle.shelf.specs.declared.shelves.Out.TheVariants as out
use Rattle.shelf.specs.Told.{Holds, Appends, AppendsSome, HasRisen}
use Rattle.shelf.specs.Shown.{Shown, IsUntouched, IsPassedOver, OnlyLoads, OnlyPuts}
use Rattle.run_drive.specs.OutputLaws.{risen_since}
use Rattle.run_io.specs.Words.{input_name, output_name}
use Rattle.run_io.specs.Form.{Order, order_in}
use Rattle.run_io.specs.Lists.{AllOf, FirstThat, IsOneOf}
use Rattle.snes_commands.specs.declared.status.Status.{Status}
use Rattle.snes_commands.specs.declared.status.Status.TheVariants.{Ok, Usage, LoadFault, Refused, WriteFault, NoMemory, Differs}
use Rattle.snes_commands.specs.Command.{Command, HoldsWhole, HoldsFirst}
use Rattle.snes_commands.specs.Wish.{ordered, asks}
use Rattle.snes_commands.specs.Loads.{free_in, free_or, told_in, ShowsAccepted, EndsInput, EndsInputs}
use Rattle.snes_commands.specs.Said.{IsSaid, Says}
use Rattle.snes_commands.specs.Status.{refusal_of}
use Rattle.snes_commands.specs.Ends.{due_of, are_apart, OnlyTouches, OnlySays, IsNamed, IsFresh, IsMade, IsDone, IsBegun, IsLeft, IsWriteFault, IsAnswered, EndsShort, OnlyCommanded, EndsCall, EndsUsage, EndsWish}
use Rattle.snes_commands.proofs.Lists.{all_map, all_both, first_map, first_both, first_of, first_never, all_at}
use Rattle.snes_commands.proofs.OutputLemmas.{not_said, over_then}

loads_over : (z a : Shown) → OnlyLoads z a → (any : Out) → IsPassedOver z a any
loads_over z a loads any = record {
  written = ap (λ (w : Out → Option (List ℕ)). w any) loads.written;
  named = ap (λ (w : Out → Option (List ℕ)). w any) loads.named;
  unwritten = ap (λ (n : Out → ℕ). n any) loads.unwritten;
  write_faults = ap (λ (f : Out → ℕ). f any) loads.write_faults;
}

pub loads_say : (z a : Shown) → OnlyLoads z a → OnlySays z a
loads_say z a loads any not_say = loads_over z a loads any

module _ (command : Command) (order : Order) (z a : Shown) (loads : OnlyLoads z a) where
  -- inputs were not taken
  pub loads_end : (status : Status) → EndsInputs order.pairs z a command.form.inputs status → EndsShort command order z a status
  loads_end (LoadFault input) h = (h, loads_say z a loads)
  loads_end (Refused cause) h = (h, loads_say z a loads)
  loads_end NoMemory h = loads_say z a loads
  loads_end Ok h = first_never (ShowsAccepted (told_in z order.pairs)) command.form.inputs h
  loads_end Usage h = first_never (ShowsAccepted (told_in z order.pairs)) command.form.inputs h
  loads_end Differs h = first_never (ShowsAccepted (told_in z order.pairs)) command.form.inputs h
  loads_end (WriteFault failed) h = absurd (first_never (ShowsAccepted (told_in z order.pairs)) command.form.inputs h)

  pub only_all : (c : Shown) → OnlyTouches command.form.outputs a c → (command.form.inputs ≡ [] → a.load_faults ≡ z.load_faults) → OnlyCommanded command z c
  only_all c only none = record {
    kept = record {
      held = only.held ∙ loads.held;
      load_faults = λ name. omega (arith, loads.load_faults name, ap (λ (f : List ℕ → ℕ). f name) only.load_faults);
      write_faults = λ any. omega (arith, ap (λ (f : Out → ℕ). f any) loads.write_faults, only.write_faults any);
    };
    loads = λ e. only.load_faults ∙ none e;
    others = λ other k. over_then z a c other (loads_over z a loads other) (only.others other k);
  }

  risen_all : (c : Shown) (o : Out) → HasRisen (a.write_faults o) (c.write_faults o) → HasRisen (z.write_faults o) (c.write_faults o)
  risen_all c o h = subst (λ (f : Out → ℕ). HasRisen (f o) (c.write_faults o)) loads.write_faults h

  module _ (made : IsMade command order z) (b : Shown) (opens : OnlyTouches command.form.outputs a b) where
    -- an output was not created
    pub create_fails : (failed : Out) → HasRisen (a.write_faults failed) (b.write_faults failed) → FirstThat (IsFresh order b) (λ o. o ≡ failed) command.form.outputs
        → AllOf (λ o. IsUntouched a b o ⊎ IsFresh order b o) command.form.outputs → IsWriteFault command order z b failed
    create_fails failed risen place left =
        let begun : (o : Out) → IsFresh order b o → IsBegun command order z b o
        = λ o h. record { named = h.named; first = record { contents = made.makes.contents; line = made.makes.line; makes = made.makes.makes; count = 0; holds = h.empty } } in
        record {
          made = made;
          risen = risen_all b failed risen;
          earlier = first_map (IsFresh order b) (IsBegun command order z b) (λ o. o ≡ failed) (λ o. o ≡ failed) begun (λ o e. e) command.form.outputs place;
          left = all_map (λ o. IsUntouched a b o ⊎ IsFresh order b o) (IsLeft command order z b)
              (λ o k. ⊎_elim (λ u. let over = loads_over z a loads o in inl (record { written = u.written ∙ over.written; named = u.named ∙ over.named; unwritten = u.unwritten ∙ over.unwritten })) (λ n. inr (begun o n)) k)
              command.form.outputs left;
        }

    module _ (created : AllOf (IsFresh order b) command.form.outputs) (c : Shown) (fills : OnlyTouches command.form.outputs b c) (same : c.named ≡ b.named) where
      told_same : told_in b order.pairs ≡ told_in z order.pairs
      told_same = ap {B = Input → Option (List ℕ)} (λ (held : List ℕ → Option (List ℕ)) (input : Input). free_or (free_in order.pairs input) (held (input_name order.pairs input))) (opens.held ∙ loads.held)

      still : (o : Out) → IsFresh order b o → IsNamed order c.named o
      still o h = subst (λ (n : Out → Option (List ℕ)). IsNamed order n o) (sym same) h.named

      -- all outputs were filled
      pub all_done : (line : List ℕ) → HoldsWhole command order (told_in b order.pairs) c.written line → AllOf (λ o. c.unwritten o ≡ 0) command.form.outputs
          → IsDone command order z c line
      all_done line h flushed = record {
        accepted = made.accepted;
        whole = subst (λ (told : Input → Option (List ℕ)). HoldsWhole command order told c.written line) told_same h;
        named = all_map (IsFresh order b) (IsNamed order c.named) still command.form.outputs created;
        flushed = flushed;
      }

      -- an output was not filled
      pub fill_fails : (failed : Out) → AllOf (HoldsFirst command order (told_in b order.pairs) c.written) command.form.outputs
          → IsOneOf command.form.outputs failed → HasRisen (b.write_faults failed) (c.write_faults failed) → IsWriteFault command order z c failed
      fill_fails failed first one risen =
          let begun : AllOf (IsBegun command order z c) command.form.outputs
          = all_both (IsFresh order b) (HoldsFirst command order (told_in b order.pairs) c.written) (IsBegun command order z c)
          (λ o n h. record { named = still o n; first = subst (λ (told : Input → Option (List ℕ)). HoldsFirst command order told c.written o) told_same h })
          command.form.outputs created first in
          record {
            made = made;
            risen = risen_all c failed (risen_since _ _ _ (opens.write_faults failed) risen);
            earlier = first_of (IsBegun command order z c) failed command.form.outputs begun one;
            left = all_map (IsBegun command order z c) (IsLeft command order z c) (λ o k. inr k) command.form.outputs begun;
          }

module _ (command : Command) (order : Order) (before mid after : Shown) (apart : are_apart command.form.outputs ≡ true) (only : OnlyCommanded command before mid) (puts : OnlyPuts mid after out.Say) where
  -- no output of the command is that of the lines
  others : AllOf (λ o. o ≢ out.Say) command.form.outputs
  others = not_said command.form.outputs apart

  over : IsPassedOver before mid out.Say
  over = only.others out.Say others

  named_after : (o : Out) → o ≢ out.Say → IsNamed order mid.named o → IsNamed order after.named o
  named_after o differ h = subst (λ (n : Option (List ℕ)). Holds n (output_name order.pairs o)) (sym (puts.others o differ).named) h

  written_after : (o : Out) (bytes : List ℕ) → o ≢ out.Say → Holds (mid.written o) bytes → Holds (after.written o) bytes
  written_after o bytes differ h = subst (λ (w : Option (List ℕ)). Holds w bytes) (sym (puts.others o differ).written) h

  begun_after : (o : Out) → o ≢ out.Say → IsBegun command order before mid o → IsBegun command order before after o
  begun_after o differ h = record {
    first = record { contents = h.first.contents; line = h.first.line; makes = h.first.makes; count = h.first.count; holds = written_after o (take h.first.count (h.first.contents o)) differ h.first.holds };
    named = named_after o differ h.named;
  }

  done_after : (line : List ℕ) → IsDone command order before mid line → IsDone command order before after line
  done_after line h = record {
    accepted = h.accepted;
    whole = record {
      contents = h.whole.contents;
      makes = h.whole.makes;
      holds = all_both (λ o. o ≢ out.Say) (λ o. Holds (mid.written o) (h.whole.contents o)) (λ o. Holds (after.written o) (h.whole.contents o)) (λ o. written_after o (h.whole.contents o)) command.form.outputs others h.whole.holds;
    };
    named = all_both (λ o. o ≢ out.Say) (IsNamed order mid.named) (IsNamed order after.named) named_after command.form.outputs others h.named;
    flushed = all_both (λ o. o ≢ out.Say) (λ o. mid.unwritten o ≡ 0) (λ o. after.unwritten o ≡ 0) (λ o differ is. (puts.others o differ).unwritten ∙ is) command.form.outputs others h.flushed;
  }

  says_after : OnlySays before mid → OnlySays before after
  says_after h any differ = over_then before mid after any (h any differ) (puts.others any differ)

  short_after : (status : Status) → EndsShort command order before mid status → EndsShort command order before after status
  short_after (LoadFault failed) h = (
    first_map (ShowsAccepted (told_in before order.pairs)) (ShowsAccepted (told_in before order.pairs)) (EndsInput order.pairs before mid (LoadFault failed)) (EndsInput order.pairs before after (LoadFault failed))
        (λ input k. k)
        (λ input k. (k.0, subst (λ (f : List ℕ → ℕ). HasRisen (before.load_faults (input_name order.pairs input)) (f (input_name order.pairs input))) (sym puts.load_faults) k.1))
        command.form.inputs h.0,
    says_after h.1,
  )
  short_after (Refused cause) h = (h.0, says_after h.1)
  short_after (WriteFault failed) h =
      let differ = all_at (λ o. o ≢ out.Say) (IsBegun command order before mid) (λ o. o ≡ failed) (failed ≢ out.Say)
      (λ o d e. subst (λ (k : Out). k ≢ out.Say) e d) command.form.outputs others h.earlier in
      record {
        made = h.made;
        risen = subst (λ (n : ℕ). HasRisen (before.write_faults failed) n) (sym (puts.others failed differ).write_faults) h.risen;
        earlier = first_both (λ o. o ≢ out.Say) (IsBegun command order before mid) (IsBegun command order before after) (λ o. o ≡ failed) begun_after command.form.outputs others h.earlier;
        left = all_both (λ o. o ≢ out.Say) (IsLeft command order before mid) (IsLeft command order before after)
            (λ o d k. ⊎_elim (λ u. inl (record { written = (puts.others o d).written ∙ u.written; named = (puts.others o d).named ∙ u.named; unwritten = (puts.others o d).unwritten ∙ u.unwritten })) (λ b. inr (begun_after o d b)) k)
            command.form.outputs others h.left;
      }
  short_after NoMemory h = says_after h
  short_after Ok h = h
  short_after Usage h = h
  short_after Differs h = h

  -- what was said since the command was done was said since the call began
  since : (line : List ℕ) (due status : Status) → Says mid after line due status → Says before after line due status
  since line due status says =
      ⊎_elim
      (λ h. inl (record { answer = h.answer; whole = subst (λ (w : Option (List ℕ)). Appends w (after.written out.Say) line) over.written h.whole; none_left = h.none_left }))
      (λ h. inr (record {
        answer = h.answer;
        some = subst (λ (w : Option (List ℕ)). AppendsSome w (after.written out.Say) line) over.written h.some;
        risen = subst (λ (n : ℕ). HasRisen n (after.write_faults out.Say)) over.write_faults h.risen;
      }))
      says

  said_since : (line : Option (List ℕ)) → IfSome line (IsSaid mid after) → IfSome line (IsSaid before after)
  said_since None h = tt
  said_since (Some line) h = record {
    some = subst (λ (w : Option (List ℕ)). AppendsSome w (after.written out.Say) line) over.written h.some;
    whole = λ quiet. subst (λ (w : Option (List ℕ)). Appends w (after.written out.Say) line) over.written
        (h.whole (λ risen. quiet (subst (λ (n : ℕ). HasRisen n (after.write_faults out.Say)) over.write_faults risen)));
    none_left = λ quiet. h.none_left (λ risen. quiet (subst (λ (n : ℕ). HasRisen n (after.write_faults out.Say)) over.write_faults risen));
  }

  passed : (any : Out) → AllOf (λ o. o ≢ any) command.form.outputs → (any ≡ out.Say) ⊎ IsPassedOver before after any
  passed out.Say none = inl refl
  passed out.Video none = inr (over_then before mid after out.Video (only.others out.Video none) (puts.others out.Video (λ e. cc)))
  passed out.Sound none = inr (over_then before mid after out.Sound (only.others out.Sound none) (puts.others out.Sound (λ e. cc)))
  passed out.Image none = inr (over_then before mid after out.Image (only.others out.Image none) (puts.others out.Image (λ e. cc)))
  passed out.Sums none = inr (over_then before mid after out.Sums (only.others out.Sums none) (puts.others out.Sums (λ e. cc)))
  passed out.State none = inr (over_then before mid after out.State (only.others out.State none) (puts.others out.State (λ e. cc)))
  passed out.Spc none = inr (over_then before mid after out.Spc (only.others out.Spc none) (puts.others out.Spc (λ e. cc)))

  -- the call ended as the command did
  pub call_ends : (outcome : Result (List ℕ) Status) (status : Status)
      → IfOk outcome (IsDone command order before mid) → IfErr outcome (EndsShort command order before mid)
      → IfOk outcome (λ line. Says mid after line (due_of command line) status) → IfErr outcome (λ due. status ≡ due)
      → IfErr outcome (λ due. IfSome (refusal_of due) (IsSaid mid after))
      → EndsCall command order before after status
  call_ends outcome status done ends says is said = record {
    ends = how outcome done ends says is;
    not_lines = others;
    others = passed;
    loads = λ none. puts.load_faults ∙ only.loads none;
    kept = record {
      held = puts.held ∙ only.kept.held;
      load_faults = λ name. omega (arith, only.kept.load_faults name, ap (λ (f : List ℕ → ℕ). f name) puts.load_faults);
      write_faults = λ any. omega (arith, only.kept.write_faults any, puts.write_faults any);
    };
    unnamed = ap (λ (n : Out → Option (List ℕ)). n out.Say) puts.named ∙ over.named;
    said = what outcome says is said;
  }
    where
      how : (outcome : Result (List ℕ) Status) → IfOk outcome (IsDone command order before mid) → IfErr outcome (EndsShort command order before mid)
          → IfOk outcome (λ line. Says mid after line (due_of command line) status) → IfErr outcome (λ due. status ≡ due)
          → IsAnswered command order before after status ⊎ EndsShort command order before after status
      how (good line) done ends says is = inl (record { line = line; done = done_after line done; says = since line (due_of command line) status says })
      how (Err due) done ends says is = inr (subst (λ (s : Status). EndsShort command order before after s) (sym is) (short_after due ends))

      -- the line of a command that was done is no refusal
      no_refusal : (line : List ℕ) → IfSome (refusal_of (due_of command line)) (IsSaid before after)
      no_refusal line =
          elim (command.differs line) as (λ d. IfSome (refusal_of (if d then Differs else Ok)) (IsSaid before after)) [
            | true ↦ tt
            | false ↦ tt
          ]

      what : (outcome : Result (List ℕ) Status) → IfOk outcome (λ line. Says mid after line (due_of command line) status) → IfErr outcome (λ due. status ≡ due)
          → IfErr outcome (λ due. IfSome (refusal_of due) (IsSaid mid after)) → IfSome (refusal_of status) (IsSaid before after)
      what (good line) says is said =
          let P : Status → Type 0 = λ s. IfSome (refusal_of s) (IsSaid before after) in
          ⊎_elim (λ h. subst P (sym h.answer) (no_refusal line)) (λ h. subst P (sym h.answer) tt) says
      what (Err due) says is said = subst (λ (s : Status). IfSome (refusal_of s) (IsSaid before after)) (sym is) (said_since (refusal_of due) said)

-- words in no form of the command, and words in its form
pub not_read : (command : Command) (words : List (List ℕ)) (before after : Shown) (status : Status) → order_in command.form words ≡ None → EndsUsage before after status
    → EndsWish (asks command words) before after status
not_read command words before after status is h = subst (λ (o : Option Order). EndsWish (ordered command o) before after status) (sym is) h

pub is_read : (command : Command) (words : List (List ℕ)) (order : Order) (before after : Shown) (status : Status) → order_in command.form words ≡ Some order
    → EndsCall command order before after status → EndsWish (asks command words) before after status
is_read command words order before after status is h = subst (λ (o : Option Order). EndsWish (ordered command o) before after status) (sym is) h

pub ruleset reads = (not_read, is_read)
