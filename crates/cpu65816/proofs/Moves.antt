use Rattle.std.proofs.Common.{◌≡◌, ℕ, Bool, true, false, not, if◌then◌else◌, List, [], ◌∷◌, ◌++◌, ◌||◌, Option, Some, None, unwrap_or, refl, sym, ap, ◌∙◌, subst}
use Rattle.status_bits.specs.StatusBits.{flag}
use Rattle.cpu_tables.specs.declared.access.Access.{Access}
use Rattle.cpu_tables.specs.declared.access.Access.TheVariants.{Fetch, Read, Write, Inner}
use Rattle.cpu_tables.specs.declared.flags.TheConstants.{IRQ_DISABLE}
use Rattle.cpu_tables.specs.declared.regs.Regs.{Regs}
use Rattle.cpu_modes.specs.Plan.{Plan, fetches, reads, writes, idles, waits, stops, ends, after, comes, finished, first_access, plan_after, gets_byte, is_inner, is_write}
use Rattle.cpu_modes.specs.Remaining.{onward, remaining}
use Rattle.cpu_modes.specs.Uses.{use_of}
use Rattle.cpu65816.specs.Instruction.{Beginning, opcode, irq, CpuState, plan_of, left_by, left_of, end_of, ahead, ahead_by, registers_by, moved_by, moved_on, chosen, kept_after}
use Rattle.cpu65816.specs.Stands.{Stands, TakesUp, access_of, kept_by}
use Rattle.cpu65816.specs.declared.processor.Cpu.{Cpu}

-- one more access, after all those so far
pub plan_after-append : (bytes : List ℕ) (plan : Plan) (byte : ℕ) → plan_after plan (bytes ++ byte ∷ []) ≡ after (plan_after plan bytes) byte
plan_after-append [] plan byte = refl
plan_after-append (b ∷ bs) plan byte = plan_after-append bs (after plan b) byte

pub left_by-append : (begun : Option Beginning) (r : Regs) (got : List ℕ) (byte : ℕ) → left_by begun r (got ++ byte ∷ []) ≡ after (left_by begun r got) byte
left_by-append None r got byte = refl
left_by-append (Some b) r got byte = plan_after-append got (plan_of b r) byte

-- one access further, whether the instruction has ended before it or not
-- an instruction that has not ended, whatever the lines are
pub still_running : (awake : Bool) (p : Plan) → finished awake p ≡ None → finished false p ≡ None
still_running awake (fetches at more) h = refl
still_running awake (reads at more) h = refl
still_running awake (writes at byte more) h = refl
still_running awake (idles more) h = refl
still_running awake (waits r) h = refl
still_running awake stops h = refl
still_running awake (ends r) h = h

pub Stands-moved_by : (f : Option Regs) (old new : Cpu) (s : CpuState) (byte : ℕ) → Stands old s
    → (f ≡ None → finished false (remaining old.micro) ≡ None)
    → remaining new.micro ≡ after (ahead_by f old.kept old.irq_level (remaining old.micro)) byte
    → new.micro.start ≡ registers_by f old.micro.start → new.kept ≡ kept_by f old.kept old.irq_level
    → new.nmi_level ≡ old.nmi_level → new.irq_level ≡ old.irq_level → Stands new (moved_by f byte s)
Stands-moved_by None old new s byte h running left start kept nmi_level irq_level =
    record {
      left = left ∙ (ap (λ p. after p byte) h.left ∙ sym (left_by-append s.begun s.start s.got byte));
      start = λ on. start ∙ h.start (running refl);
      kept = kept ∙ h.kept;
      nmi_level = nmi_level ∙ h.nmi_level;
      irq_level = irq_level ∙ h.irq_level;
    }
Stands-moved_by (Some r) old new s byte h running left start kept nmi_level irq_level =
    let same : chosen old.kept old.irq_level r ≡ chosen s.kept s.irq_level r = ap (λ k. chosen k old.irq_level r) h.kept ∙ ap (λ i. chosen s.kept i r) h.irq_level in
    record {
      left = left ∙ ap (λ b. after (plan_of b r) byte) same;
      start = λ on. start;
      kept = kept ∙ (ap (λ b. kept_after b old.kept) same ∙ ap (λ k. kept_after (chosen s.kept s.irq_level r) k) h.kept);
      nmi_level = nmi_level ∙ h.nmi_level;
      irq_level = irq_level ∙ h.irq_level;
    }

-- WHERE THE NEXT ACCESS IS NO INTERNAL CYCLE, no interrupt begins: the instruction in hand goes on, or the next opcode is fetched.

-- what a choice between an interrupt and the next opcode comes to
pub opcode_by_flag : (is_disabled : Bool) (r : Regs) → is_inner (first_access (plan_of (if not is_disabled then irq else opcode) r)) ≡ false → (if not is_disabled then irq else opcode) ≡ opcode
unfolding use_of
opcode_by_flag true r h = refl
opcode_by_flag false r h = let e : true ≡ false = h in cc

pub chosen_opcode : (kept irq_level : Bool) (r : Regs) → is_inner (first_access (plan_of (chosen kept irq_level r) r)) ≡ false → chosen kept irq_level r ≡ opcode
unfolding use_of
chosen_opcode true irq_level r h = let e : true ≡ false = h in cc
chosen_opcode false false r h = refl
chosen_opcode false true r h = opcode_by_flag (flag r.p IRQ_DISABLE) r h

-- what is next is what the code goes on with, and the lines stay as they are
pub record GoesOn (kept irq_level : Bool) (p : Plan) : Type 0 where
  pub left : onward p ≡ ahead kept irq_level p
  pub start : (r : Regs) → unwrap_or (finished true p) r ≡ registers_by (end_of kept irq_level p) r
  pub edge : kept_by (end_of kept irq_level p) kept irq_level ≡ kept

pub GoesOn-at_end : (kept irq_level : Bool) (r : Regs) → is_inner (first_access (plan_of (chosen kept irq_level r) r)) ≡ false → GoesOn kept irq_level (ends r)
GoesOn-at_end kept irq_level r h =
    let e : chosen kept irq_level r ≡ opcode = chosen_opcode kept irq_level r h in
    record {
      left = ap (λ b. plan_of b r) (sym e);
      start = λ _. refl;
      edge = ap (λ b. kept_after b kept) e;
    }

pub GoesOn-woken : (kept irq_level : Bool) (r : Regs) → is_inner (first_access (ahead kept irq_level (waits r))) ≡ false → GoesOn kept irq_level (waits r)
GoesOn-woken true irq_level r h =
    let e : chosen true irq_level r ≡ opcode = chosen_opcode true irq_level r h in
    record {
      left = ap (λ b. plan_of b r) (sym e);
      start = λ _. refl;
      edge = ap (λ b. kept_after b true) e;
    }
GoesOn-woken false true r h =
    let e : chosen false true r ≡ opcode = chosen_opcode false true r h in
    record {
      left = ap (λ b. plan_of b r) (sym e);
      start = λ _. refl;
      edge = ap (λ b. kept_after b false) e;
    }
GoesOn-woken false false r h = let e : true ≡ false = h in cc

pub goes_on : (kept irq_level : Bool) (p : Plan) → is_inner (first_access (ahead kept irq_level p)) ≡ false → GoesOn kept irq_level p
goes_on kept irq_level (fetches at more) h = record { left = refl; start = λ _. refl; edge = refl }
goes_on kept irq_level (reads at more) h = record { left = refl; start = λ _. refl; edge = refl }
goes_on kept irq_level (writes at byte more) h = record { left = refl; start = λ _. refl; edge = refl }
goes_on kept irq_level (idles more) h = record { left = refl; start = λ _. refl; edge = refl }
goes_on kept irq_level (waits r) h = GoesOn-woken kept irq_level r h
goes_on kept irq_level stops h = record { left = refl; start = λ _. refl; edge = refl }
goes_on kept irq_level (ends r) h = GoesOn-at_end kept irq_level r h

-- an access that gets a byte or is a write is no internal cycle
pub gets_byte-inner : (a : Access) → gets_byte a ≡ true → is_inner a ≡ false
gets_byte-inner (Fetch at) h = refl
gets_byte-inner (Read at) h = refl
gets_byte-inner (Write at byte) h = refl
gets_byte-inner Inner h = let e : false ≡ true = h in cc

pub is_write-inner : (a : Access) → is_write a ≡ true → is_inner a ≡ false
is_write-inner (Fetch at) h = refl
is_write-inner (Read at) h = refl
is_write-inner (Write at byte) h = refl
is_write-inner Inner h = let e : false ≡ true = h in cc

-- what the code goes on with makes the same access
pub onward-gets_byte : (kept irq_level : Bool) (p : Plan) → gets_byte (first_access (ahead kept irq_level p)) ≡ true → gets_byte (first_access (onward p)) ≡ true
onward-gets_byte kept irq_level p h =
    ap (λ q. gets_byte (first_access q)) (goes_on kept irq_level p (gets_byte-inner (first_access (ahead kept irq_level p)) h)).left ∙ h

pub onward-is_write : (kept irq_level : Bool) (p : Plan) → is_write (first_access (ahead kept irq_level p)) ≡ true → is_write (first_access (onward p)) ≡ true
onward-is_write kept irq_level p h =
    ap (λ q. is_write (first_access q)) (goes_on kept irq_level p (is_write-inner (first_access (ahead kept irq_level p)) h)).left ∙ h

-- what a processor stands for moves on with it, at any step that is known by what the last instruction came to
pub Stands-by_end : (old new : Cpu) (s : CpuState) (byte : ℕ) → Stands old s → remaining new.micro ≡ after (ahead old.kept old.irq_level (remaining old.micro)) byte → new.micro.start ≡ registers_by (end_of old.kept old.irq_level (remaining old.micro)) old.micro.start → new.kept ≡ kept_by (end_of old.kept old.irq_level (remaining old.micro)) old.kept old.irq_level → new.nmi_level ≡ old.nmi_level → new.irq_level ≡ old.irq_level → Stands new (moved_on s byte)
Stands-by_end old new s byte h left start kept nmi_level irq_level =
    let same : end_of old.kept old.irq_level (remaining old.micro) ≡ end_of s.kept s.irq_level (left_of s) =
    ap (λ k. end_of k old.irq_level (remaining old.micro)) h.kept ∙ (ap (λ i. end_of s.kept i (remaining old.micro)) h.irq_level ∙ ap (λ p. end_of s.kept s.irq_level p) h.left) in
    subst (λ (f : Option Regs). Stands new (moved_by f byte s)) same
    (Stands-moved_by (end_of old.kept old.irq_level (remaining old.micro)) old new s byte h (still_running (old.kept || old.irq_level) (remaining old.micro)) left start kept nmi_level irq_level)

-- a fetch, a read or a write
pub Stands-after_access : (old new : Cpu) (s : CpuState) (byte : ℕ) → is_inner (access_of old) ≡ false → remaining new.micro ≡ after (onward (remaining old.micro)) byte → new.micro.start ≡ unwrap_or (finished true (remaining old.micro)) old.micro.start → new.kept ≡ old.kept → new.nmi_level ≡ old.nmi_level → new.irq_level ≡ old.irq_level → Stands old s → Stands new (moved_on s byte)
Stands-after_access old new s byte n left start kept nmi_level irq_level h =
    let g : GoesOn old.kept old.irq_level (remaining old.micro) = goes_on old.kept old.irq_level (remaining old.micro) n in
    Stands-by_end old new s byte h (left ∙ ap (λ p. after p byte) g.left) (start ∙ g.start old.micro.start) (kept ∙ sym g.edge) nmi_level irq_level

-- an internal cycle: an interrupt may have been taken up before it
pub Stands-after_cycle : (old mid new : Cpu) (s : CpuState) → TakesUp old mid → remaining new.micro ≡ after (remaining mid.micro) 0 → new.micro.start ≡ mid.micro.start → new.kept ≡ mid.kept → new.nmi_level ≡ mid.nmi_level → new.irq_level ≡ mid.irq_level → Stands old s → Stands new (moved_on s 0)
Stands-after_cycle old mid new s a left start kept nmi_level irq_level h =
    Stands-by_end old new s 0 h (left ∙ ap (λ p. after p 0) a.left) (start ∙ a.start) (kept ∙ a.kept) (nmi_level ∙ a.nmi_level) (irq_level ∙ a.irq_level)

-- an instruction that goes on is in hand already
pub goes_on-taken_up : (cpu : Cpu) → end_of cpu.kept cpu.irq_level (remaining cpu.micro) ≡ None → TakesUp cpu cpu
goes_on-taken_up cpu e = record {
  left = ap (λ f. ahead_by f cpu.kept cpu.irq_level (remaining cpu.micro)) (sym e);
  start = ap (λ f. registers_by f cpu.micro.start) (sym e);
  kept = ap (λ f. kept_by f cpu.kept cpu.irq_level) (sym e);
  nmi_level = refl;
  irq_level = refl;
}

-- THE NEXT ACCESS IS KEPT

-- in the middle of an instruction the lines decide nothing
pub comes-ahead : (kept irq_level : Bool) (p : Plan) (a : Access) → comes p ≡ Some a → a ≡ first_access (ahead kept irq_level p)
comes-ahead kept irq_level (fetches at more) a h = cc
comes-ahead kept irq_level (reads at more) a h = cc
comes-ahead kept irq_level (writes at byte more) a h = cc
comes-ahead kept irq_level (idles more) a h = cc
comes-ahead kept irq_level (waits r) a h = cc
comes-ahead kept irq_level stops a h = cc
comes-ahead kept irq_level (ends r) a h = cc

pub ahead-comes : (kept irq_level : Bool) (p : Plan) (a : Access) → finished true p ≡ None → a ≡ first_access (ahead kept irq_level p) → comes p ≡ Some a
ahead-comes kept irq_level (fetches at more) a n h = ap (λ x. Some x) (sym h)
ahead-comes kept irq_level (reads at more) a n h = ap (λ x. Some x) (sym h)
ahead-comes kept irq_level (writes at byte more) a n h = ap (λ x. Some x) (sym h)
ahead-comes kept irq_level (idles more) a n h = ap (λ x. Some x) (sym h)
ahead-comes kept irq_level (waits r) a n h = cc
ahead-comes kept irq_level stops a n h = ap (λ x. Some x) (sym h)
ahead-comes kept irq_level (ends r) a n h = cc
