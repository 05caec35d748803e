-- Runs of whole instructions: none, one more, and what they are to the processor of the code.
use Rattle.std.proofs.Common.{◌≡◌, ℕ, ◌-◌, false, Some, refl, sym, ap, subst, ◌∙◌, arith, add-zero}
use Rattle.cpu_tables.specs.declared.regs.Regs.{Regs}
use Rattle.cpu_modes.specs.Plan.{Plan, fetches, reads, writes, idles, waits, stops, ends, finished}
use Rattle.cpu_modes.specs.Remaining.{remaining}
use Rattle.cpu_modes.specs.declared.micro.Micro.{Micro}
use Rattle.cpu65816.specs.Instruction.{CpuState, left_of}
use Rattle.cpu65816.specs.Stands.{Stands}
use Rattle.cpu65816.specs.declared.processor.Cpu.{Cpu}
use Rattle.io_math.specs.Registers.{nmi_level}
use Rattle.beam.specs.Places.{clocks_left}
use Rattle.console_bus.specs.BusState.{BusState}
use Rattle.whole_instructions.specs.Passes.{HasLeft, Passes}
use Rattle.whole_instructions.specs.Fetching.{IsMade}
use Rattle.whole_instructions.specs.Runs.{IsRun, StandsBefore, ComesTo, GoesWhole}
use Rattle.whole_instructions.proofs.Passes.{passes_none, passes_then}

pub no_run : (r : Regs) (bus : BusState) → IsRun r r bus bus
no_run r bus = λ begun. record { last = begun; passes = passes_none begun (ends r) bus }

-- where nothing was made
pub run_stays : (r r' r'' : Regs) (bus bus' bus'' : BusState) → IsRun r r' bus bus' → r'' ≡ r' → bus'' ≡ bus' → IsRun r r'' bus bus''
run_stays r r' r'' bus bus' bus'' h e f = rw (e, f) h

pub run_on : (r r' r'' : Regs) (bus bus' bus'' : BusState) → IsRun r r' bus bus' → IsMade r' r'' bus' bus'' → IsRun r r'' bus bus''
run_on r r' r'' bus bus' bus'' h made = λ begun.
    let first = h begun in
    record { last = r'; passes = passes_then begun first.last r' (ends r) (ends r') (ends r'') bus bus' bus'' first.passes (made first.last) }

ended_is : (p : Plan) (r : Regs) → finished false p ≡ Some r → p ≡ ends r
ended_is (fetches at more) r h = absurd (cc)
ended_is (reads at more) r h = absurd (cc)
ended_is (writes at byte more) r h = absurd (cc)
ended_is (idles more) r h = absurd (cc)
ended_is (waits q) r h = absurd (cc)
ended_is stops r h = absurd (cc)
ended_is (ends q) r h =
    let same : q ≡ r = cc in
    ap ends same

pub goes_nowhere : (cpu : Cpu) (bus : BusState) → GoesWhole cpu cpu bus bus
goes_nowhere cpu bus = record {
  left = omega arith;
  calm = λ h. h;
  come = λ w at calm wired. (
      let none : 0 ≡ clocks_left bus.beam - clocks_left bus.beam = omega arith in
      let P : ℕ → Type 0 = λ n. ComesTo cpu bus w n in
      subst P none (record { steps = 0; to = w; run = refl; at = at; wired = wired; clock = sym (add-zero w.clock) }));
}

-- a run of the registers is one of the processor that takes them up
pub goes_whole : (cpu cpu' : Cpu) (r : Regs) (bus bus' : BusState) → finished false (remaining cpu.micro) ≡ Some cpu.micro.here
    → cpu.kept ≡ false → cpu.irq_level ≡ false → IsRun cpu.micro.here r bus bus'
    → ((s : CpuState) → left_of s ≡ ends r → s.kept ≡ cpu.kept → s.nmi_level ≡ cpu.nmi_level → s.irq_level ≡ cpu.irq_level → Stands cpu' s)
    → GoesWhole cpu cpu' bus bus'
goes_whole cpu cpu' r bus bus' ended kept irq run stands =
    let shape = run cpu.micro.start in
    record {
      left = shape.passes.left;
      calm = shape.passes.calm;
      come = λ w at calm wired. (
          let s = w.processor in
          let p = at.processor in
          let here : HasLeft s.start (ends cpu.micro.here) bus w = record {
            left = sym p.left ∙ ended_is (remaining cpu.micro) cpu.micro.here ended;
            start = refl;
            kept = sym p.kept ∙ kept;
            irq = sym p.irq_level ∙ irq;
            nmi_given = sym p.nmi_level ∙ wired.nmi;
            irq_given = sym p.irq_level ∙ wired.irq;
            rest = at.rest;
          } in
          let gone = (run s.start).passes.come w here calm in
          let t = gone.to.processor in
          let nmi_stays : t.nmi_level ≡ cpu.nmi_level = gone.at.nmi_given ∙ (ap nmi_level (run s.start).passes.io ∙ sym wired.nmi) in
          let st = stands t gone.at.left (gone.at.kept ∙ sym kept) nmi_stays (gone.at.irq ∙ sym irq) in
          record {
            steps = gone.steps;
            to = gone.to;
            run = gone.run;
            at = record { processor = st; rest = gone.at.rest };
            wired = record { nmi = st.nmi_level ∙ gone.at.nmi_given; irq = st.irq_level ∙ gone.at.irq_given };
            clock = gone.clock;
          });
    }

-- a run of the registers, and then the accesses of the next instruction before its data
pub goes_before : (cpu cpu' : Cpu) (r : Regs) (micro : Micro) (bus mid bus' : BusState) → finished false (remaining cpu.micro) ≡ Some cpu.micro.here
    → cpu.kept ≡ false → cpu.irq_level ≡ false → IsRun cpu.micro.here r bus mid → StandsBefore r micro mid bus'
    → ((s : CpuState) → left_of s ≡ remaining micro → s.start ≡ micro.start → s.kept ≡ cpu.kept → s.nmi_level ≡ cpu.nmi_level
    → s.irq_level ≡ cpu.irq_level → Stands cpu' s)
    → GoesWhole cpu cpu' bus bus'
goes_before cpu cpu' r micro bus mid bus' ended kept irq run before stands =
    let all : (begun : Regs) → Passes begun r (ends cpu.micro.here) (remaining micro) bus bus' = λ begun. (
    let first = run begun in
    passes_then begun first.last r (ends cpu.micro.here) (ends r) (remaining micro) bus mid bus' first.passes (before.passes first.last)) in
    let shape = all cpu.micro.start in
    record {
      left = shape.left;
      calm = shape.calm;
      come = λ w at calm wired. (
          let s = w.processor in
          let p = at.processor in
          let here : HasLeft s.start (ends cpu.micro.here) bus w = record {
            left = sym p.left ∙ ended_is (remaining cpu.micro) cpu.micro.here ended;
            start = refl;
            kept = sym p.kept ∙ kept;
            irq = sym p.irq_level ∙ irq;
            nmi_given = sym p.nmi_level ∙ wired.nmi;
            irq_given = sym p.irq_level ∙ wired.irq;
            rest = at.rest;
          } in
          let gone = (all s.start).come w here calm in
          let t = gone.to.processor in
          let nmi_stays : t.nmi_level ≡ cpu.nmi_level = gone.at.nmi_given ∙ (ap nmi_level (all s.start).io ∙ sym wired.nmi) in
          let st = stands t gone.at.left (gone.at.start ∙ sym before.start) (gone.at.kept ∙ sym kept) nmi_stays (gone.at.irq ∙ sym irq) in
          record {
            steps = gone.steps;
            to = gone.to;
            run = gone.run;
            at = record { processor = st; rest = gone.at.rest };
            wired = record { nmi = st.nmi_level ∙ gone.at.nmi_given; irq = st.irq_level ∙ gone.at.irq_given };
            clock = gone.clock;
          });
    }
