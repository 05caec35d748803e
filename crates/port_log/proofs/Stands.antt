-- Each call keeps that the log stands for the entries.
use Rattle.std.proofs.Common.{ℕ, ◌<◌, ◌≤◌, List, [], ◌∷◌, ◌++◌, arith}
use Rattle.std.specs.List.{AllByRecursion}
use Rattle.snes_defs.specs.declared.ports.Side.{Side}
use Rattle.snes_defs.specs.declared.ports.Side.TheVariants.{Console, Sound}
use Rattle.port_entries.specs.Entry.{Entry, WriteAt, ClearAt, CarriesByte, CarryBytes}
use Rattle.port_entries.specs.Window.{IsSettled}
use Rattle.port_entries.proofs.Seen.{settled_later}
use Rattle.port_log.specs.declared.written.Written.{Written}
use Rattle.port_log.specs.Kept.{LogValue, clock_of, other_clock, published, with_clear, with_write}
use Rattle.port_log.specs.Held.{IsKept}
use Rattle.port_log.specs.Entries.{Entries, made_by, with_entry, WritesRiseBelow, IsWrittenAfter, IsSettledClear, AnswersBy, StandsFor}
use Rattle.port_log.proofs.ReadsAfter.{Reads, reads-published, reads-own-write, reads-other-clear, reads-other-write, reads-own-clear}

-- the stamps of the writes stay below a later clock
rise-from : (clock next : ℕ) (es : List Entry) → clock ≤ next → WritesRiseBelow clock es
    → WritesRiseBelow next es
rise-from clock next [] h r = tt
rise-from clock next (WriteAt at port byte ∷ es) h r =
    (omega (arith, r.0), r.1, rise-from clock next es h r.2)
rise-from clock next (ClearAt at mask ∷ es) h r = rise-from clock next es h r

after-append : (at : ℕ) (es : List Entry) (e : Entry) → AllByRecursion (IsWrittenAfter at) es
    → IsWrittenAfter at e → AllByRecursion (IsWrittenAfter at) (es ++ e ∷ [])
after-append at [] e h k = (k, tt)
after-append at (x ∷ es) e h k = (h.0, after-append at es e h.1 k)

rise-clear : (clock : ℕ) (es : List Entry) (at mask : ℕ) → WritesRiseBelow clock es
    → WritesRiseBelow clock (es ++ ClearAt at mask ∷ [])
rise-clear clock [] at mask r = tt
rise-clear clock (WriteAt t port byte ∷ es) at mask r =
    (r.0, after-append t es (ClearAt at mask) r.1 tt, rise-clear clock es at mask r.2)
rise-clear clock (ClearAt t m ∷ es) at mask r = rise-clear clock es at mask r

rise-write : (clock next : ℕ) (es : List Entry) (at port byte : ℕ) → clock ≤ at → at < next
    → WritesRiseBelow clock es → WritesRiseBelow next (es ++ WriteAt at port byte ∷ [])
rise-write clock next [] at port byte h k r = (k, tt, tt)
rise-write clock next (WriteAt t q v ∷ es) at port byte h k r = (
  omega (arith, r.0),
  after-append t es (WriteAt at port byte) r.1 (omega (arith, r.0)),
  rise-write clock next es at port byte h k r.2,
)
rise-write clock next (ClearAt t m ∷ es) at port byte h k r = rise-write clock next es at port byte h k r

-- what is settled stays so
clears-from : (side : Side) (other next : ℕ) (es : List Entry) → other ≤ next
    → AllByRecursion (IsSettledClear side other) es → AllByRecursion (IsSettledClear side next) es
clears-from side other next [] h k = tt
clears-from side other next (WriteAt at port byte ∷ es) h k = (tt, clears-from side other next es h k.1)
clears-from side other next (ClearAt at mask ∷ es) h k =
    (settled_later side at other next k.0 h, clears-from side other next es h k.1)

clears-append : (side : Side) (other : ℕ) (es : List Entry) (e : Entry)
    → AllByRecursion (IsSettledClear side other) es → IsSettledClear side other e
    → AllByRecursion (IsSettledClear side other) (es ++ e ∷ [])
clears-append side other [] e h k = (k, tt)
clears-append side other (x ∷ es) e h k = (h.0, clears-append side other es e h.1 k)

bytes-append : (es : List Entry) (e : Entry) → CarryBytes es → CarriesByte e → CarryBytes (es ++ e ∷ [])
bytes-append [] e h k = (k, tt)
bytes-append (x ∷ es) e h k = (h.0, bytes-append es e h.1 k)

-- the console's part of the relation, and the sound side's
abbrev ConsoleReads : LogValue → Entries → Type 0
ConsoleReads log entries = Reads Console log.console entries.console entries.sound

abbrev SoundReads : LogValue → Entries → Type 0
SoundReads log entries = Reads Sound log.sound entries.sound entries.console

console-reads : (log : LogValue) (entries : Entries) → StandsFor log entries → ConsoleReads log entries
console-reads log entries s = record {
  now = s.answers Console;
  once_cleared = s.answers_after_clear Console;
}

sound-reads : (log : LogValue) (entries : Entries) → StandsFor log entries → SoundReads log entries
sound-reads log entries s = record {
  now = s.answers Sound;
  once_cleared = s.answers_after_clear Sound;
}

-- and back
module _ (log : LogValue) (entries : Entries) (c : ConsoleReads log entries) (s : SoundReads log entries) where
  answers-by : (side : Side) → AnswersBy log (clock_of side log) side entries
  answers-by Console = c.now
  answers-by Sound = s.now

  answers-after : (side : Side) (clear_at mask : ℕ) → clock_of side log ≤ clear_at
      → AnswersBy (with_clear side clear_at mask log) (clock_of side log) side (with_entry side (ClearAt clear_at mask) entries)
  answers-after Console = c.once_cleared
  answers-after Sound = s.once_cleared

by-sides : (P : Side → Type 0) → P Console → P Sound → (side : Side) → P side
by-sides P c s Console = c
by-sides P c s Sound = s

stands-by : (log : LogValue) (entries : Entries)
    → WritesRiseBelow log.console.clock entries.console
    → WritesRiseBelow log.sound.clock entries.sound
    → CarryBytes entries.console → CarryBytes entries.sound
    → AllByRecursion (IsSettledClear Console log.sound.clock) entries.console
    → AllByRecursion (IsSettledClear Sound log.console.clock) entries.sound
    → ConsoleReads log entries → SoundReads log entries → StandsFor log entries
stands-by log entries rise_c rise_s bytes_c bytes_s settled_c settled_s c s = record {
  rises = by-sides (λ x. WritesRiseBelow (clock_of x log) (made_by x entries)) rise_c rise_s;
  bytes = by-sides (λ x. CarryBytes (made_by x entries)) bytes_c bytes_s;
  settled = by-sides
      (λ x. AllByRecursion (IsSettledClear x (other_clock x log)) (made_by x entries)) settled_c settled_s;
  answers = answers-by log entries c s;
  answers_after_clear = answers-after log entries c s;
}

-- a side publishes a clock
pub stands-published : (side : Side) (log : LogValue) (entries : Entries) (clock : ℕ) → IsKept log
    → clock_of side log ≤ clock → StandsFor log entries → StandsFor (published side clock log) entries
stands-published Console log entries clock kept h s =
    stands-by (published Console clock log) entries
    (rise-from log.console.clock clock entries.console h (s.rises Console))
    (s.rises Sound) (s.bytes Console) (s.bytes Sound) (s.settled Console)
    (clears-from Sound log.console.clock clock entries.sound h (s.settled Sound))
    (reads-published (console-reads log entries s) clock kept.console.latches kept.console.ports kept.console.to_ports h)
    (sound-reads log entries s)
stands-published Sound log entries clock kept h s =
    stands-by (published Sound clock log) entries (s.rises Console)
    (rise-from log.sound.clock clock entries.sound h (s.rises Sound))
    (s.bytes Console) (s.bytes Sound)
    (clears-from Console log.sound.clock clock entries.console h (s.settled Console))
    (s.settled Sound)
    (console-reads log entries s)
    (reads-published (sound-reads log entries s) clock kept.sound.latches kept.sound.ports kept.sound.to_ports h)

-- a side clears some of its ports at a stamp that the other's clock settles
pub stands-cleared : (side : Side) (log : LogValue) (entries : Entries) (at mask : ℕ) → IsKept log
    → clock_of side log ≤ at → IsSettled side at (other_clock side log) → StandsFor log entries
    → StandsFor (with_clear side at mask log) (with_entry side (ClearAt at mask) entries)
stands-cleared Console log entries at mask kept h settled s =
    stands-by (with_clear Console at mask log) (with_entry Console (ClearAt at mask) entries)
    (rise-clear log.console.clock entries.console at mask (s.rises Console))
    (s.rises Sound)
    (bytes-append entries.console (ClearAt at mask) (s.bytes Console) tt)
    (s.bytes Sound)
    (clears-append Console log.sound.clock entries.console (ClearAt at mask) (s.settled Console) settled)
    (s.settled Sound)
    (reads-own-clear (console-reads log entries s) at mask _ _ kept.console h)
    (reads-other-clear (sound-reads log entries s) at mask)
stands-cleared Sound log entries at mask kept h settled s =
    stands-by (with_clear Sound at mask log) (with_entry Sound (ClearAt at mask) entries)
    (s.rises Console)
    (rise-clear log.sound.clock entries.sound at mask (s.rises Sound))
    (s.bytes Console)
    (bytes-append entries.sound (ClearAt at mask) (s.bytes Sound) tt)
    (s.settled Console)
    (clears-append Sound log.console.clock entries.sound (ClearAt at mask) (s.settled Sound) settled)
    (reads-other-clear (console-reads log entries s) at mask)
    (reads-own-clear (sound-reads log entries s) at mask _ _ kept.sound h)

-- a side writes a byte and publishes a clock
pub stands-written : (side : Side) (log : LogValue) (entries : Entries) (w : Written) (next : ℕ)
    → IsKept log → clock_of side log ≤ w.at → w.at < next → w.port < 4 → w.byte < 256
    → StandsFor log entries
    → StandsFor (with_write side w (published side next log)) (with_entry side (WriteAt w.at w.port w.byte) entries)
stands-written Console log entries w next kept h k port byte s =
    let rises : log.console.clock ≤ next = omega arith in
    let e : Entry = WriteAt w.at w.port w.byte in
    stands-by (with_write Console w (published Console next log)) (with_entry Console e entries)
    (rise-write log.console.clock next entries.console w.at w.port w.byte h k (s.rises Console))
    (s.rises Sound)
    (bytes-append entries.console e (s.bytes Console) byte)
    (s.bytes Sound)
    (clears-append Console log.sound.clock entries.console e (s.settled Console) tt)
    (clears-from Sound log.console.clock next entries.sound rises (s.settled Sound))
    (reads-own-write
    (reads-published (console-reads log entries s) next kept.console.latches kept.console.ports kept.console.to_ports rises)
    w.at w.port w.byte)
    (reads-other-write _ log.console.clock w (sound-reads log entries s) kept.sound port (s.settled Sound) h)
stands-written Sound log entries w next kept h k port byte s =
    let rises : log.sound.clock ≤ next = omega arith in
    let e : Entry = WriteAt w.at w.port w.byte in
    stands-by (with_write Sound w (published Sound next log)) (with_entry Sound e entries)
    (s.rises Console)
    (rise-write log.sound.clock next entries.sound w.at w.port w.byte h k (s.rises Sound))
    (s.bytes Console)
    (bytes-append entries.sound e (s.bytes Sound) byte)
    (clears-from Console log.sound.clock next entries.console rises (s.settled Console))
    (clears-append Sound log.console.clock entries.sound e (s.settled Sound) tt)
    (reads-other-write _ log.sound.clock w (console-reads log entries s) kept.console port (s.settled Console) h)
    (reads-own-write
    (reads-published (sound-reads log entries s) next kept.sound.latches kept.sound.ports kept.sound.to_ports rises)
    w.at w.port w.byte)
