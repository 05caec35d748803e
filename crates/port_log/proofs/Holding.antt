-- What every log holds of itself, after each call.
use Rattle.std.proofs.Common.{◌≡◌, ℕ, ◌+◌, ◌*◌, ◌<◌, ◌≤◌, Bool, true, false, List, [], ◌∷◌, ◌++◌, length, refl, ◌∙◌, arith, Some, if◌then◌else◌, length-append}
use Rattle.std.proofs.lemmas.Bool.{ltb-false, leb-false}
use Rattle.std.specs.List.{AllByRecursion}
use Rattle.snes_defs.specs.declared.ports.Side.{Side}
use Rattle.snes_defs.specs.declared.ports.Side.TheVariants.{Console, Sound}
use Rattle.snes_defs.specs.declared.region.Region.{Region}
use Rattle.snes_defs.specs.declared.region.Region.TheVariants.{Ntsc, Pal}
use Rattle.clock_ratio.specs.Stamp.{least_of, window_of}
use Rattle.port_entries.specs.LastValue.{sees}
use Rattle.port_entries.specs.Window.{IsSettled, IsWithinWindow}
use Rattle.port_entries.proofs.Seen.{settled_later}
use Rattle.port_log.specs.declared.written.Written.{Written}
use Rattle.port_log.specs.Kept.{SideValue, LogValue, clock_of, other_clock, greatest_clear, latched, waiting_at, after_clear, after_clock, after_write, published, with_clear, with_write}
use Rattle.port_log.specs.Held.{AreSpaced, AreInOrder, HasPort, AreUnseen, IsHeld, IsKept}
use Rattle.port_log.proofs.Clears.{greatest-within, length-cleared_after, length-latches_after}
use Rattle.port_log.proofs.Moving.{length-latched, length-latches_at, to-ports-append}

-- spaced writes are in order
in-order : (least clock : ℕ) (ws : List Written) → AreSpaced least clock ws → AreInOrder ws
in-order least clock [] h = tt
in-order least clock (w ∷ []) h = (omega arith, tt)
in-order least clock (w ∷ x ∷ ws) h = (omega (arith, h.0), in-order least clock (x ∷ ws) h.1)

pub held-in-order : {side : Side} {least other : ℕ} {kept : SideValue} → IsHeld side least other kept → AreInOrder kept.waiting
held-in-order {side} {least} {other} {kept} held = in-order least other kept.waiting held.spaced

-- the writer's clock rises
spaced-later : (least clock next : ℕ) (ws : List Written) → clock ≤ next → AreSpaced least clock ws → AreSpaced least next ws
spaced-later least clock next [] h s = tt
spaced-later least clock next (w ∷ []) h s = (omega (arith, s.0), tt)
spaced-later least clock next (w ∷ x ∷ ws) h s = (s.0, spaced-later least clock next (x ∷ ws) h s.1)

-- one more write
spaced-append : (least clock next : ℕ) (ws : List Written) (w : Written) → clock ≤ w.at
    → w.at + least ≤ next → AreSpaced least clock ws → AreSpaced least next (ws ++ w ∷ [])
spaced-append least clock next [] w h k s = (k, tt)
spaced-append least clock next (x ∷ []) w h k s = (omega (arith, s.0), (k, tt))
spaced-append least clock next (x ∷ y ∷ ws) w h k s = (s.0, spaced-append least clock next (y ∷ ws) w h k s.1)

-- so many spaced writes take so many rises
spaced-many : (least clock : ℕ) (w : Written) (ws : List Written) → AreSpaced least clock (w ∷ ws)
    → w.at + least * length (w ∷ ws) ≤ clock
spaced-many least clock w [] h = grind (arith, h.0)
spaced-many least clock w (x ∷ ws) h = grind (arith, h.0, spaced-many least clock x ws h.1)

-- what still waits at a clock
module _ (side : Side) (clock : ℕ) where
  kept-waiting : (P : List Written → Type 0) → ((w : Written) (ws : List Written) → P (w ∷ ws) → P ws)
      → (ws : List Written) → P ws → P (waiting_at side clock ws)
  kept-waiting P shorter [] h = h
  kept-waiting P shorter (w ∷ ws) h =
      by-seen (sees side w.at clock) (kept-waiting P shorter ws (shorter w ws h))
    where
      by-seen : (b : Bool) → P (waiting_at side clock ws) → P (if b then waiting_at side clock ws else w ∷ ws)
      by-seen true k = k
      by-seen false k = h

  unseen-waiting : (ws : List Written) → AreUnseen side clock (waiting_at side clock ws)
  unseen-waiting [] = tt
  unseen-waiting (w ∷ ws) = by-seen (sees side w.at clock) refl (unseen-waiting ws)
    where
      by-seen : (b : Bool) → sees side w.at clock ≡ b → AreUnseen side clock (waiting_at side clock ws)
          → AreUnseen side clock (if b then waiting_at side clock ws else w ∷ ws)
      by-seen true e k = k
      by-seen false e k = e

-- the other side's clock rises
held-later : (side : Side) (least other next : ℕ) (kept : SideValue) → other ≤ next
    → IsHeld side least other kept → IsHeld side least next kept
held-later side least other next kept h held = record {
  latches = held.latches;
  ports = held.ports;
  settled = λ port at p e. settled_later side at other next (held.settled port at p e) h;
  to_ports = held.to_ports;
  spaced = spaced-later least other next kept.waiting h held.spaced;
  unseen = held.unseen;
  few = held.few;
}

-- the side's own clock rises
held-clock : (side : Side) (least other clock : ℕ) (kept : SideValue) → IsHeld side least other kept
    → IsHeld side least other (after_clock side clock kept)
held-clock side least other clock kept held = record {
  latches = length-latches_at side clock kept.cleared kept.waiting kept.latches ∙ held.latches;
  ports = held.ports;
  settled = held.settled;
  to_ports = kept-waiting side clock (AllByRecursion HasPort) (λ w ws h. h.1) kept.waiting held.to_ports;
  spaced = kept-waiting side clock (AreSpaced least other) (λ w ws h. h.1) kept.waiting held.spaced;
  unseen = unseen-waiting side clock kept.waiting;
  few = kept-waiting side clock (λ ws. length ws ≤ 3638) (λ w ws h. omega arith) kept.waiting held.few;
}

-- the side clears some of its ports at a stamp that the other's clock settles
settled-clear : (side : Side) (least other at mask : ℕ) (kept : SideValue) → IsHeld side least other kept
    → IsSettled side at other → (port t : ℕ) → port < 4
    → greatest_clear (after_clear at mask kept).cleared port ≡ Some t → IsSettled side t other
settled-clear Console least other at mask kept held h port t p e =
    let bound : t + 0 ≤ other =
    greatest-within kept.cleared mask at 0 other held.ports (omega arith)
    (λ q s r i. let k : s ≤ other = held.settled q s r i in omega arith) port t p e in
    omega arith
settled-clear Sound least other at mask kept held h port t p e =
    let bound : t + 1 ≤ other =
    greatest-within kept.cleared mask at 1 other held.ports (omega arith)
    (λ q s r i. let k : s < other = held.settled q s r i in omega arith) port t p e in
    omega arith

held-clear : (side : Side) (least other at mask : ℕ) (kept : SideValue) → IsHeld side least other kept
    → IsSettled side at other → IsHeld side least other (after_clear at mask kept)
held-clear side least other at mask kept held h = record {
  latches = length-latches_after kept.latches 0 mask ∙ held.latches;
  ports = length-cleared_after kept.cleared 0 mask at ∙ held.ports;
  settled = settled-clear side least other at mask kept held h;
  to_ports = held.to_ports;
  spaced = held.spaced;
  unseen = held.unseen;
  few = held.few;
}

-- a window has room for no more rises than these
few-rises : (region : Region) (n : ℕ) → least_of region * n ≤ window_of region → n ≤ 3637
few-rises Ntsc n h = omega arith
few-rises Pal n h = omega arith

-- a rise is a rise
pub rises-more : (region : Region) (at next : ℕ) → at + least_of region ≤ next → at < next
rises-more Ntsc at next h = omega arith
rises-more Pal at next h = omega arith

not-before : (side : Side) (at clock : ℕ) → sees side at clock ≡ false → clock ≤ at
not-before Console at clock h = ltb-false at clock h
not-before Sound at clock h = omega (arith, leb-false at clock h)

-- so few wait that there is room for one more within the window
room-by : (side : Side) (region : Region) (other clock at : ℕ) (ws : List Written)
    → AreSpaced (least_of region) other ws → AreUnseen side clock ws → other ≤ at
    → at ≤ clock + window_of region → length ws ≤ 3637
room-by side region other clock at [] spaced unseen h k = omega arith
room-by side region other clock at (w ∷ ws) spaced unseen h k =
    let first = not-before side w.at clock unseen in
    let many = spaced-many (least_of region) other w ws spaced in
    few-rises region (length (w ∷ ws)) (omega (arith, first, many))

unseen-append : (side : Side) (clock : ℕ) (ws : List Written) (w : Written) → sees side w.at clock ≡ false
    → AreUnseen side clock ws → AreUnseen side clock (ws ++ w ∷ [])
unseen-append side clock [] w e h = e
unseen-append side clock (x ∷ ws) w e h = h

-- the other side writes
module _ (side : Side) (region : Region) (other next : ℕ) (w : Written) (kept : SideValue) where
  held-write : IsHeld side (least_of region) other kept → other ≤ w.at → w.at + least_of region ≤ next
      → w.at ≤ kept.clock + window_of region → HasPort w
      → IsHeld side (least_of region) next (after_write side w kept)
  held-write held h rise within port = by-seen (sees side w.at kept.clock) refl
    where
      later : IsHeld side (least_of region) next kept
      later = held-later side (least_of region) other next kept (omega arith) held

      few : length kept.waiting ≤ 3637
      few = room-by side region other kept.clock w.at kept.waiting held.spaced held.unseen h within

      by-seen : (b : Bool) → sees side w.at kept.clock ≡ b
          → IsHeld side (least_of region) next
          (record kept {
            waiting = if b then kept.waiting else kept.waiting ++ w ∷ [];
            latches = if b then latched side kept.cleared kept.latches w else kept.latches;
          })
      by-seen true e = record {
        latches = length-latched side kept.cleared kept.latches w ∙ held.latches;
        ports = held.ports;
        settled = later.settled;
        to_ports = held.to_ports;
        spaced = later.spaced;
        unseen = held.unseen;
        few = held.few;
      }
      by-seen false e = record {
        latches = held.latches;
        ports = held.ports;
        settled = later.settled;
        to_ports = to-ports-append kept.waiting w held.to_ports port;
        spaced = spaced-append (least_of region) other next kept.waiting w h rise held.spaced;
        unseen = unseen-append side kept.clock kept.waiting w e held.unseen;
        few = omega (arith, length-append kept.waiting (w ∷ []), few);
      }

-- what every log holds after a side has published a clock
pub kept-published : (side : Side) (log : LogValue) (clock : ℕ) → IsKept log → clock_of side log ≤ clock
    → IsKept (published side clock log)
kept-published Console log clock kept h = record {
  console = held-clock Console (least_of log.region) log.sound.clock clock log.console kept.console;
  sound = held-later Sound (least_of log.region) log.console.clock clock log.sound h kept.sound;
}
kept-published Sound log clock kept h = record {
  console = held-later Console (least_of log.region) log.sound.clock clock log.console h kept.console;
  sound = held-clock Sound (least_of log.region) log.console.clock clock log.sound kept.sound;
}

-- and after a clear that the other side's clock settles
pub kept-cleared : (side : Side) (log : LogValue) (at mask : ℕ) → IsKept log
    → IsSettled side at (other_clock side log) → IsKept (with_clear side at mask log)
kept-cleared Console log at mask kept h = record {
  console = held-clear Console (least_of log.region) log.sound.clock at mask log.console kept.console h;
  sound = kept.sound;
}
kept-cleared Sound log at mask kept h = record {
  console = kept.console;
  sound = held-clear Sound (least_of log.region) log.console.clock at mask log.sound kept.sound h;
}

-- and after a write within the window, and a clock that is a rise later
pub kept-written : (side : Side) (log : LogValue) (w : Written) (clock : ℕ) → IsKept log → HasPort w
    → clock_of side log ≤ w.at → w.at + least_of log.region ≤ clock
    → IsWithinWindow (window_of log.region) w.at (other_clock side log)
    → IsKept (with_write side w (published side clock log))
kept-written Console log w clock kept port h rise within = record {
  console = held-clock Console (least_of log.region) log.sound.clock clock log.console kept.console;
  sound = held-write Sound log.region log.console.clock clock w log.sound kept.sound h rise within port;
}
kept-written Sound log w clock kept port h rise within = record {
  console = held-write Console log.region log.sound.clock clock w log.console kept.console h rise within port;
  sound = held-clock Sound (least_of log.region) log.console.clock clock log.sound kept.sound;
}
