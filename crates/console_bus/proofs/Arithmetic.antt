-- The registers of multiplication and division, 4202 to 4206: a write changes neither the timer, nor the speed of ROM,
-- nor the picture unit.
use Rattle.std.proofs.Common.{◌≡◌, ℕ, ◌≤◌, ◌==◌, ◌&&◌, Bool, true, false, not, nat_le, refl, sym, ap, ◌∙◌, arith, if◌then◌else◌}
use Rattle.std.proofs.lemmas.Bool.Decides.{nat_tests}
use Rattle.snes_defs.specs.declared.profile.Profile.{Profile}
use Rattle.snes_defs.specs.declared.spot.Spot.{Spot}
use Rattle.snes_defs.specs.declared.spot.IrqTime.{IrqTime}
use Rattle.io_math.specs.declared.registers.IoRegisters.{IoRegisters}
use Rattle.io_math.specs.Registers.{written, timed}
use Rattle.ppu_regs.specs.Picture.{Picture}
use Rattle.console_bus.specs.Profiles.{is_second, is_timed_for, io_written, picture_latched}
use Rattle.console_bus.specs.BusState.{BusState, timer_of, spot_of, with_io, with_picture}
use Rattle.console_bus.specs.Places.{chip_written, io_register_written}

-- ---- of the chip's own registers

record Keeps (io io' : IoRegisters) : Type 0 where
  timer : timer_of io' ≡ timer_of io
  fast : io'.fast ≡ io.fast

if_keeps : (b : Bool) (x y io : IoRegisters) → Keeps io x → Keeps io y → Keeps io (if b then x else y)
if_keeps true x y io h k = h
if_keeps false x y io h k = k

keeps : (io : IoRegisters) (n v : ℕ) → 0x4202 ≤ n → n ≤ 0x4206 → Keeps io (written io n v)
unfolding written
keeps io n v first last =
    let a : (n == 0x4016) ≡ false = grind (arith, nat_tests) in
    let b : (n == 0x4200) ≡ false = grind (arith, nat_tests) in
    let d : (n == 0x4201) ≡ false = grind (arith, nat_tests) in
    let e : (n == 0x4207) ≡ false = grind (arith, nat_tests) in
    let f : (n == 0x4208) ≡ false = grind (arith, nat_tests) in
    let g : (n == 0x4209) ≡ false = grind (arith, nat_tests) in
    let h : (n == 0x420a) ≡ false = grind (arith, nat_tests) in
    let i : (n == 0x420d) ≡ false = grind (arith, nat_tests) in
    rw (a, b, d, e, f, g, h, i)
    (if_keeps (n == 0x4202) _ _ io (record { timer = refl; fast = refl })
    (if_keeps (n == 0x4203) _ _ io (record { timer = refl; fast = refl })
    (if_keeps (n == 0x4204) _ _ io (record { timer = refl; fast = refl })
    (if_keeps (n == 0x4205) _ _ io (record { timer = refl; fast = refl })
    (if_keeps (n == 0x4206) _ _ io (record { timer = refl; fast = refl }) (record { timer = refl; fast = refl }))))))

pub timer_written : (io : IoRegisters) (n v : ℕ) → 0x4202 ≤ n → n ≤ 0x4206 → timer_of (written io n v) ≡ timer_of io
timer_written io n v first last = (keeps io n v first last).timer

pub fast_written : (io : IoRegisters) (n v : ℕ) → 0x4202 ≤ n → n ≤ 0x4206 → (written io n v).fast ≡ io.fast
fast_written io n v first last = (keeps io n v first last).fast

-- ---- of the bus

and_false : (b : Bool) → (b && false) ≡ false
and_false true = refl
and_false false = refl

and_not : (b : Bool) → (b && not b) ≡ false
and_not true = refl
and_not false = refl

-- by the time of a timer, as is_timed_for tells it
abbrev timed_at : IrqTime → ℕ → Bool
timed_at t line = t.kind == 2 && t.v == line

never_late : (x y : IrqTime) (line : ℕ) → x ≡ y → (timed_at x line && not (timed_at y line)) ≡ false
never_late x y line same = ap (λ t. timed_at t line && not (timed_at y line)) same ∙ and_not (timed_at y line)

plainly_written : (profile : Profile) (line : ℕ) (io : IoRegisters) (n v : ℕ) → 0x4202 ≤ n → n ≤ 0x4206 → io_written profile line io n v ≡ written io n v
unfolding io_written
plainly_written profile line io n v first last =
    let late : (is_timed_for (written io n v) line && not (is_timed_for io line)) ≡ false
    = never_late (timer_of (written io n v)) (timer_of io) line (timer_written io n v first last) in
    let no : (is_second profile && (is_timed_for (written io n v) line && not (is_timed_for io line))) ≡ false
    = ap (λ b. is_second profile && b) late ∙ and_false (is_second profile) in
    ap (λ b. if b then timed (written io n v) else written io n v) no

not_latched : (profile : Profile) (spot : Spot) (port : ℕ) (p : Picture) (n v : ℕ) → 0x4202 ≤ n → picture_latched profile spot port p n v ≡ p
unfolding picture_latched
not_latched profile spot port p n v first =
    let other : (n == 0x4201) ≡ false = grind (arith, nat_tests) in
    let no : (is_second profile && (n == 0x4201)) ≡ false = ap (λ b. is_second profile && b) other ∙ and_false (is_second profile) in
    rw no refl

beam_stays : (r : BusState) (t : IrqTime) → t ≡ r.beam.timer → record r.beam { timer = t } ≡ r.beam
beam_stays r t same = ap (λ x. record r.beam { timer = x }) same

pub arithmetic_written : (r : BusState) (n v : ℕ) → 0x4202 ≤ n → n ≤ 0x4206 → r.beam.timer ≡ timer_of r.io
    → record r { io = written r.io n v } ≡ chip_written r n v
unfolding chip_written
arithmetic_written r n v first last timer =
    let a : nat_le 0x4300 n ≡ false = grind (arith, nat_tests) in
    let b : (n == 0x420b) ≡ false = grind (arith, nat_tests) in
    let d : (n == 0x420c) ≡ false = grind (arith, nat_tests) in
    let io = written r.io n v in
    let beam = beam_stays r (timer_of io) (timer_written r.io n v first last ∙ sym timer) in
    let one : record r { io = io } ≡ with_io r io = ap (λ x. record r { io = io; beam = x }) (sym beam) in
    let two : with_io r io ≡ with_io (with_picture r r.picture) (io_written r.script.profile r.beam.v r.io n v)
    = ap (λ x. with_io r x) (sym (plainly_written r.script.profile r.beam.v r.io n v first last)) in
    let three : with_io (with_picture r r.picture) (io_written r.script.profile r.beam.v r.io n v) ≡ io_register_written r n v
    = ap (λ p. with_io (with_picture r p) (io_written r.script.profile r.beam.v r.io n v))
    (sym (not_latched r.script.profile (spot_of r.beam) r.io.port r.picture n v first)) in
    rw (a, b, d) (one ∙ two ∙ three)
