-- The timer's setting is that of 4200 and 4207 to 420A alone.
use Rattle.std.proofs.Common.{◌≡◌, ℕ, ◌==◌, ◌&&◌, Bool, true, false, refl, if◌then◌else◌}
use Rattle.io_math.specs.declared.registers.IoRegisters.{IoRegisters}
use Rattle.io_math.specs.Registers.{framed, read_begun, blanked, timed, after_read}
use Rattle.snes_defs.specs.declared.profile.Profile.{Profile}
use Rattle.console_bus.specs.Profiles.{is_second, reading_noted}
use Rattle.console_bus.specs.BusState.{timer_of}

pub timer_framed : (io : IoRegisters) (a b : ℕ) → timer_of (framed io a b) ≡ timer_of io
unfolding framed
timer_framed io a b = refl

pub timer_blanked : (io : IoRegisters) (a b : ℕ) → timer_of (blanked io a b) ≡ timer_of io
unfolding blanked
timer_blanked io a b = refl

pub timer_timed : (io : IoRegisters) → timer_of (timed io) ≡ timer_of io
unfolding timed
timer_timed io = refl

if_timer : (b : Bool) (x y io : IoRegisters) → timer_of x ≡ timer_of io → timer_of y ≡ timer_of io → timer_of (if b then x else y) ≡ timer_of io
if_timer true x y io h k = h
if_timer false x y io h k = k

pub timer_read : (io : IoRegisters) (addr : ℕ) → timer_of (after_read io addr) ≡ timer_of io
unfolding after_read
timer_read io addr =
    if_timer (addr == 0x4016) _ _ io refl
    (if_timer (addr == 0x4017) _ _ io refl
    (if_timer (addr == 0x4210) _ _ io refl
    (if_timer (addr == 0x4211) _ _ io refl refl)))

timer_begun : (io : IoRegisters) (line : ℕ) → timer_of (read_begun io line) ≡ timer_of io
unfolding read_begun
timer_begun io line = refl

pub timer_noted : (profile : Profile) (line : ℕ) (io : IoRegisters) → timer_of (reading_noted profile line io) ≡ timer_of io
unfolding reading_noted
timer_noted profile line io =
    if_timer (is_second profile && io.interrupts.auto_read) _ _ io (timer_begun io line) refl
