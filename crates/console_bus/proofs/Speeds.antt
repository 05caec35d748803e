-- Whether ROM is fast is set by 420D alone.
use Rattle.std.proofs.Common.{◌≡◌, ℕ, ◌==◌, ◌&&◌, Bool, true, false, refl, if◌then◌else◌}
use Rattle.io_math.specs.declared.registers.IoRegisters.{IoRegisters}
use Rattle.io_math.specs.Registers.{framed, read_begun, blanked, timed, after_read}
use Rattle.snes_defs.specs.declared.profile.Profile.{Profile}
use Rattle.console_bus.specs.Profiles.{is_second, reading_noted}

pub fast_framed : (io : IoRegisters) (a b : ℕ) → (framed io a b).fast ≡ io.fast
unfolding framed
fast_framed io a b = refl

pub fast_blanked : (io : IoRegisters) (a b : ℕ) → (blanked io a b).fast ≡ io.fast
unfolding blanked
fast_blanked io a b = refl

pub fast_timed : (io : IoRegisters) → (timed io).fast ≡ io.fast
unfolding timed
fast_timed io = refl

if_fast : (b : Bool) (x y io : IoRegisters) → x.fast ≡ io.fast → y.fast ≡ io.fast → (if b then x else y).fast ≡ io.fast
if_fast true x y io h k = h
if_fast false x y io h k = k

pub fast_read : (io : IoRegisters) (addr : ℕ) → (after_read io addr).fast ≡ io.fast
unfolding after_read
fast_read io addr =
    if_fast (addr == 0x4016) _ _ io refl
    (if_fast (addr == 0x4017) _ _ io refl
    (if_fast (addr == 0x4210) _ _ io refl
    (if_fast (addr == 0x4211) _ _ io refl refl)))

fast_begun : (io : IoRegisters) (line : ℕ) → (read_begun io line).fast ≡ io.fast
unfolding read_begun
fast_begun io line = refl

pub fast_noted : (profile : Profile) (line : ℕ) (io : IoRegisters) → (reading_noted profile line io).fast ≡ io.fast
unfolding reading_noted
fast_noted profile line io =
    if_fast (is_second profile && io.interrupts.auto_read) _ _ io (fast_begun io line) refl
