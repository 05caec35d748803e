-- The register pages of 4016 to 421F, after fullsnes ("SNES I/O Ports", "SNES Controllers", "SNES Maths
-- Multiply/Divide"): what a write, a read and the beam's events make of them. That products and quotients are there
-- at once, in the first profile auto-read too, and all start values, are this project's own.
use Rattle.std.specs.Prelude.{ℕ, ◌≤◌, ◌+◌, ◌-◌, ◌*◌, ◌/◌, ◌%◌, ◌^◌, ◌==◌, nat_lt, nat_le}
use Rattle.std.specs.Prelude.{Bool, true, false, not, ◌&&◌, ◌||◌, if◌then◌else◌}
use Rattle.snes_defs.specs.declared.spot.Spot.{Spot}
use Rattle.io_math.specs.declared.registers.Pad.{Pad}
use Rattle.io_math.specs.declared.registers.Interrupts.{Interrupts}
use Rattle.io_math.specs.declared.registers.Arithmetic.{Arithmetic}
use Rattle.io_math.specs.declared.registers.IoRegisters.{IoRegisters}

-- whether the bit of this weight (1, 2, 4, .. 128) is set
abbrev pub is_set : ℕ → ℕ → Bool
is_set v weight = v / weight % 2 == 1

abbrev pub bit_if : Bool → ℕ → ℕ
bit_if set weight = if set then weight else 0

-- a 16-bit register with its low, or its high byte, replaced
abbrev pub with_low : ℕ → ℕ → ℕ
with_low word byte = word / 256 * 256 + byte

abbrev pub with_high : ℕ → ℕ → ℕ
with_high word byte = word % 256 + 256 * byte

-- the registers at the start
abbrev pub pad_start : Pad
pad_start = record { word = 0; position = 0; kept = 0; earlier = 0 }

abbrev pub registers_start : IoRegisters
registers_start = record {
  strobe = false;
  pad1 = pad_start;
  pad2 = pad_start;
  interrupts = record {
    nmi_on = false;
    timer_kind = 0;
    auto_read = false;
    htime = 0x1ff;
    vtime = 0x1ff;
    nmi_flag = false;
    irq_flag = false;
  };
  port = 0xff;
  arithmetic = record { factor = 0; dividend = 0; quotient = 0; product = 0 };
  fast = false;
  reading = 0;
}

-- a pad back at its first bit
abbrev pub rewound : Pad → Pad
rewound p = record p { position = 0 }

-- 4016 JOYWR: bit 0 is the strobe; while it is set both pads are at their first bit
unfoldable pub strobe_written : IoRegisters → Bool → IoRegisters
strobe_written r strobe =
    if strobe then record r { strobe = true; pad1 = rewound r.pad1; pad2 = rewound r.pad2 }
    else record r { strobe = false }

-- 4200 NMITIMEN: bit 7 NMI on, bits 5-4 timer kind (0 clears the IRQ flag), bit 0 auto-read
unfoldable pub nmitimen_written : Interrupts → ℕ → Interrupts
nmitimen_written i v = record i {
  nmi_on = is_set v 128;
  timer_kind = v / 16 % 4;
  auto_read = is_set v 1;
  irq_flag = i.irq_flag && not (v / 16 % 4 == 0);
}

-- 4203 WRMPYB: the product of both factors
unfoldable pub multiplied : Arithmetic → ℕ → Arithmetic
multiplied a v = record a { product = a.factor * v }

-- 4206 WRDIVB: quotient and remainder; by 0 the quotient is FFFF and the remainder the dividend
unfoldable pub divided : Arithmetic → ℕ → Arithmetic
divided a v = record a {
  quotient = if v == 0 then 0xffff else a.dividend / v;
  product = if v == 0 then a.dividend else a.dividend % v;
}

-- the registers after a write of a byte at an address; 420B, 420C and all other addresses change nothing here
unfoldable pub written : IoRegisters → ℕ → ℕ → IoRegisters
written r addr v =
    if addr == 0x4016 then strobe_written r (is_set v 1)
    else if addr == 0x4200 then record r { interrupts = nmitimen_written r.interrupts v }
    else if addr == 0x4201 then record r { port = v }
    else if addr == 0x4202 then record r { arithmetic = record r.arithmetic { factor = v } }
    else if addr == 0x4203 then record r { arithmetic = multiplied r.arithmetic v }
    else if addr == 0x4204 then
    record r { arithmetic = record r.arithmetic { dividend = with_low r.arithmetic.dividend v } }
    else if addr == 0x4205 then
    record r { arithmetic = record r.arithmetic { dividend = with_high r.arithmetic.dividend v } }
    else if addr == 0x4206 then record r { arithmetic = divided r.arithmetic v }
    else if addr == 0x4207 then record r { interrupts = record r.interrupts { htime = with_low r.interrupts.htime v } }
    else if addr == 0x4208 then
    record r { interrupts = record r.interrupts { htime = with_high r.interrupts.htime (v % 2) } }
    else if addr == 0x4209 then record r { interrupts = record r.interrupts { vtime = with_low r.interrupts.vtime v } }
    else if addr == 0x420a then
    record r { interrupts = record r.interrupts { vtime = with_high r.interrupts.vtime (v % 2) } }
    else if addr == 0x420d then record r { fast = is_set v 1 }
    else r

-- the bit that a pad gives next: from bit 15 of its word down, then ones
unfoldable pub pad_bit : Pad → ℕ
pad_bit p = if nat_lt p.position 16 then p.word / 2 ^ (15 - p.position) % 2 else 1

-- a pad after a read of its bit; while the strobe is set it stays at its first bit
unfoldable pub pad_read : Bool → Pad → Pad
pad_read strobe p = if nat_lt p.position 16 && not strobe then record p { position = p.position + 1 } else p

-- whether an auto-read runs: for 4,224 clocks from the start of the line on in which it began. A frame of the first
-- profile has none that runs, since its auto-read takes no time
unfoldable pub is_reading : IoRegisters → Spot → Bool
is_reading r spot =
    not (r.reading == 0) && (nat_le r.reading spot.v && nat_lt ((spot.v - r.reading) * 1364 + spot.h) 4224)

-- the word of a pad at 4218-9 or 421A-B: while an auto-read runs, the one from before
abbrev pub word_shown : Bool → Pad → ℕ
word_shown reading p = if reading then p.earlier else p.kept

-- the byte that a read gives, where `bus` is the byte last on the data bus
unfoldable pub byte_read : IoRegisters → ℕ → ℕ → Spot → ℕ
byte_read r addr bus spot =
    -- JOYA and JOYB: bit 0 the pad's, bit 1 zero, of 4017 bits 4-2 ones, the rest open bus
    if addr == 0x4016 then bus / 4 * 4 + pad_bit r.pad1
    else if addr == 0x4017 then bus / 32 * 32 + 28 + pad_bit r.pad2
    -- RDNMI: bit 7 NMI flag, bits 3-0 the number 2
    else if addr == 0x4210 then bit_if r.interrupts.nmi_flag 128 + bus / 16 % 8 * 16 + 2
    -- TIMEUP: bit 7 IRQ flag
    else if addr == 0x4211 then bit_if r.interrupts.irq_flag 128 + bus % 128
    -- HVBJOY: bit 7 vertical blank, bit 6 horizontal blank, bit 0 auto-read
    else if addr == 0x4212 then
    bit_if spot.blank 128 + bit_if (nat_lt spot.h 4 || nat_le 1096 spot.h) 64 + bus / 2 % 32 * 2
    + bit_if (is_reading r spot) 1
    else if addr == 0x4213 then r.port
    else if addr == 0x4214 then r.arithmetic.quotient % 256
    else if addr == 0x4215 then r.arithmetic.quotient / 256
    else if addr == 0x4216 then r.arithmetic.product % 256
    else if addr == 0x4217 then r.arithmetic.product / 256
    else if addr == 0x4218 then word_shown (is_reading r spot) r.pad1 % 256
    else if addr == 0x4219 then word_shown (is_reading r spot) r.pad1 / 256
    else if addr == 0x421a then word_shown (is_reading r spot) r.pad2 % 256
    else if addr == 0x421b then word_shown (is_reading r spot) r.pad2 / 256
    else if nat_le 0x421c addr && nat_le addr 0x421f then 0
    else bus

-- the registers after a read
unfoldable pub after_read : IoRegisters → ℕ → IoRegisters
after_read r addr =
    if addr == 0x4016 then record r { pad1 = pad_read r.strobe r.pad1 }
    else if addr == 0x4017 then record r { pad2 = pad_read r.strobe r.pad2 }
    else if addr == 0x4210 then record r { interrupts = record r.interrupts { nmi_flag = false } }
    else if addr == 0x4211 then record r { interrupts = record r.interrupts { irq_flag = false } }
    else r

-- an auto-read that takes time begins on a line, in the second profile: the words from before are noted
unfoldable pub read_begun : IoRegisters → ℕ → IoRegisters
read_begun r line = record r {
  reading = line;
  pad1 = record r.pad1 { earlier = r.pad1.kept };
  pad2 = record r.pad2 { earlier = r.pad2.kept };
}

-- a pad at vertical blank: it has its word; where auto-read is on it is read to its end, but for a strobe
-- that is set, which keeps it at its first bit
unfoldable pub pad_blanked : Bool → Bool → Pad → ℕ → Pad
pad_blanked auto_read strobe p word =
    if auto_read then record p { word = word; kept = word; position = if strobe then 0 else 16 }
    else record p { word = word }

-- vertical blank begins: the NMI flag, and auto-read where it is on
unfoldable pub blanked : IoRegisters → ℕ → ℕ → IoRegisters
blanked r word1 word2 = record r {
  interrupts = record r.interrupts { nmi_flag = true };
  pad1 = pad_blanked r.interrupts.auto_read r.strobe r.pad1 word1;
  pad2 = pad_blanked r.interrupts.auto_read r.strobe r.pad2 word2;
}

-- a frame begins: the NMI flag goes, the pads have their words of this frame, and no auto-read runs
unfoldable pub framed : IoRegisters → ℕ → ℕ → IoRegisters
framed r word1 word2 = record r {
  reading = 0;
  interrupts = record r.interrupts { nmi_flag = false };
  pad1 = record r.pad1 { word = word1 };
  pad2 = record r.pad2 { word = word2 };
}

-- the timer fires
unfoldable pub timed : IoRegisters → IoRegisters
timed r = record r { interrupts = record r.interrupts { irq_flag = true } }

-- the levels that the processor is given
abbrev pub nmi_level : IoRegisters → Bool
nmi_level r = r.interrupts.nmi_flag && r.interrupts.nmi_on

abbrev pub irq_level : IoRegisters → Bool
irq_level r = r.interrupts.irq_flag

-- the ranges of the registers
pub record IsInRange (r : IoRegisters) : Type 0 where
  pub htime : r.interrupts.htime ≤ 511
  pub vtime : r.interrupts.vtime ≤ 511
  pub kind : r.interrupts.timer_kind ≤ 3
  pub first : r.pad1.position ≤ 16
  pub second : r.pad2.position ≤ 16
