-- THE BYTES OF A STATE of the serial console. `docs/use/STATE.md` has the same as a table.
use Rattle.std.specs.Prelude.{ℕ, List, ◌++◌, take, drop}
use Rattle.snes_defs.specs.declared.region.Region.{Region}
use Rattle.side_law.specs.Serial.{SerialState}
use Rattle.cpu_tables.specs.declared.regs.Regs.{Regs}
use Rattle.cpu65816.specs.Instruction as cpu
use Rattle.ppu_regs.specs.Picture.{Picture}
use Rattle.console_bus.specs.BusState.{BusState}
use Rattle.console_steps.specs.ConsoleState.{ConsoleState, region_of}
use Rattle.spc_tables.specs.declared.regs.SpcRegs.{SpcRegs}
use Rattle.spc700.specs.Instruction as spc
use Rattle.sdsp_voice.specs.declared.voices.Voices.{Voices}
use Rattle.audio_side.specs.Sound.{SoundState}
use Rattle.state_file.specs.Bytes.{text, number_bytes, cpu_bytes, spc_bytes, zeros, words_below, shown_below}

-- In front of each part stand the offsets of what it joins.

-- 0000 the text, 0008 version, region, frames (000C) and size of the cartridge's RAM (0010), 0014 zeros,
-- 0020 the registers of the 65C816, 0030 those of the SPC700,
-- 0038 the bytes that the SPC700 reads at its ports, 003C those that the 65C816 reads
unfoldable pub header_of : (region : Region) (frames ram : ℕ) (cpu : Regs) (spc : SpcRegs) (to_sound to_console : List ℕ) → List ℕ
header_of region frames ram cpu spc to_sound to_console =
    text ++ (number_bytes region frames ram ++ (zeros 12 ++ (cpu_bytes cpu ++ (spc_bytes spc ++ (to_sound ++ to_console)))))

-- 0040 zeros, 0080 what the registers of the S-DSP show, 0100 zeros
unfoldable pub dsp_of : Voices → List ℕ
dsp_of voices = zeros 64 ++ (shown_below voices 128 ++ zeros 256)

-- 0200 CGRAM, 0400 OAM, 0620 zeros
unfoldable pub tables_of : Picture → List ℕ
tables_of picture = words_below picture.cgram 256 ++ (picture.oam ++ zeros 63968)

-- 10000 work RAM, 30000 VRAM, 40000 sound RAM, 50000 the cartridge's RAM
unfoldable pub memories_of : (bus : BusState) (sound_ram : List ℕ) → List ℕ
memories_of bus sound_ram =
    take 131072 bus.memory ++ (words_below bus.picture.vram 32768 ++ (sound_ram ++ take bus.board.ram (drop 131072 bus.memory)))

-- THE BYTES, by the number of frames that were run, and both sides with the bytes at their ports. The registers of a
-- processor are those with which its instruction in hand began, or those after the last one if none is in hand.
unfoldable pub state_bytes : ℕ → SerialState ConsoleState SoundState → List ℕ
state_bytes frames w =
    header_of (region_of w.console) frames w.console.rest.board.ram (cpu.registers_of w.console.processor) (spc.registers_of w.sound.processor) w.to_sound w.to_console
    ++ (dsp_of w.sound.hardware.voices
    ++ (tables_of w.console.rest.picture
    ++ memories_of w.console.rest w.sound.hardware.ram))
