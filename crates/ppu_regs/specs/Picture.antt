-- What the picture unit keeps: its registers (2100 to 213F) and its three memories; and all of it at the start.
use Rattle.std.specs.Prelude.{◌≡◌, ℕ, true, false, ◌==◌, ◌<◌, List, replicate, length, slice_index, if◌then◌else◌}
use Rattle.snes_defs.specs.declared.profile.Profile.{Profile}
use Rattle.ppu_regs.specs.declared.registers.Registers.{Registers}
use Rattle.ppu_regs.specs.declared.registers.Background.{Background}
use Rattle.ppu_regs.specs.declared.registers.LayerWindows.{LayerWindows}
use Rattle.ppu_regs.specs.declared.registers.LayerScreens.{LayerScreens}
use Rattle.ppu_regs.specs.declared.registers.Rotation.{Rotation}
use Rattle.ppu_regs.specs.declared.registers.ColourMath.{ColourMath}
use Rattle.ppu_regs.specs.declared.registers.Combine.TheVariants.{Or}
use Rattle.ppu_regs.specs.declared.registers.WindowPart.TheVariants.{Never}
use Rattle.ppu_regs.specs.declared.registers.Outside.TheVariants.{Wrap}

-- the registers; VRAM as 32,768 words of 16 bits, CGRAM as 256 colours of 15 bits (red in bits 4-0, green
-- in 9-5, blue in 14-10), OAM as 544 bytes
pub record Picture : Type 0 where
  pub registers : Registers
  pub vram : List ℕ
  pub cgram : List ℕ
  pub oam : List ℕ

-- the ranges of the registers
pub record AreInRange (r : Registers) : Type 0 where
  pub mode : r.mode < 8
  pub mosaic : r.mosaic < 16
  pub brightness : r.display.brightness < 16
  pub size_code : r.object_tiles.size < 8
  pub gap : r.object_tiles.gap < 4
  pub first_object : r.oam.word < 512
  pub oam_address : r.oam.address < 1024
  pub red : r.colour.red < 32
  pub green : r.colour.green < 32
  pub blue : r.colour.blue < 32

-- the ranges that every picture unit keeps
pub record IsInRange (p : Picture) : Type 0 where
  pub registers : AreInRange p.registers
  pub vram_size : length p.vram ≡ 32768
  pub cgram_size : length p.cgram ≡ 256
  pub oam_size : length p.oam ≡ 544
  pub colours : (k : ℕ) → slice_index p.cgram k < 32768

-- the registers of BG1 to BG4
unfoldable pub background_of : Registers → ℕ → Background
background_of r layer =
    if layer == 1 then r.bg1 else if layer == 2 then r.bg2 else if layer == 3 then r.bg3 else r.bg4

-- the windows of layers 1 to 4, of the objects as 5, of the colour window as 6
unfoldable pub windows_of : Registers → ℕ → LayerWindows
windows_of r layer =
    if layer == 1 then r.windows_bg1
    else if layer == 2 then r.windows_bg2
    else if layer == 3 then r.windows_bg3
    else if layer == 4 then r.windows_bg4
    else if layer == 5 then r.windows_objects
    else r.windows_colour

-- the screens of layers 1 to 4, of the objects as 5
unfoldable pub screens_of : Registers → ℕ → LayerScreens
screens_of r layer =
    if layer == 1 then r.screens_bg1
    else if layer == 2 then r.screens_bg2
    else if layer == 3 then r.screens_bg3
    else if layer == 4 then r.screens_bg4
    else r.screens_objects

abbrev pub background_start : Background
background_start = record {
  large = false;
  mosaic = false;
  map_base = 0;
  wide = false;
  tall = false;
  tile_base = 0;
  scroll_x = 0;
  scroll_y = 0;
}

abbrev pub windows_start : LayerWindows
windows_start = record { one_outside = false; one_on = false; two_outside = false; two_on = false; combine = Or }

abbrev pub screens_start : LayerScreens
screens_start = record { main = false; sub = false; main_masked = false; sub_masked = false; arithmetic = false }

abbrev pub rotation_start : Rotation
rotation_start = record {
  flip_x = false;
  flip_y = false;
  outside = Wrap;
  a = 0;
  b = 0;
  c = 0;
  d = 0;
  center_x = 0;
  center_y = 0;
  scroll_x = 0;
  scroll_y = 0;
  kept = 0;
}

abbrev pub colour_start : ColourMath
colour_start = record {
  black = Never;
  none = Never;
  sub_screen = false;
  direct = false;
  subtract = false;
  halve = false;
  backdrop = false;
  red = 0;
  green = 0;
  blue = 0;
}

-- the registers of a profile at the start: forced blank, all else 0; the address of VRAM steps by 1 after a low
-- byte
abbrev pub registers_start : Profile → Registers
registers_start profile = record {
  display = record { blanked = true; brightness = 0 };
  object_tiles = record { size = 0; gap = 0; base = 0 };
  oam = record { word = 0; rotates = false; address = 0; kept = 0 };
  mode = 0;
  bg3_front = false;
  mosaic = 0;
  bg1 = background_start;
  bg2 = background_start;
  bg3 = background_start;
  bg4 = background_start;
  scroll_kept = 0;
  rotation = rotation_start;
  vram = record { steps_at_high = false; remap = 0; step = 1; address = 0; fetched = 0 };
  cgram = record { index = 0; high = false; kept = 0 };
  window_one = record { left = 0; right = 0 };
  window_two = record { left = 0; right = 0 };
  windows_bg1 = windows_start;
  windows_bg2 = windows_start;
  windows_bg3 = windows_start;
  windows_bg4 = windows_start;
  windows_objects = windows_start;
  windows_colour = windows_start;
  screens_bg1 = screens_start;
  screens_bg2 = screens_start;
  screens_bg3 = screens_start;
  screens_bg4 = screens_start;
  screens_objects = screens_start;
  colour = colour_start;
  settings = record { extbg = false; half_dots = false; overscan = false };
  counters = record { h = 0; v = 0; latched = false; h_high = false; v_high = false };
  over = record { range = false; time = false };
  profile = profile;
}

unfoldable pub vram_words : ℕ
vram_words = 32768

unfoldable pub zeros : ℕ → List ℕ
zeros n = replicate n 0

-- the unit of a profile at the start: registers as above, memories of zeros
abbrev pub picture_start : Profile → Picture
picture_start profile =
    record { registers = registers_start profile; vram = zeros vram_words; cgram = zeros 256; oam = zeros 544 }
