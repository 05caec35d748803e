-- The pages of the registers that are written and touch no memory: 2100 to 2133 but 2104, 2118, 2119 and
-- 2122, after the Super Nintendo Development Manual and nocash fullsnes. Each says what a byte v makes of
-- the registers.
use Rattle.std.specs.Prelude.{ℕ, Bool, false, ◌+◌, ◌*◌, ◌/◌, ◌%◌, ◌==◌, if◌then◌else◌}
use Rattle.ppu_regs.specs.Bits.{is_set}
use Rattle.ppu_regs.specs.declared.registers.Registers.{Registers}
use Rattle.ppu_regs.specs.declared.registers.Background.{Background}
use Rattle.ppu_regs.specs.declared.registers.LayerWindows.{LayerWindows}
use Rattle.ppu_regs.specs.declared.registers.LayerScreens.{LayerScreens}
use Rattle.ppu_regs.specs.declared.registers.Rotation.{Rotation}
use Rattle.ppu_regs.specs.declared.registers.ColourMath.{ColourMath}
use Rattle.ppu_regs.specs.declared.registers.Combine.{Combine}
use Rattle.ppu_regs.specs.declared.registers.Combine.TheVariants.{Or, And, Xor, Xnor}
use Rattle.ppu_regs.specs.declared.registers.WindowPart.{WindowPart}
use Rattle.ppu_regs.specs.declared.registers.WindowPart.TheVariants.{Never, Outside as OutsideWindow, Inside, Always}
use Rattle.ppu_regs.specs.declared.registers.Outside.TheVariants.{Wrap, Nothing, TileZero}

-- 2100 INIDISP: 7 forced blank, 3-0 brightness
unfoldable pub display_written : Registers → ℕ → Registers
display_written r v = record r { display = record { blanked = is_set v 128; brightness = v % 16 } }

-- 2101 OBSEL: 7-5 size code, 4-3 gap, 2-0 base in 2000h words
unfoldable pub object_tiles_written : Registers → ℕ → Registers
object_tiles_written r v =
    record r { object_tiles = record { size = v / 32; gap = v / 8 % 4; base = v % 8 * 0x2000 } }

-- the OAM port with a word address: the byte address is loaded from it
abbrev pub oam_aimed : Registers → ℕ → Bool → Registers
oam_aimed r word rotates =
    record r { oam = record r.oam { word = word; rotates = rotates; address = 2 * word } }

-- 2102 OAMADDL: the low eight bits of the word address
unfoldable pub oam_low_written : Registers → ℕ → Registers
oam_low_written r v = oam_aimed r (r.oam.word / 256 * 256 + v) r.oam.rotates

-- 2103 OAMADDH: 7 rotation, 0 the high bit of the word address
unfoldable pub oam_high_written : Registers → ℕ → Registers
oam_high_written r v = oam_aimed r (v % 2 * 256 + r.oam.word % 256) (is_set v 128)

abbrev pub with_large : Background → Bool → Background
with_large b on = record b { large = on }

-- 2105 BGMODE: 2-0 mode, 3 BG3 in front, 4-7 large tiles of BG1 to BG4
unfoldable pub mode_written : Registers → ℕ → Registers
mode_written r v = record r {
  mode = v % 8;
  bg3_front = is_set v 8;
  bg1 = with_large r.bg1 (is_set v 16);
  bg2 = with_large r.bg2 (is_set v 32);
  bg3 = with_large r.bg3 (is_set v 64);
  bg4 = with_large r.bg4 (is_set v 128);
}

abbrev pub with_mosaic : Background → Bool → Background
with_mosaic b on = record b { mosaic = on }

-- 2106 MOSAIC: 7-4 size less 1, 0-3 BG1 to BG4
unfoldable pub mosaic_written : Registers → ℕ → Registers
mosaic_written r v = record r {
  mosaic = v / 16;
  bg1 = with_mosaic r.bg1 (is_set v 1);
  bg2 = with_mosaic r.bg2 (is_set v 2);
  bg3 = with_mosaic r.bg3 (is_set v 4);
  bg4 = with_mosaic r.bg4 (is_set v 8);
}

-- 2107-210A BGnSC: 7-2 map base in 400h words, 1 twice as high, 0 twice as wide
unfoldable pub map_written : Background → ℕ → Background
map_written b v = record b { map_base = v / 4 * 0x400; tall = is_set v 2; wide = is_set v 1 }

abbrev pub with_tiles : Background → ℕ → Background
with_tiles b nibble = record b { tile_base = nibble * 0x1000 }

-- 210B BG12NBA: the tiles' bases of BG1 (low nibble) and BG2 in 1000h words
unfoldable pub tiles_low_written : Registers → ℕ → Registers
tiles_low_written r v = record r { bg1 = with_tiles r.bg1 (v % 16); bg2 = with_tiles r.bg2 (v / 16) }

-- 210C BG34NBA: those of BG3 (low nibble) and BG4
unfoldable pub tiles_high_written : Registers → ℕ → Registers
tiles_high_written r v = record r { bg3 = with_tiles r.bg3 (v % 16); bg4 = with_tiles r.bg4 (v / 16) }

-- 210D, 210F, 2111, 2113 BGnHOFS with the byte kept from the last write of any scroll: v above its bits
-- 7-3, and the former bits 10-8 below (this project's own profile)
unfoldable pub scrolled_across : Background → ℕ → ℕ → Background
scrolled_across b kept v = record b { scroll_x = 256 * v + kept / 8 * 8 + b.scroll_x / 256 % 8 }

-- 210E, 2110, 2112, 2114 BGnVOFS: v above the kept byte
unfoldable pub scrolled_down : Background → ℕ → ℕ → Background
scrolled_down b kept v = record b { scroll_y = 256 * v + kept }

-- a number of mode 7 is the byte above the one kept from the last write of any of them
abbrev pub rotation_number : Rotation → ℕ → ℕ
rotation_number m v = 256 * v + m.kept

-- 210D and 210E as M7HOFS and M7VOFS
unfoldable pub rotation_scrolled_across : Rotation → ℕ → Rotation
rotation_scrolled_across m v = record m { scroll_x = rotation_number m v; kept = v }

unfoldable pub rotation_scrolled_down : Rotation → ℕ → Rotation
rotation_scrolled_down m v = record m { scroll_y = rotation_number m v; kept = v }

-- 2115 VMAIN: 7 step after the high byte, 3-2 remap, 1-0 step 1, 32, 128, 128
unfoldable pub vram_step_written : Registers → ℕ → Registers
vram_step_written r v = record r {
  vram = record r.vram {
    steps_at_high = is_set v 128;
    remap = v / 4 % 4;
    step = if v % 4 == 0 then 1 else if v % 4 == 1 then 32 else 128;
  };
}

-- 211A M7SEL: 0 flip x, 1 flip y, 7-6 what lies outside
unfoldable pub rotation_settings_written : Rotation → ℕ → Rotation
rotation_settings_written m v = record m {
  flip_x = is_set v 1;
  flip_y = is_set v 2;
  outside = if v / 64 == 2 then Nothing else if v / 64 == 3 then TileZero else Wrap;
}

-- 211B M7A
unfoldable pub rotation_a_written : Rotation → ℕ → Rotation
rotation_a_written m v = record m { a = rotation_number m v; kept = v }

-- 211C M7B
unfoldable pub rotation_b_written : Rotation → ℕ → Rotation
rotation_b_written m v = record m { b = rotation_number m v; kept = v }

-- 211D M7C
unfoldable pub rotation_c_written : Rotation → ℕ → Rotation
rotation_c_written m v = record m { c = rotation_number m v; kept = v }

-- 211E M7D
unfoldable pub rotation_d_written : Rotation → ℕ → Rotation
rotation_d_written m v = record m { d = rotation_number m v; kept = v }

-- 211F M7X
unfoldable pub rotation_x_written : Rotation → ℕ → Rotation
rotation_x_written m v = record m { center_x = rotation_number m v; kept = v }

-- 2120 M7Y
unfoldable pub rotation_y_written : Rotation → ℕ → Rotation
rotation_y_written m v = record m { center_y = rotation_number m v; kept = v }

-- 2121 CGADD: the number of the colour; the low byte comes next
unfoldable pub cgram_index_written : Registers → ℕ → Registers
cgram_index_written r v = record r { cgram = record r.cgram { index = v; high = false } }

-- a nibble of 2123-2125: 0 window 1 outside, 1 window 1 on, 2 window 2 outside, 3 window 2 on
unfoldable pub windows_selected : LayerWindows → ℕ → LayerWindows
windows_selected w nibble = record w {
  one_outside = is_set nibble 1;
  one_on = is_set nibble 2;
  two_outside = is_set nibble 4;
  two_on = is_set nibble 8;
}

-- 2123 W12SEL: BG1 (low nibble) and BG2
unfoldable pub windows_low_written : Registers → ℕ → Registers
windows_low_written r v = record r {
  windows_bg1 = windows_selected r.windows_bg1 (v % 16);
  windows_bg2 = windows_selected r.windows_bg2 (v / 16);
}

-- 2124 W34SEL: BG3 and BG4
unfoldable pub windows_high_written : Registers → ℕ → Registers
windows_high_written r v = record r {
  windows_bg3 = windows_selected r.windows_bg3 (v % 16);
  windows_bg4 = windows_selected r.windows_bg4 (v / 16);
}

-- 2125 WOBJSEL: the objects and the colour window
unfoldable pub windows_others_written : Registers → ℕ → Registers
windows_others_written r v = record r {
  windows_objects = windows_selected r.windows_objects (v % 16);
  windows_colour = windows_selected r.windows_colour (v / 16);
}

-- two bits of 212A and 212B: OR, AND, XOR, XNOR
unfoldable pub combine_of : ℕ → Combine
combine_of code = if code == 0 then Or else if code == 1 then And else if code == 2 then Xor else Xnor

abbrev pub combined : LayerWindows → ℕ → LayerWindows
combined w code = record w { combine = combine_of code }

-- 212A WBGLOG: from the low bits BG1 to BG4
unfoldable pub combines_written : Registers → ℕ → Registers
combines_written r v = record r {
  windows_bg1 = combined r.windows_bg1 (v % 4);
  windows_bg2 = combined r.windows_bg2 (v / 4 % 4);
  windows_bg3 = combined r.windows_bg3 (v / 16 % 4);
  windows_bg4 = combined r.windows_bg4 (v / 64);
}

-- 212B WOBJLOG: 1-0 the objects, 3-2 the colour window
unfoldable pub combines_others_written : Registers → ℕ → Registers
combines_others_written r v = record r {
  windows_objects = combined r.windows_objects (v % 4);
  windows_colour = combined r.windows_colour (v / 4 % 4);
}

abbrev pub with_main : LayerScreens → Bool → LayerScreens
with_main s on = record s { main = on }

abbrev pub with_sub : LayerScreens → Bool → LayerScreens
with_sub s on = record s { sub = on }

abbrev pub with_main_masked : LayerScreens → Bool → LayerScreens
with_main_masked s on = record s { main_masked = on }

abbrev pub with_sub_masked : LayerScreens → Bool → LayerScreens
with_sub_masked s on = record s { sub_masked = on }

abbrev pub with_arithmetic : LayerScreens → Bool → LayerScreens
with_arithmetic s on = record s { arithmetic = on }

-- a bit for each layer: 0-3 BG1 to BG4, 4 the objects
abbrev pub screens_written : (LayerScreens → Bool → LayerScreens) → Registers → ℕ → Registers
screens_written change r v = record r {
  screens_bg1 = change r.screens_bg1 (is_set v 1);
  screens_bg2 = change r.screens_bg2 (is_set v 2);
  screens_bg3 = change r.screens_bg3 (is_set v 4);
  screens_bg4 = change r.screens_bg4 (is_set v 8);
  screens_objects = change r.screens_objects (is_set v 16);
}

-- 212C TM: the layers on the main screen
unfoldable pub main_written : Registers → ℕ → Registers
main_written r v = screens_written with_main r v

-- 212D TS: on the sub screen
unfoldable pub sub_written : Registers → ℕ → Registers
sub_written r v = screens_written with_sub r v

-- 212E TMW: masked by windows on the main screen
unfoldable pub main_masks_written : Registers → ℕ → Registers
main_masks_written r v = screens_written with_main_masked r v

-- 212F TSW: masked by windows on the sub screen
unfoldable pub sub_masks_written : Registers → ℕ → Registers
sub_masks_written r v = screens_written with_sub_masked r v

-- two bits of 2130: never, outside, inside, always
unfoldable pub window_part_of : ℕ → WindowPart
window_part_of code =
    if code == 0 then Never else if code == 1 then OutsideWindow else if code == 2 then Inside else Always

-- 2130 CGWSEL: 7-6 black, 5-4 no arithmetic, 1 sub screen, 0 direct colour
unfoldable pub colour_selected : ColourMath → ℕ → ColourMath
colour_selected m v = record m {
  black = window_part_of (v / 64);
  none = window_part_of (v / 16 % 4);
  sub_screen = is_set v 2;
  direct = is_set v 1;
}

-- 2131 CGADSUB: 7 subtract, 6 halve, 5 the backdrop, 4 the objects, 3-0 BG4 to BG1
unfoldable pub arithmetic_written : Registers → ℕ → Registers
arithmetic_written r v = record (screens_written with_arithmetic r v) {
  colour = record r.colour { subtract = is_set v 128; halve = is_set v 64; backdrop = is_set v 32 };
}

-- 2132 COLDATA: 7 blue, 6 green, 5 red take bits 4-0
unfoldable pub fixed_colour_written : ColourMath → ℕ → ColourMath
fixed_colour_written m v = record m {
  blue = if is_set v 128 then v % 32 else m.blue;
  green = if is_set v 64 then v % 32 else m.green;
  red = if is_set v 32 then v % 32 else m.red;
}

-- 2133 SETINI: 6 EXTBG, 3 half dots, 2 overscan
unfoldable pub settings_written : Registers → ℕ → Registers
settings_written r v =
    record r { settings = record { extbg = is_set v 64; half_dots = is_set v 8; overscan = is_set v 4 } }
