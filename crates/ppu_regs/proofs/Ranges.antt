-- Every write of a register keeps the ranges of the registers.
use Rattle.std.proofs.Common.{ℕ, ◌<◌, ◌%◌, ◌==◌, Bool, true, false, if◌then◌else◌, arith}
use Rattle.ppu_regs.specs.declared.registers.Registers.{Registers}
use Rattle.ppu_regs.specs.declared.registers.Background.{Background}
use Rattle.ppu_regs.specs.declared.registers.Rotation.{Rotation}
use Rattle.ppu_regs.specs.declared.registers.Window.{Window}
use Rattle.ppu_regs.specs.Picture.{AreInRange}
use Rattle.ppu_regs.specs.Pages.{display_written, object_tiles_written, oam_low_written, oam_high_written, mode_written, mosaic_written, tiles_low_written, tiles_high_written, vram_step_written, cgram_index_written, windows_low_written, windows_high_written, windows_others_written, combines_written, combines_others_written, main_written, sub_written, main_masks_written, sub_masks_written, arithmetic_written, settings_written, colour_selected, fixed_colour_written}
use Rattle.ppu_regs.specs.Writes.{registers_written}

either : (b : Bool) (r s : Registers) → AreInRange r → AreInRange s → AreInRange (if b then r else s)
either true r s hr hs = hr
either false r s hr hs = hs

display_written_keeps : (r : Registers) (v : ℕ) → v < 256 → AreInRange r → AreInRange (display_written r v)
unfolding display_written
display_written_keeps r v byte h = record { mode = h.mode; mosaic = h.mosaic; brightness = omega arith; size_code = h.size_code; gap = h.gap; first_object = h.first_object; oam_address = h.oam_address; red = h.red; green = h.green; blue = h.blue }

object_tiles_written_keeps : (r : Registers) (v : ℕ) → v < 256 → AreInRange r → AreInRange (object_tiles_written r v)
unfolding object_tiles_written
object_tiles_written_keeps r v byte h = record { mode = h.mode; mosaic = h.mosaic; brightness = h.brightness; size_code = omega arith; gap = omega arith; first_object = h.first_object; oam_address = h.oam_address; red = h.red; green = h.green; blue = h.blue }

oam_low_written_keeps : (r : Registers) (v : ℕ) → v < 256 → AreInRange r → AreInRange (oam_low_written r v)
unfolding oam_low_written
oam_low_written_keeps r v byte h = record { mode = h.mode; mosaic = h.mosaic; brightness = h.brightness; size_code = h.size_code; gap = h.gap; first_object = omega arith; oam_address = omega arith; red = h.red; green = h.green; blue = h.blue }

oam_high_written_keeps : (r : Registers) (v : ℕ) → v < 256 → AreInRange r → AreInRange (oam_high_written r v)
unfolding oam_high_written
oam_high_written_keeps r v byte h = record { mode = h.mode; mosaic = h.mosaic; brightness = h.brightness; size_code = h.size_code; gap = h.gap; first_object = omega arith; oam_address = omega arith; red = h.red; green = h.green; blue = h.blue }

mode_written_keeps : (r : Registers) (v : ℕ) → v < 256 → AreInRange r → AreInRange (mode_written r v)
unfolding mode_written
mode_written_keeps r v byte h = record { mode = omega arith; mosaic = h.mosaic; brightness = h.brightness; size_code = h.size_code; gap = h.gap; first_object = h.first_object; oam_address = h.oam_address; red = h.red; green = h.green; blue = h.blue }

mosaic_written_keeps : (r : Registers) (v : ℕ) → v < 256 → AreInRange r → AreInRange (mosaic_written r v)
unfolding mosaic_written
mosaic_written_keeps r v byte h = record { mode = h.mode; mosaic = omega arith; brightness = h.brightness; size_code = h.size_code; gap = h.gap; first_object = h.first_object; oam_address = h.oam_address; red = h.red; green = h.green; blue = h.blue }

tiles_low_written_keeps : (r : Registers) (v : ℕ) → v < 256 → AreInRange r → AreInRange (tiles_low_written r v)
unfolding tiles_low_written
tiles_low_written_keeps r v byte h = record { mode = h.mode; mosaic = h.mosaic; brightness = h.brightness; size_code = h.size_code; gap = h.gap; first_object = h.first_object; oam_address = h.oam_address; red = h.red; green = h.green; blue = h.blue }

tiles_high_written_keeps : (r : Registers) (v : ℕ) → v < 256 → AreInRange r → AreInRange (tiles_high_written r v)
unfolding tiles_high_written
tiles_high_written_keeps r v byte h = record { mode = h.mode; mosaic = h.mosaic; brightness = h.brightness; size_code = h.size_code; gap = h.gap; first_object = h.first_object; oam_address = h.oam_address; red = h.red; green = h.green; blue = h.blue }

vram_step_written_keeps : (r : Registers) (v : ℕ) → v < 256 → AreInRange r → AreInRange (vram_step_written r v)
unfolding vram_step_written
vram_step_written_keeps r v byte h = record { mode = h.mode; mosaic = h.mosaic; brightness = h.brightness; size_code = h.size_code; gap = h.gap; first_object = h.first_object; oam_address = h.oam_address; red = h.red; green = h.green; blue = h.blue }

cgram_index_written_keeps : (r : Registers) (v : ℕ) → v < 256 → AreInRange r → AreInRange (cgram_index_written r v)
unfolding cgram_index_written
cgram_index_written_keeps r v byte h = record { mode = h.mode; mosaic = h.mosaic; brightness = h.brightness; size_code = h.size_code; gap = h.gap; first_object = h.first_object; oam_address = h.oam_address; red = h.red; green = h.green; blue = h.blue }

windows_low_written_keeps : (r : Registers) (v : ℕ) → v < 256 → AreInRange r → AreInRange (windows_low_written r v)
unfolding windows_low_written
windows_low_written_keeps r v byte h = record { mode = h.mode; mosaic = h.mosaic; brightness = h.brightness; size_code = h.size_code; gap = h.gap; first_object = h.first_object; oam_address = h.oam_address; red = h.red; green = h.green; blue = h.blue }

windows_high_written_keeps : (r : Registers) (v : ℕ) → v < 256 → AreInRange r → AreInRange (windows_high_written r v)
unfolding windows_high_written
windows_high_written_keeps r v byte h = record { mode = h.mode; mosaic = h.mosaic; brightness = h.brightness; size_code = h.size_code; gap = h.gap; first_object = h.first_object; oam_address = h.oam_address; red = h.red; green = h.green; blue = h.blue }

windows_others_written_keeps : (r : Registers) (v : ℕ) → v < 256 → AreInRange r → AreInRange (windows_others_written r v)
unfolding windows_others_written
windows_others_written_keeps r v byte h = record { mode = h.mode; mosaic = h.mosaic; brightness = h.brightness; size_code = h.size_code; gap = h.gap; first_object = h.first_object; oam_address = h.oam_address; red = h.red; green = h.green; blue = h.blue }

combines_written_keeps : (r : Registers) (v : ℕ) → v < 256 → AreInRange r → AreInRange (combines_written r v)
unfolding combines_written
combines_written_keeps r v byte h = record { mode = h.mode; mosaic = h.mosaic; brightness = h.brightness; size_code = h.size_code; gap = h.gap; first_object = h.first_object; oam_address = h.oam_address; red = h.red; green = h.green; blue = h.blue }

combines_others_written_keeps : (r : Registers) (v : ℕ) → v < 256 → AreInRange r → AreInRange (combines_others_written r v)
unfolding combines_others_written
combines_others_written_keeps r v byte h = record { mode = h.mode; mosaic = h.mosaic; brightness = h.brightness; size_code = h.size_code; gap = h.gap; first_object = h.first_object; oam_address = h.oam_address; red = h.red; green = h.green; blue = h.blue }

main_written_keeps : (r : Registers) (v : ℕ) → v < 256 → AreInRange r → AreInRange (main_written r v)
unfolding main_written
main_written_keeps r v byte h = record { mode = h.mode; mosaic = h.mosaic; brightness = h.brightness; size_code = h.size_code; gap = h.gap; first_object = h.first_object; oam_address = h.oam_address; red = h.red; green = h.green; blue = h.blue }

sub_written_keeps : (r : Registers) (v : ℕ) → v < 256 → AreInRange r → AreInRange (sub_written r v)
unfolding sub_written
sub_written_keeps r v byte h = record { mode = h.mode; mosaic = h.mosaic; brightness = h.brightness; size_code = h.size_code; gap = h.gap; first_object = h.first_object; oam_address = h.oam_address; red = h.red; green = h.green; blue = h.blue }

main_masks_written_keeps : (r : Registers) (v : ℕ) → v < 256 → AreInRange r → AreInRange (main_masks_written r v)
unfolding main_masks_written
main_masks_written_keeps r v byte h = record { mode = h.mode; mosaic = h.mosaic; brightness = h.brightness; size_code = h.size_code; gap = h.gap; first_object = h.first_object; oam_address = h.oam_address; red = h.red; green = h.green; blue = h.blue }

sub_masks_written_keeps : (r : Registers) (v : ℕ) → v < 256 → AreInRange r → AreInRange (sub_masks_written r v)
unfolding sub_masks_written
sub_masks_written_keeps r v byte h = record { mode = h.mode; mosaic = h.mosaic; brightness = h.brightness; size_code = h.size_code; gap = h.gap; first_object = h.first_object; oam_address = h.oam_address; red = h.red; green = h.green; blue = h.blue }

arithmetic_written_keeps : (r : Registers) (v : ℕ) → v < 256 → AreInRange r → AreInRange (arithmetic_written r v)
unfolding arithmetic_written
arithmetic_written_keeps r v byte h = record { mode = h.mode; mosaic = h.mosaic; brightness = h.brightness; size_code = h.size_code; gap = h.gap; first_object = h.first_object; oam_address = h.oam_address; red = h.red; green = h.green; blue = h.blue }

settings_written_keeps : (r : Registers) (v : ℕ) → v < 256 → AreInRange r → AreInRange (settings_written r v)
unfolding settings_written
settings_written_keeps r v byte h = record { mode = h.mode; mosaic = h.mosaic; brightness = h.brightness; size_code = h.size_code; gap = h.gap; first_object = h.first_object; oam_address = h.oam_address; red = h.red; green = h.green; blue = h.blue }

colour_selected_keeps : (r : Registers) (v : ℕ) → AreInRange r → AreInRange (record r { colour = colour_selected r.colour v })
unfolding colour_selected
colour_selected_keeps r v h = record { mode = h.mode; mosaic = h.mosaic; brightness = h.brightness; size_code = h.size_code; gap = h.gap; first_object = h.first_object; oam_address = h.oam_address; red = h.red; green = h.green; blue = h.blue }

part_small : (b : Bool) (v old : ℕ) → old < 32 → (if b then v % 32 else old) < 32
part_small true v old h = omega arith
part_small false v old h = h

fixed_colour_written_keeps : (r : Registers) (v : ℕ) → AreInRange r → AreInRange (record r { colour = fixed_colour_written r.colour v })
unfolding fixed_colour_written
fixed_colour_written_keeps r v h = record { mode = h.mode; mosaic = h.mosaic; brightness = h.brightness; size_code = h.size_code; gap = h.gap; first_object = h.first_object; oam_address = h.oam_address; red = part_small _ v _ h.red; green = part_small _ v _ h.green; blue = part_small _ v _ h.blue }

map1_keeps : (r : Registers) (b : Background) → AreInRange r → AreInRange (record r { bg1 = b })
map1_keeps r b h = record { mode = h.mode; mosaic = h.mosaic; brightness = h.brightness; size_code = h.size_code; gap = h.gap; first_object = h.first_object; oam_address = h.oam_address; red = h.red; green = h.green; blue = h.blue }

scroll1_keeps : (r : Registers) (b : Background) (k : ℕ) → AreInRange r → AreInRange (record r { bg1 = b; scroll_kept = k })
scroll1_keeps r b k h = record { mode = h.mode; mosaic = h.mosaic; brightness = h.brightness; size_code = h.size_code; gap = h.gap; first_object = h.first_object; oam_address = h.oam_address; red = h.red; green = h.green; blue = h.blue }

map2_keeps : (r : Registers) (b : Background) → AreInRange r → AreInRange (record r { bg2 = b })
map2_keeps r b h = record { mode = h.mode; mosaic = h.mosaic; brightness = h.brightness; size_code = h.size_code; gap = h.gap; first_object = h.first_object; oam_address = h.oam_address; red = h.red; green = h.green; blue = h.blue }

scroll2_keeps : (r : Registers) (b : Background) (k : ℕ) → AreInRange r → AreInRange (record r { bg2 = b; scroll_kept = k })
scroll2_keeps r b k h = record { mode = h.mode; mosaic = h.mosaic; brightness = h.brightness; size_code = h.size_code; gap = h.gap; first_object = h.first_object; oam_address = h.oam_address; red = h.red; green = h.green; blue = h.blue }

map3_keeps : (r : Registers) (b : Background) → AreInRange r → AreInRange (record r { bg3 = b })
map3_keeps r b h = record { mode = h.mode; mosaic = h.mosaic; brightness = h.brightness; size_code = h.size_code; gap = h.gap; first_object = h.first_object; oam_address = h.oam_address; red = h.red; green = h.green; blue = h.blue }

scroll3_keeps : (r : Registers) (b : Background) (k : ℕ) → AreInRange r → AreInRange (record r { bg3 = b; scroll_kept = k })
scroll3_keeps r b k h = record { mode = h.mode; mosaic = h.mosaic; brightness = h.brightness; size_code = h.size_code; gap = h.gap; first_object = h.first_object; oam_address = h.oam_address; red = h.red; green = h.green; blue = h.blue }

map4_keeps : (r : Registers) (b : Background) → AreInRange r → AreInRange (record r { bg4 = b })
map4_keeps r b h = record { mode = h.mode; mosaic = h.mosaic; brightness = h.brightness; size_code = h.size_code; gap = h.gap; first_object = h.first_object; oam_address = h.oam_address; red = h.red; green = h.green; blue = h.blue }

scroll4_keeps : (r : Registers) (b : Background) (k : ℕ) → AreInRange r → AreInRange (record r { bg4 = b; scroll_kept = k })
scroll4_keeps r b k h = record { mode = h.mode; mosaic = h.mosaic; brightness = h.brightness; size_code = h.size_code; gap = h.gap; first_object = h.first_object; oam_address = h.oam_address; red = h.red; green = h.green; blue = h.blue }

scroll1m_keeps : (r : Registers) (b : Background) (k : ℕ) (m : Rotation) → AreInRange r → AreInRange (record r { bg1 = b; scroll_kept = k; rotation = m })
scroll1m_keeps r b k m h = record { mode = h.mode; mosaic = h.mosaic; brightness = h.brightness; size_code = h.size_code; gap = h.gap; first_object = h.first_object; oam_address = h.oam_address; red = h.red; green = h.green; blue = h.blue }

rotation_keeps : (r : Registers) (m : Rotation) → AreInRange r → AreInRange (record r { rotation = m })
rotation_keeps r m h = record { mode = h.mode; mosaic = h.mosaic; brightness = h.brightness; size_code = h.size_code; gap = h.gap; first_object = h.first_object; oam_address = h.oam_address; red = h.red; green = h.green; blue = h.blue }

one_keeps : (r : Registers) (w : Window) → AreInRange r → AreInRange (record r { window_one = w })
one_keeps r w h = record { mode = h.mode; mosaic = h.mosaic; brightness = h.brightness; size_code = h.size_code; gap = h.gap; first_object = h.first_object; oam_address = h.oam_address; red = h.red; green = h.green; blue = h.blue }

two_keeps : (r : Registers) (w : Window) → AreInRange r → AreInRange (record r { window_two = w })
two_keeps r w h = record { mode = h.mode; mosaic = h.mosaic; brightness = h.brightness; size_code = h.size_code; gap = h.gap; first_object = h.first_object; oam_address = h.oam_address; red = h.red; green = h.green; blue = h.blue }

pub write_keeps : (r : Registers) (reg v : ℕ) → v < 256 → AreInRange r → AreInRange (registers_written r reg v)
unfolding registers_written
write_keeps r reg v byte h =
    either (reg == 0x00) _ _ (display_written_keeps r v byte h) (
    either (reg == 0x01) _ _ (object_tiles_written_keeps r v byte h) (
    either (reg == 0x02) _ _ (oam_low_written_keeps r v byte h) (
    either (reg == 0x03) _ _ (oam_high_written_keeps r v byte h) (
    either (reg == 0x05) _ _ (mode_written_keeps r v byte h) (
    either (reg == 0x06) _ _ (mosaic_written_keeps r v byte h) (
    either (reg == 0x07) _ _ (map1_keeps r _ h) (
    either (reg == 0x08) _ _ (map2_keeps r _ h) (
    either (reg == 0x09) _ _ (map3_keeps r _ h) (
    either (reg == 0x0a) _ _ (map4_keeps r _ h) (
    either (reg == 0x0b) _ _ (tiles_low_written_keeps r v byte h) (
    either (reg == 0x0c) _ _ (tiles_high_written_keeps r v byte h) (
    either (reg == 0x0d) _ _ (scroll1m_keeps r _ _ _ h) (
    either (reg == 0x0e) _ _ (scroll1m_keeps r _ _ _ h) (
    either (reg == 0x0f) _ _ (scroll2_keeps r _ _ h) (
    either (reg == 0x10) _ _ (scroll2_keeps r _ _ h) (
    either (reg == 0x11) _ _ (scroll3_keeps r _ _ h) (
    either (reg == 0x12) _ _ (scroll3_keeps r _ _ h) (
    either (reg == 0x13) _ _ (scroll4_keeps r _ _ h) (
    either (reg == 0x14) _ _ (scroll4_keeps r _ _ h) (
    either (reg == 0x15) _ _ (vram_step_written_keeps r v byte h) (
    either (reg == 0x1a) _ _ (rotation_keeps r _ h) (
    either (reg == 0x1b) _ _ (rotation_keeps r _ h) (
    either (reg == 0x1c) _ _ (rotation_keeps r _ h) (
    either (reg == 0x1d) _ _ (rotation_keeps r _ h) (
    either (reg == 0x1e) _ _ (rotation_keeps r _ h) (
    either (reg == 0x1f) _ _ (rotation_keeps r _ h) (
    either (reg == 0x20) _ _ (rotation_keeps r _ h) (
    either (reg == 0x21) _ _ (cgram_index_written_keeps r v byte h) (
    either (reg == 0x23) _ _ (windows_low_written_keeps r v byte h) (
    either (reg == 0x24) _ _ (windows_high_written_keeps r v byte h) (
    either (reg == 0x25) _ _ (windows_others_written_keeps r v byte h) (
    either (reg == 0x26) _ _ (one_keeps r _ h) (
    either (reg == 0x27) _ _ (one_keeps r _ h) (
    either (reg == 0x28) _ _ (two_keeps r _ h) (
    either (reg == 0x29) _ _ (two_keeps r _ h) (
    either (reg == 0x2a) _ _ (combines_written_keeps r v byte h) (
    either (reg == 0x2b) _ _ (combines_others_written_keeps r v byte h) (
    either (reg == 0x2c) _ _ (main_written_keeps r v byte h) (
    either (reg == 0x2d) _ _ (sub_written_keeps r v byte h) (
    either (reg == 0x2e) _ _ (main_masks_written_keeps r v byte h) (
    either (reg == 0x2f) _ _ (sub_masks_written_keeps r v byte h) (
    either (reg == 0x30) _ _ (colour_selected_keeps r v h) (
    either (reg == 0x31) _ _ (arithmetic_written_keeps r v byte h) (
    either (reg == 0x32) _ _ (fixed_colour_written_keeps r v h) (
    either (reg == 0x33) _ _ (settings_written_keeps r v byte h) (
    h))))))))))))))))))))))))))))))))))))))))))))))
