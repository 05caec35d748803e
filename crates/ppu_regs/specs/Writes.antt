-- What a write of 2100 to 213F makes of the picture unit: a table by register.
use Rattle.std.specs.Prelude.{ℕ, true, false, ◌*◌, ◌==◌, ◌||◌, Option, None, Some, if◌then◌else◌}
use Rattle.ppu_regs.specs.declared.registers.Registers.{Registers}
use Rattle.ppu_regs.specs.declared.registers.Over.{Over}
use Rattle.ppu_regs.specs.Picture.{Picture}
use Rattle.ppu_regs.specs.Pages.{display_written, object_tiles_written, oam_low_written, oam_high_written, mode_written}
use Rattle.ppu_regs.specs.Pages.{mosaic_written, map_written, tiles_low_written, tiles_high_written, scrolled_across}
use Rattle.ppu_regs.specs.Pages.{scrolled_down, rotation_scrolled_across, rotation_scrolled_down, vram_step_written}
use Rattle.ppu_regs.specs.Pages.{rotation_settings_written, rotation_a_written, rotation_b_written, rotation_c_written}
use Rattle.ppu_regs.specs.Pages.{rotation_d_written, rotation_x_written, rotation_y_written, cgram_index_written}
use Rattle.ppu_regs.specs.Pages.{windows_low_written, windows_high_written, windows_others_written, combines_written}
use Rattle.ppu_regs.specs.Pages.{combines_others_written, main_written, sub_written, main_masks_written}
use Rattle.ppu_regs.specs.Pages.{sub_masks_written, colour_selected, arithmetic_written, fixed_colour_written}
use Rattle.ppu_regs.specs.Pages.{settings_written}
use Rattle.ppu_regs.specs.Ports.{oam_bytes_written, oam_port_written, vram_place, vram_low_aimed, vram_high_aimed}
use Rattle.ppu_regs.specs.Ports.{vram_low_written, vram_high_written, vram_port_after, cgram_written}
use Rattle.ppu_regs.specs.Ports.{cgram_port_written}

-- the registers after a byte v, but for those that reach a memory: 2104, 2116 to 2119 and 2122. 2134 to
-- 213F can't be written.
unfoldable pub registers_written : Registers → ℕ → ℕ → Registers
registers_written r reg v =
    if reg == 0x00 then display_written r v
    else if reg == 0x01 then object_tiles_written r v
    else if reg == 0x02 then oam_low_written r v
    else if reg == 0x03 then oam_high_written r v
    else if reg == 0x05 then mode_written r v
    else if reg == 0x06 then mosaic_written r v
    else if reg == 0x07 then (record r { bg1 = map_written r.bg1 v })
    else if reg == 0x08 then (record r { bg2 = map_written r.bg2 v })
    else if reg == 0x09 then (record r { bg3 = map_written r.bg3 v })
    else if reg == 0x0a then (record r { bg4 = map_written r.bg4 v })
    else if reg == 0x0b then tiles_low_written r v
    else if reg == 0x0c then tiles_high_written r v
    else if reg == 0x0d then (record r {
      bg1 = scrolled_across r.bg1 r.scroll_kept v;
      scroll_kept = v;
      rotation = rotation_scrolled_across r.rotation v;
    })
    else if reg == 0x0e then (record r {
      bg1 = scrolled_down r.bg1 r.scroll_kept v;
      scroll_kept = v;
      rotation = rotation_scrolled_down r.rotation v;
    })
    else if reg == 0x0f then (record r { bg2 = scrolled_across r.bg2 r.scroll_kept v; scroll_kept = v })
    else if reg == 0x10 then (record r { bg2 = scrolled_down r.bg2 r.scroll_kept v; scroll_kept = v })
    else if reg == 0x11 then (record r { bg3 = scrolled_across r.bg3 r.scroll_kept v; scroll_kept = v })
    else if reg == 0x12 then (record r { bg3 = scrolled_down r.bg3 r.scroll_kept v; scroll_kept = v })
    else if reg == 0x13 then (record r { bg4 = scrolled_across r.bg4 r.scroll_kept v; scroll_kept = v })
    else if reg == 0x14 then (record r { bg4 = scrolled_down r.bg4 r.scroll_kept v; scroll_kept = v })
    else if reg == 0x15 then vram_step_written r v
    else if reg == 0x1a then (record r { rotation = rotation_settings_written r.rotation v })
    else if reg == 0x1b then (record r { rotation = rotation_a_written r.rotation v })
    else if reg == 0x1c then (record r { rotation = rotation_b_written r.rotation v })
    else if reg == 0x1d then (record r { rotation = rotation_c_written r.rotation v })
    else if reg == 0x1e then (record r { rotation = rotation_d_written r.rotation v })
    else if reg == 0x1f then (record r { rotation = rotation_x_written r.rotation v })
    else if reg == 0x20 then (record r { rotation = rotation_y_written r.rotation v })
    else if reg == 0x21 then cgram_index_written r v
    else if reg == 0x23 then windows_low_written r v
    else if reg == 0x24 then windows_high_written r v
    else if reg == 0x25 then windows_others_written r v
    else if reg == 0x26 then (record r { window_one = record r.window_one { left = v } })
    else if reg == 0x27 then (record r { window_one = record r.window_one { right = v } })
    else if reg == 0x28 then (record r { window_two = record r.window_two { left = v } })
    else if reg == 0x29 then (record r { window_two = record r.window_two { right = v } })
    else if reg == 0x2a then combines_written r v
    else if reg == 0x2b then combines_others_written r v
    else if reg == 0x2c then main_written r v
    else if reg == 0x2d then sub_written r v
    else if reg == 0x2e then main_masks_written r v
    else if reg == 0x2f then sub_masks_written r v
    else if reg == 0x30 then (record r { colour = colour_selected r.colour v })
    else if reg == 0x31 then arithmetic_written r v
    else if reg == 0x32 then (record r { colour = fixed_colour_written r.colour v })
    else if reg == 0x33 then settings_written r v
    else r

-- the unit after 2104 OAMDATA
unfoldable pub oam_written : Picture → ℕ → Picture
oam_written p v = record p {
  registers = record p.registers { oam = oam_port_written p.registers.oam v };
  oam = oam_bytes_written p.oam p.registers.oam v;
}

-- after 2116 VMADDL
unfoldable pub vram_low_set : Picture → ℕ → Picture
vram_low_set p v =
    record p { registers = record p.registers { vram = vram_low_aimed p.vram p.registers.vram v } }

-- after 2117 VMADDH
unfoldable pub vram_high_set : Picture → ℕ → Picture
vram_high_set p v =
    record p { registers = record p.registers { vram = vram_high_aimed p.vram p.registers.vram v } }

-- after 2118 VMDATAL
unfoldable pub vram_low_put : Picture → ℕ → Picture
vram_low_put p v = record p {
  registers = record p.registers { vram = vram_port_after p.registers.vram false };
  vram = vram_low_written p.vram p.registers.vram v;
}

-- after 2119 VMDATAH
unfoldable pub vram_high_put : Picture → ℕ → Picture
vram_high_put p v = record p {
  registers = record p.registers { vram = vram_port_after p.registers.vram true };
  vram = vram_high_written p.vram p.registers.vram v;
}

-- after a write of 2118 (or of 2119, if `reg` is 19h) that VRAM does not take: the address steps by the same rule,
-- nothing else
unfoldable pub vram_passed : Picture → ℕ → Picture
vram_passed p reg =
    record p { registers = record p.registers { vram = vram_port_after p.registers.vram (reg == 0x19) } }

-- after 2122 CGDATA
unfoldable pub colour_put : Picture → ℕ → Picture
colour_put p v = record p {
  registers = record p.registers { cgram = cgram_port_written p.registers.cgram v };
  cgram = cgram_written p.cgram p.registers.cgram v;
}

-- the unit after a byte v is written to the register 2100 + reg
unfoldable pub after_write : Picture → ℕ → ℕ → Picture
after_write p reg v =
    if reg == 0x04 then oam_written p v
    else if reg == 0x16 then vram_low_set p v
    else if reg == 0x17 then vram_high_set p v
    else if reg == 0x18 then vram_low_put p v
    else if reg == 0x19 then vram_high_put p v
    else if reg == 0x22 then colour_put p v
    else (record p { registers = registers_written p.registers reg v })

-- the word of VRAM that a write of the register writes, if it is 2118 or 2119
unfoldable pub word_written : Picture → ℕ → Option ℕ
word_written p reg = if (reg == 0x18) || (reg == 0x19) then Some (vram_place p.registers.vram) else None

-- the flags of the objects' limits with those of one more row
abbrev pub over_with : Over → Over → Over
over_with o row = record { range = o.range || row.range; time = o.time || row.time }

abbrev pub after_over : Picture → Over → Picture
after_over p row = record p { registers = record p.registers { over = over_with p.registers.over row } }

-- a new frame clears the flags
abbrev pub after_frame : Picture → Picture
after_frame p = record p { registers = record p.registers { over = record { range = false; time = false } } }

-- vertical blank loads the byte address of OAM anew, unless forced blank is set
abbrev pub after_blank : Picture → Picture
after_blank p =
    if p.registers.display.blanked then p
    else (record p {
      registers = record p.registers {
        oam = record p.registers.oam { address = 2 * p.registers.oam.word };
      };
    })
