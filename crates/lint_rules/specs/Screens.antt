-- Which registers a picture depends on, objects that are not square, and the backdrop of high resolution. After fullsnes ("SNES PPU
-- Control", "SNES PPU Window", 2101h OBSEL, 2105h BGMODE); which registers count, is this project's choice.
use Rattle.std.specs.Prelude.{ℕ, ◌+◌, ◌-◌, ◌/◌, ◌%◌, Option, Some, None, Bool, true, false, not, ◌&&◌, ◌||◌, ◌==◌, nat_le, nat_lt, if◌then◌else◌}
use Rattle.lint_rules.specs.declared.screen.Screen.{Screen}
use Rattle.lint_rules.specs.declared.objects.Object.{Object}
use Rattle.lint_rules.specs.declared.rule.Rule.{Rule}
use Rattle.lint_rules.specs.declared.rule.Rule.TheVariants.{RegistersUnset, VerticalFlipOfHalves, BackdropInHighResolution}
use Rattle.lint_rules.specs.Picture.{lies}

abbrev pub has_bit : ℕ → ℕ → Bool
has_bit byte weight = byte / weight % 2 == 1

-- the picture has half-pixels
abbrev pub is_fine : Screen → Bool
is_fine s = (s.mode == 5 || s.mode == 6) || has_bit s.settings 8

-- the sub screen is seen: by half-pixels, or by colour math that takes it
abbrev pub takes_sub : Screen → Bool
takes_sub s = is_fine s || (has_bit s.select 2 && not (s.math % 64 == 0))

-- a layer, by its weight in 212C and 212D, is on a screen that is seen
abbrev pub shows : Screen → ℕ → Bool
shows s weight = has_bit s.main weight || (takes_sub s && has_bit s.sub weight)

-- the backgrounds of a mode, but for the plane of mode 7
abbrev pub layers_of : ℕ → ℕ
layers_of mode = if mode == 0 then 4 else if mode == 1 then 3 else if mode == 6 then 1 else if mode == 7 then 0 else 2

abbrev pub weight_of : ℕ → ℕ
weight_of layer = if layer == 0 then 1 else if layer == 1 then 2 else if layer == 2 then 4 else 8

abbrev pub shows_layer : Screen → ℕ → Bool
shows_layer s layer = nat_lt layer (layers_of s.mode) && shows s (weight_of layer)

abbrev pub shows_any : Screen → Bool
shows_any s = ((shows_layer s 0 || shows_layer s 1) || shows_layer s 2) || shows_layer s 3

-- the plane of mode 7, as BG1, or as BG2 with EXTBG
abbrev pub shows_plane : Screen → Bool → Bool
shows_plane s is_second = if is_second then has_bit s.settings 64 && shows s 2 else shows s 1

abbrev pub shows_seven : Screen → Bool
shows_seven s = s.mode == 7 && (shows_plane s false || shows_plane s true)

-- BG3's map has scrolls of columns
abbrev pub moves_columns : Screen → Bool
moves_columns s = ((s.mode == 2 || s.mode == 4) || s.mode == 6) && shows_any s

abbrev pub needs_map : Screen → ℕ → Bool
needs_map s layer = shows_layer s layer || (layer == 2 && moves_columns s)

abbrev pub needs_scroll : Screen → ℕ → Bool
needs_scroll s layer = needs_map s layer || (layer == 0 && shows_seven s)

-- The windows. 2123 to 2125 have four bits for each of BG1 to BG4, the objects and colours, 0 to 5 here: bit 1 turns window 1 on, bit 3
-- window 2. 212A and 212B join the two windows.

-- the mode has a background, from 0: the plane of mode 7 is BG1, and BG2 with EXTBG
abbrev pub has_layer : Screen → ℕ → Bool
has_layer s layer = nat_lt layer (layers_of s.mode) || (s.mode == 7 && (layer == 0 || (layer == 1 && has_bit s.settings 64)))

-- windows mask the layer of a weight on a screen that is seen
abbrev pub is_masked : Screen → ℕ → Bool
is_masked s weight =
    (has_bit s.main weight && has_bit s.masks.main weight)
    || ((takes_sub s && has_bit s.sub weight) && has_bit s.masks.sub weight)

-- the colour window is taken: inside or outside of it the main screen is black, or colour math is left out
abbrev pub is_of_window : ℕ → Bool
is_of_window code = code == 1 || code == 2

abbrev pub takes_window : Screen → Bool
takes_window s = is_of_window (s.select / 64) || (not (s.math % 64 == 0) && is_of_window (s.select / 16 % 4))

abbrev pub is_windowed : Screen → ℕ → Bool
is_windowed s number =
    if number == 0 then has_layer s 0 && is_masked s 1
    else if number == 1 then has_layer s 1 && is_masked s 2
    else if number == 2 then has_layer s 2 && is_masked s 4
    else if number == 3 then has_layer s 3 && is_masked s 8
    else if number == 4 then is_masked s 16
    else takes_window s

abbrev pub window_bits : Screen → ℕ → ℕ
window_bits s number =
    if number == 0 then s.masks.first % 16
    else if number == 1 then s.masks.first / 16
    else if number == 2 then s.masks.second % 16
    else if number == 3 then s.masks.second / 16
    else if number == 4 then s.masks.third % 16
    else s.masks.third / 16

abbrev pub has_window : Screen → ℕ → ℕ → Bool
has_window s number weight = is_windowed s number && has_bit (window_bits s number) weight

abbrev pub has_both : Screen → ℕ → Bool
has_both s number = has_window s number 2 && has_window s number 8

abbrev pub any_window : Screen → ℕ → Bool
any_window s weight =
    ((((has_window s 0 weight || has_window s 1 weight) || has_window s 2 weight) || has_window s 3 weight) || has_window s 4 weight)
    || has_window s 5 weight

abbrev pub needs_window : Screen → ℕ → Bool
needs_window s register =
    if register == 0x23 then is_windowed s 0 || is_windowed s 1
    else if register == 0x24 then is_windowed s 2 || is_windowed s 3
    else if register == 0x25 then is_windowed s 4 || is_windowed s 5
    else if register == 0x26 || register == 0x27 then any_window s 2
    else if register == 0x28 || register == 0x29 then any_window s 8
    else if register == 0x2a then ((has_both s 0 || has_both s 1) || has_both s 2) || has_both s 3
    else if register == 0x2b then has_both s 4 || has_both s 5
    else false

-- the picture depends on a register, as an offset from 2100
abbrev pub needs_register : Screen → ℕ → Bool
needs_register s register =
    if (register == 0x05 || register == 0x2c) || ((register == 0x2e || register == 0x30) || (register == 0x31 || register == 0x33)) then true
    else if register == 0x01 then shows s 16
    else if register == 0x06 then shows_any s || shows_seven s
    else if lies 0x07 0x0a register then needs_map s (register - 0x07)
    else if register == 0x0b then shows_layer s 0 || shows_layer s 1
    else if register == 0x0c then shows_layer s 2 || shows_layer s 3
    else if lies 0x0d 0x14 register then needs_scroll s ((register - 0x0d) / 2)
    else if lies 0x1a 0x20 register then shows_seven s
    else if lies 0x23 0x2b register then needs_window s register
    else if register == 0x2d || register == 0x2f then takes_sub s
    else if register == 0x32 then not (s.math % 64 == 0)
    else false

abbrev pub unset_broken : Screen → ℕ → Bool → Option Rule
unset_broken s register is_set = if not is_set && needs_register s register then Some RegistersUnset else None

-- the backdrop, colour 0 of CGRAM, is not black
abbrev pub backdrop_broken : Screen → ℕ → Option Rule
backdrop_broken s colour = if is_fine s && not (colour % 32768 == 0) then Some BackdropInHighResolution else None

-- an object of 16 by 32 or 32 by 64
abbrev pub is_tall : Object → Bool
is_tall o = o.size == 6 || (o.size == 7 && not o.large)

abbrev pub object_width : Object → ℕ
object_width o = if o.large then 32 else 16

abbrev pub object_height : Object → ℕ
object_height o = if o.large then 64 else 32

-- a pixel of it is in rows 0 to rows - 1 (modulo 256), and in columns 0 to 255 (modulo 512)
abbrev pub is_on_rows : Object → ℕ → Bool
is_on_rows o rows = nat_lt o.y rows || nat_lt 256 (o.y + object_height o)

abbrev pub is_on_columns : Object → Bool
is_on_columns o = nat_lt o.x 256 || nat_lt 512 (o.x + object_width o)

abbrev pub flip_broken : Object → ℕ → Option Rule
flip_broken o rows =
    if ((is_tall o && nat_le 128 o.attributes) && is_on_rows o rows) && is_on_columns o then Some VerticalFlipOfHalves else None
