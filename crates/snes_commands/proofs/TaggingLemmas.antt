-- What a setting takes is not refused as the content of the field of its name.
use Rattle.std.proofs.Common.{◌≡◌, ℕ, Bool, true, false, not, ◌&&◌, ◌||◌, nat_le, nat_lt, ◌==◌, if◌then◌else◌, List, length, Some, None, refl, sym, ◌∙◌, subst, arith}
use Rattle.std.specs.List.{list_all}
use Rattle.std.proofs.lemmas.Bool.{leb-true, le-ltb, ne_eqb}
use Rattle.std.specs.Char.{is_ascii_digit}
use Rattle.run_io.specs.declared.options.Setting.{Setting}
use Rattle.run_io.specs.declared.options.Setting.TheVariants as setting
use Rattle.run_io.specs.Settings.{is_printable, is_label, is_number, accepts, setting_value, is_unset, IsTaken}
use Rattle.sound_tags.specs.declared.field.Field.{Field}
use Rattle.sound_tags.specs.declared.field.Field.TheVariants as field
use Rattle.sound_tags.specs.declared.field.Form.TheVariants.{Text}
use Rattle.sound_tags.specs.Fields.{size_of, is_number as is_number_field}
use Rattle.sound_tags.specs.declared.area.FieldRefused.{FieldRefused}
use Rattle.sound_tags.specs.Put.{refusal_of}
use Rattle.snes_commands.specs.Tagging.{sets}

-- one of two holds
other : (a b : Bool) → a || b ≡ true → a ≡ false → b ≡ true
other true b h e = absurd cc
other false b h e = h

both : (a b : Bool) → a && b ≡ true → (a ≡ true) × (b ≡ true)
both true b h = (refl, h)
both false b h = absurd cc

first : {A : Type 0} (b : Bool) (x y : A) → b ≡ true → (if b then x else y) ≡ x
first true x y e = refl
first false x y e = absurd cc

second : {A : Type 0} (b : Bool) (x y : A) → b ≡ false → (if b then x else y) ≡ y
second true x y e = absurd cc
second false x y e = refl

negated : (b : Bool) → b ≡ true → not b ≡ false
negated true e = refl
negated false e = absurd cc

neither : (a b : Bool) → a ≡ false → b ≡ false → a || b ≡ false
neither true b h e = absurd cc
neither false b h e = e

short : (size : ℕ) (text : List ℕ) → nat_le (length text) size ≡ true → nat_lt size (length text) ≡ false
short size text h = le-ltb size (length text) (leb-true (length text) size h)

some : (text : List ℕ) → nat_le 1 (length text) ≡ true → (length text == 0) ≡ false
some text h = ne_eqb (length text) 0 (λ e. let more = leb-true 1 (length text) h in omega (arith, e, more))

-- a text that fits and is printable is not refused, nor is a number of few digits
text_taken : (text : List ℕ) (field : Field) → is_number_field field ≡ false → size_of Text field ≡ 32 → is_label text ≡ true → refusal_of field text ≡ None
unfolding is_label refusal_of
text_taken text field kind size h =
    let parts = both (nat_le 1 (length text)) (nat_le (length text) 32 && list_all is_printable text) h in
    let more = both (nat_le (length text) 32) (list_all is_printable text) parts.1 in
    let fits : nat_lt (size_of Text field) (length text) ≡ false = subst (λ (n : ℕ). nat_lt n (length text) ≡ false) (sym size) (short 32 text more.0) in
    second (is_number_field field) _ _ kind
    ∙ second (nat_lt (size_of Text field) (length text)) _ _ fits
    ∙ second (not (list_all is_printable text)) _ _ (negated (list_all is_printable text) more.1)

number_taken : (digits : ℕ) (text : List ℕ) (field : Field) → is_number_field field ≡ true → size_of Text field ≡ digits → is_number digits text ≡ true → refusal_of field text ≡ None
unfolding is_number refusal_of
number_taken digits text field kind size h =
    let parts = both (nat_le 1 (length text)) (nat_le (length text) digits && list_all is_ascii_digit text) h in
    let more = both (nat_le (length text) digits) (list_all is_ascii_digit text) parts.1 in
    let fits : nat_lt (size_of Text field) (length text) ≡ false = subst (λ (n : ℕ). nat_lt n (length text) ≡ false) (sym size) (short digits text more.0) in
    let spelled : (length text == 0) || not (list_all is_ascii_digit text) ≡ false =
    neither (length text == 0) (not (list_all is_ascii_digit text)) (some text parts.0) (negated (list_all is_ascii_digit text) more.1) in
    first (is_number_field field) _ _ kind
    ∙ second ((length text == 0) || not (list_all is_ascii_digit text)) _ _ spelled
    ∙ second (nat_lt (size_of Text field) (length text)) _ _ fits

unrefused : (text : List ℕ) (setting : Setting) (field : Field) → sets setting field ≡ true → accepts setting text ≡ true → refusal_of field text ≡ None
unfolding accepts
unrefused text setting.Title field.Title named h = text_taken text field.Title refl refl h
unrefused text setting.Game field.Game named h = text_taken text field.Game refl refl h
unrefused text setting.Artist field.Artist named h = text_taken text field.Artist refl refl h
unrefused text setting.Comment field.Comment named h = text_taken text field.Comment refl refl h
unrefused text setting.Length field.Length named h = number_taken 3 text field.Length refl refl h
unrefused text setting.Fade field.Fade named h = number_taken 5 text field.Fade refl refl h
unrefused text _ _ named h = absurd cc

fits : (pairs : List (List ℕ)) (setting : Setting) (field : Field) → sets setting field ≡ true → IsTaken pairs setting → is_unset pairs setting ≡ false → refusal_of field (setting_value pairs setting) ≡ None
fits pairs setting field named taken set =
    unrefused (setting_value pairs setting) setting field named (other (is_unset pairs setting) (accepts setting (setting_value pairs setting)) taken set)

-- so no text of a setting that takes it is refused
pub never : (pairs : List (List ℕ)) (setting : Setting) (field : Field) (text : List ℕ) (why : FieldRefused)
    → text ≡ setting_value pairs setting → sets setting field ≡ true → IsTaken pairs setting → is_unset pairs setting ≡ false → refusal_of field text ≡ Some why → ⊥
never pairs setting field text why is named taken set refused =
    let none : refusal_of field text ≡ None = subst (λ (t : List ℕ). refusal_of field t ≡ None) (sym is) (fits pairs setting field named taken set) in
    let both : None ≡ Some why = sym none ∙ refused in
    cc
