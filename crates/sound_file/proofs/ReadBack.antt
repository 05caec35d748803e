-- What a player reads from a sound file, part by part.
use Rattle.std.proofs.Common.{◌≡◌, ℕ, ◌+◌, ◌*◌, ◌/◌, ◌%◌, zero, suc, true, false, if◌then◌else◌, List, [], ◌∷◌, ◌++◌, length, take, drop, codes, slice_index, None, refl, ap, sym, subst, ◌∙◌, append_assoc, arith}
use Rattle.std.proofs.lemmas.List.{get_or-append-add, length-append, length-drop, length-replicate, length-set, take-append-le}
use Rattle.std.proofs.Math.Seq.{drop-append_seam, take-append_seam}
use Rattle.spc_tables.specs.declared.regs.SpcRegs.{SpcRegs}
use Rattle.sdsp_voice.specs.Registers.{read}
use Rattle.sdsp_voice.specs.declared.voices.Voices.{Voices}
use Rattle.audio_side.specs.HardwareState.{HardwareState}
use Rattle.audio_side.specs.Kept.{kept_ram, ports_kept, seen_ram, timers_kept, under_boot}
use Rattle.state_file.specs.Bytes.{zeros, shown_below}
use Rattle.spc_player.specs.SoundFile.{image_of, refusal_of, regs_of}
use Rattle.sound_file.specs.Bytes.{text, register_bytes, head_of, last_of, tail_of, sound_bytes}

-- the lengths of the parts
shown_length : (d : Voices) (n : ℕ) → length (shown_below d n) ≡ n
unfolding shown_below
shown_length d zero = refl
shown_length d (suc n) = omega (arith, length-append (shown_below d n) (read d n ∷ []), shown_length d n)

zeros_length : (n : ℕ) → length (zeros n) ≡ n
unfolding zeros
zeros_length n = length-replicate n 0

under_length : (ram' boot' : List ℕ) (n : ℕ) → length (under_boot ram' boot' n) ≡ length ram'
unfolding under_boot
under_length ram' boot' zero = refl
under_length ram' boot' (suc n) = length-set (under_boot ram' boot' n) (0xFFC0 + n) (slice_index boot' n) ∙ under_length ram' boot' n

seen_length : (b : HardwareState) → length (seen_ram b) ≡ length b.ram
unfolding seen_ram
seen_length b = elim b.boot_seen as (λ c. length (if c then under_boot b.ram b.boot 64 else b.ram) ≡ length b.ram) [
  | true ↦ under_length b.ram b.boot 64
  | false ↦ refl
]

ports_length : (l ports : List ℕ) → length (ports_kept l ports) ≡ length l
unfolding ports_kept
ports_length l ports = length-set _ 0xF7 _ ∙ (length-set _ 0xF6 _ ∙ (length-set _ 0xF5 _ ∙ length-set l 0xF4 _))

timers_length : (b : HardwareState) (l : List ℕ) → length (timers_kept b l) ≡ length l
unfolding timers_kept
timers_length b l =
    length-set _ 0xFF _ ∙ (length-set _ 0xFE _ ∙ (length-set _ 0xFD _ ∙ (length-set _ 0xFC _ ∙ (length-set _ 0xFB _ ∙ length-set l 0xFA _))))

kept_length : (b : HardwareState) (ports : List ℕ) → length (kept_ram b ports) ≡ length b.ram
unfolding kept_ram
kept_length b ports =
    timers_length b _ ∙ (ports_length _ ports ∙ (length-set _ 0xF2 _ ∙ (length-set _ 0xF1 _ ∙ seen_length b)))

text_length : length text ≡ 37
unfolding text
text_length = refl

text_begins : take 27 text ≡ codes "SNES-SPC700 Sound File Data"
unfolding text
text_begins = refl

registers_length : (r : SpcRegs) → length (register_bytes r) ≡ 7
unfolding register_bytes
registers_length r = refl

head_length : (r : SpcRegs) → length (head_of r) ≡ 256
unfolding head_of
head_length r =
    omega (arith, length-append text (register_bytes r ++ zeros 212), length-append (register_bytes r) (zeros 212), text_length, registers_length r, zeros_length 212)

last_length : (l : List ℕ) → length l ≡ 65536 → length (last_of l) ≡ 64
unfolding last_of
last_length l size = omega (arith, length-drop 0xFFC0 l, size)

tail_length : (b : HardwareState) → length b.ram ≡ 65536 → length (tail_of b) ≡ 256
unfolding tail_of
tail_length b size =
    omega (arith, length-append (shown_below b.voices 128) (zeros 64 ++ last_of b.ram), length-append (zeros 64) (last_of b.ram), last_length b.ram size, shown_length b.voices 128, zeros_length 64)

-- a part behind others
part : (before it rest : List ℕ) (n m : ℕ) → length before ≡ n → length it ≡ m → take m (drop n (before ++ (it ++ rest))) ≡ it
part before it rest n m at size =
    subst (λ (k : ℕ). take m (drop k (before ++ (it ++ rest))) ≡ it) at
    (ap (take m) (drop-append_seam before (it ++ rest)) ∙ subst (λ (k : ℕ). take k (it ++ rest) ≡ it) size (take-append_seam it rest))

-- a byte behind the text
byte : (begin rest : List ℕ) (n k : ℕ) → length begin ≡ 37 → k ≡ 37 + n → slice_index (begin ++ rest) k ≡ slice_index rest n
byte begin rest n k size is =
    ap (slice_index (begin ++ rest)) (is ∙ ap (λ (l : ℕ). l + n) (sym size)) ∙ get_or-append-add begin rest n 0

registers_are : (rest : List ℕ) (r : SpcRegs) → regs_of (text ++ (register_bytes r ++ rest)) ≡ r
unfolding regs_of register_bytes
registers_are rest r =
    let more = (r.pc % 256 ∷ (r.pc / 256 ∷ (r.a ∷ (r.x ∷ (r.y ∷ (r.psw ∷ (r.sp ∷ []))))))) ++ rest in
    let whole : r.pc % 256 + 256 * (r.pc / 256) ≡ r.pc = omega arith in
    rw (
      byte text more 2 0x27 text_length refl,
      byte text more 3 0x28 text_length refl,
      byte text more 4 0x29 text_length refl,
      byte text more 6 0x2B text_length refl,
      byte text more 0 0x25 text_length refl,
      byte text more 1 0x26 text_length refl,
      byte text more 5 0x2A text_length refl,
      whole,
    ) refl

module _ (r : SpcRegs) (b : HardwareState) (ports : List ℕ) (size : length b.ram ≡ 65536) where
  ram_length : length (kept_ram b ports) ≡ 65536
  ram_length = kept_length b ports ∙ size

  by_text : sound_bytes r b ports ≡ text ++ (register_bytes r ++ (zeros 212 ++ (kept_ram b ports ++ tail_of b)))
  unfolding sound_bytes head_of
  by_text =
      append_assoc text (register_bytes r ++ zeros 212) (kept_ram b ports ++ tail_of b)
      ∙ ap (λ (l : List ℕ). text ++ l) (append_assoc (register_bytes r) (zeros 212) (kept_ram b ports ++ tail_of b))

  by_ram : sound_bytes r b ports ≡ head_of r ++ (kept_ram b ports ++ tail_of b)
  unfolding sound_bytes
  by_ram = refl

  by_shown : sound_bytes r b ports ≡ (head_of r ++ kept_ram b ports) ++ (shown_below b.voices 128 ++ (zeros 64 ++ last_of b.ram))
  unfolding sound_bytes tail_of
  by_shown = sym (append_assoc (head_of r) (kept_ram b ports) (shown_below b.voices 128 ++ (zeros 64 ++ last_of b.ram)))

  pub whole_length : length (sound_bytes r b ports) ≡ 66048
  whole_length =
      ap (length {A = ℕ}) by_ram
      ∙ omega (arith, length-append (head_of r) (kept_ram b ports ++ tail_of b), length-append (kept_ram b ports) (tail_of b), head_length r, ram_length, tail_length b size)

  text_is : take 27 (sound_bytes r b ports) ≡ codes "SNES-SPC700 Sound File Data"
  text_is = ap (take 27) by_text ∙ take-append-le 27 text _ (omega (arith, text_length)) ∙ text_begins

  pub accepted_is : refusal_of (sound_bytes r b ports) ≡ None
  unfolding refusal_of
  accepted_is = rw (whole_length, text_is) refl

  pub image_is : image_of (sound_bytes r b ports) ≡ record { regs = r; ram = kept_ram b ports; dsp = shown_below b.voices 128 }
  unfolding image_of
  image_is =
      let file = sound_bytes r b ports in
      let regs' : regs_of file ≡ r = ap regs_of by_text ∙ registers_are _ r in
      let ram' : take 65536 (drop 0x100 file) ≡ kept_ram b ports
      = ap (λ (l : List ℕ). take 65536 (drop 0x100 l)) by_ram ∙ part (head_of r) (kept_ram b ports) _ 0x100 65536 (head_length r) ram_length in
      let both : length (head_of r ++ kept_ram b ports) ≡ 0x10100 = omega (arith, length-append (head_of r) (kept_ram b ports), head_length r, ram_length) in
      let dsp' : take 128 (drop 0x10100 file) ≡ shown_below b.voices 128
      = ap (λ (l : List ℕ). take 128 (drop 0x10100 l)) by_shown ∙ part (head_of r ++ kept_ram b ports) (shown_below b.voices 128) _ 0x10100 128 both (shown_length b.voices 128) in
      ap (λ (x : SpcRegs). record { regs = x; ram = take 65536 (drop 0x100 file); dsp = take 128 (drop 0x10100 file) }) regs'
      ∙ ap (λ (x : List ℕ). record { regs = r; ram = x; dsp = take 128 (drop 0x10100 file) }) ram'
      ∙ ap (λ (x : List ℕ). record { regs = r; ram = kept_ram b ports; dsp = x }) dsp'
