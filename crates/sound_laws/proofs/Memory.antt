-- A hardware with another RAM and boot ROM, where the processor doesn't see the difference: a cycle does the same to it.
use Rattle.std.proofs.Common.{◌≡◌, ℕ, Bool, true, false, ◌-◌, ◌<◌, ◌≤◌, ◌==◌, ◌&&◌, ◌||◌, nat_le, nat_lt, if◌then◌else◌, List, length, slice_index, slice_set, refl, ap, sym, subst, ◌∙◌, ⊎_elim, arith}
use Rattle.std.proofs.lemmas.Bool.{cases_eq, cases_lt}
use Rattle.std.proofs.lemmas.Grind.{common_steps, get_or-set_at}
use Rattle.std.proofs.lemmas.List.{get_or_past, get_or-set_other, length-set}
use Rattle.spc_tables.specs.declared.access.SpcAccess.{SpcAccess}
use Rattle.spc_tables.specs.declared.access.SpcAccess.TheVariants as Access
use Rattle.audio_side.specs.HardwareState.{HardwareState}
use Rattle.audio_side.specs.Effect.{register_shown, loaded, after_load, controlled, dsp_written, register_stored, stored, given, effect, timed}
use Rattle.sound_laws.specs.PlaysOn.{is_register, is_hidden, IsAlike, with_memory}

-- two choices by one test
if_both : {A : Type 0} (c : Bool) (x y x' y' : A) → (c ≡ true → x' ≡ x) → (c ≡ false → y' ≡ y) → (if c then x' else y') ≡ (if c then x else y)
if_both true x y x' y' h k = h refl
if_both false x y x' y' h k = k refl

-- what is seen
below_registers : (seen : Bool) (at : ℕ) → nat_lt at 0xF0 ≡ true → is_hidden seen at ≡ false
below_registers seen at lt = grind (arith, common_steps)

past_registers : (at : ℕ) → nat_lt at 0xF0 ≡ false → nat_lt at 0x100 ≡ false → is_register at ≡ false
past_registers at ge more = grind (arith, common_steps)

by_seen : (seen : Bool) (at : ℕ) → is_register at ≡ false → nat_le 0xFFC0 at && seen ≡ false → is_hidden seen at ≡ false
by_seen true at none below = grind (arith, common_steps)
by_seen false at none below = grind (arith, common_steps)

eight : (seen : Bool) → is_hidden seen 0xF8 ≡ false
eight true = refl
eight false = refl

nine : (seen : Bool) → is_hidden seen 0xF9 ≡ false
nine true = refl
nine false = refl

module _ (seen : Bool) (b : HardwareState) (ram' boot' : List ℕ) (is : b.boot_seen ≡ seen) (alike : IsAlike seen ram' b.ram) (boot_same : seen ≡ true → boot' ≡ b.boot) where
  register_same : (at got : ℕ) → register_shown (with_memory b ram' boot') at got ≡ register_shown b at got
  unfolding register_shown
  register_same at got = rw (alike.same 0xF8 (eight seen), alike.same 0xF9 (nine seen)) refl

  seen_and : (c : Bool) → c && b.boot_seen ≡ true → seen ≡ true
  seen_and true h = sym is ∙ h
  seen_and false h = absurd cc

  pub loaded_same : (at got : ℕ) → loaded (with_memory b ram' boot') at got ≡ loaded b at got
  unfolding loaded
  loaded_same at got =
      if_both (nat_lt at 0xF0) _ _ _ _ (λ low. alike.same at (below_registers seen at low)) (λ high.
      if_both (nat_lt at 0x100) _ _ _ _ (λ register. register_same at got) (λ more.
      if_both (nat_le 0xFFC0 at && b.boot_seen) _ _ _ _
      (λ boot. ap (λ (l : List ℕ). slice_index l (at - 0xFFC0)) (boot_same (seen_and (nat_le 0xFFC0 at) boot)))
      (λ none. alike.same at (by_seen seen at (past_registers at high more) (subst (λ (x : Bool). nat_le 0xFFC0 at && x ≡ false) is none)))))

  pub given_same : (a : SpcAccess) (got : ℕ) → given (with_memory b ram' boot') a got ≡ given b a got
  given_same (Access.Fetch at) got = loaded_same at got
  given_same (Access.Read at) got = loaded_same at got
  given_same (Access.Write at byte) got = refl
  given_same Access.Inner got = refl

-- a store of the same byte keeps two RAMs alike
stored_at : (other one : List ℕ) (i v at : ℕ) → length other ≡ length one → slice_index other at ≡ slice_index one at
    → slice_index (slice_set other i v) at ≡ slice_index (slice_set one i v) at
stored_at other one i v at size same =
    ⊎_elim (λ (e : at ≡ i).
    ⊎_elim (λ (in_reach : i < length one).
    get_or-set_at other i at v 0 e (omega (arith, in_reach, size)) ∙ sym (get_or-set_at one i at v 0 e in_reach))
    (λ (past : length one ≤ i).
    get_or_past (slice_set other i v) at 0 (omega (arith, length-set other i v, size, past, e))
    ∙ sym (get_or_past (slice_set one i v) at 0 (omega (arith, length-set one i v, past, e)))) (cases_lt i (length one)))
    (λ (differ : at ≡ i → ⊥). get_or-set_other other i at v 0 differ ∙ same ∙ sym (get_or-set_other one i at v 0 differ)) (cases_eq at i)

stored_alike : (seen : Bool) (other one : List ℕ) (i v : ℕ) → IsAlike seen other one → IsAlike seen (slice_set other i v) (slice_set one i v)
stored_alike seen other one i v h = record {
  size = length-set other i v ∙ h.size ∙ sym (length-set one i v);
  same = λ at shown. stored_at other one i v at h.size (h.same at shown);
}

-- a hardware is another but for its RAM and boot ROM, and the RAMs are alike
pub record Follows (seen : Bool) (boot' : List ℕ) (b other : HardwareState) : Type 0 where
  pub ram' : List ℕ
  pub alike : IsAlike seen ram' b.ram
  pub is : other ≡ with_memory b ram' boot'

if_follows : (seen : Bool) (boot' : List ℕ) (c : Bool) (x y x' y' : HardwareState) → Follows seen boot' x x' → Follows seen boot' y y' → Follows seen boot' (if c then x else y) (if c then x' else y')
if_follows seen boot' true x y x' y' h k = h
if_follows seen boot' false x y x' y' h k = k

module _ (seen : Bool) (b : HardwareState) (ram' boot' : List ℕ) (alike : IsAlike seen ram' b.ram) where
  load_follows : (at : ℕ) → Follows seen boot' (after_load b at) (after_load (with_memory b ram' boot') at)
  unfolding after_load
  load_follows at =
      if_follows seen boot' (at == 0xFD) _ _ _ _ (record { ram' = ram'; alike = alike; is = refl })
      (if_follows seen boot' (at == 0xFE) _ _ _ _ (record { ram' = ram'; alike = alike; is = refl })
      (if_follows seen boot' (at == 0xFF) _ _ _ _ (record { ram' = ram'; alike = alike; is = refl }) (record { ram' = ram'; alike = alike; is = refl })))

  ram_follows : (at byte : ℕ) → Follows seen boot' (record b { ram = slice_set b.ram at byte }) (record (with_memory b ram' boot') { ram = slice_set ram' at byte })
  ram_follows at byte = record { ram' = slice_set ram' at byte; alike = stored_alike seen ram' b.ram at byte alike; is = refl }

  dsp_follows : (byte : ℕ) → Follows seen boot' (dsp_written b byte) (dsp_written (with_memory b ram' boot') byte)
  unfolding dsp_written
  dsp_follows byte = if_follows seen boot' (nat_lt b.address 128) _ _ _ _ (record { ram' = ram'; alike = alike; is = refl }) (record { ram' = ram'; alike = alike; is = refl })

  register_follows : (at byte : ℕ) → Follows seen boot' (register_stored b at byte) (register_stored (with_memory b ram' boot') at byte)
  unfolding register_stored controlled
  register_follows at byte =
      if_follows seen boot' (at == 0xF1) _ _ _ _ (record { ram' = ram'; alike = alike; is = refl })
      (if_follows seen boot' (at == 0xF2) _ _ _ _ (record { ram' = ram'; alike = alike; is = refl })
      (if_follows seen boot' (at == 0xF3) _ _ _ _ (dsp_follows byte)
      (if_follows seen boot' (at == 0xF8 || at == 0xF9) _ _ _ _ (ram_follows at byte)
      (if_follows seen boot' (at == 0xFA) _ _ _ _ (record { ram' = ram'; alike = alike; is = refl })
      (if_follows seen boot' (at == 0xFB) _ _ _ _ (record { ram' = ram'; alike = alike; is = refl })
      (if_follows seen boot' (at == 0xFC) _ _ _ _ (record { ram' = ram'; alike = alike; is = refl }) (record { ram' = ram'; alike = alike; is = refl })))))))

  store_follows : (at byte : ℕ) → Follows seen boot' (stored b at byte) (stored (with_memory b ram' boot') at byte)
  unfolding stored
  store_follows at byte = if_follows seen boot' (nat_le 0xF0 at && nat_le at 0xFF) _ _ _ _ (register_follows at byte) (ram_follows at byte)

  pub effect_follows : (a : SpcAccess) → Follows seen boot' (effect b a) (effect (with_memory b ram' boot') a)
  effect_follows (Access.Fetch at) = load_follows at
  effect_follows (Access.Read at) = load_follows at
  effect_follows (Access.Write at byte) = store_follows at byte
  effect_follows Access.Inner = record { ram' = ram'; alike = alike; is = refl }

-- the timers are none of memory's
pub timed_follows : (seen : Bool) (boot' : List ℕ) (n : ℕ) (b other : HardwareState) → Follows seen boot' b other → Follows seen boot' (timed n b) (timed n other)
unfolding timed
timed_follows seen boot' n b other h = record { ram' = h.ram'; alike = h.alike; is = ap (timed n) h.is }
