-- A file has the bytes of the ports under F4 to F7.
use Rattle.std.proofs.Common.{◌≡◌, ℕ, zero, suc, ◌+◌, ◌<◌, ◌≤◌, true, false, if◌then◌else◌, List, [], ◌∷◌, length, slice_index, slice_set, refl, ◌∙◌, arith}
use Rattle.std.proofs.lemmas.Grind.{get_or-set_at}
use Rattle.std.proofs.lemmas.List.{get_or-set_other, length-set}
use Rattle.audio_side.specs.HardwareState.{HardwareState}
use Rattle.audio_side.specs.Kept.{control_of, kept_ram, ports_kept, seen_ram, timers_kept, under_boot}

length_under : (ram' boot' : List ℕ) (n : ℕ) → length (under_boot ram' boot' n) ≡ length ram'
unfolding under_boot
length_under ram' boot' zero = refl
length_under ram' boot' (suc n) = length-set (under_boot ram' boot' n) (0xFFC0 + n) (slice_index boot' n) ∙ length_under ram' boot' n

length_seen : (b : HardwareState) → length (seen_ram b) ≡ length b.ram
unfolding seen_ram
length_seen b = elim b.boot_seen as (λ c. length (if c then under_boot b.ram b.boot 64 else b.ram) ≡ length b.ram) [
  | true ↦ length_under b.ram b.boot 64
  | false ↦ refl
]

-- the timers' bytes stand behind those of the ports
timers_behind : (b : HardwareState) (l : List ℕ) (at : ℕ) → at < 0xFA → slice_index (timers_kept b l) at ≡ slice_index l at
unfolding timers_kept
timers_behind b l at lt =
    get_or-set_other _ 0xFF at _ 0 (λ e. omega (arith, lt, e)) ∙ get_or-set_other _ 0xFE at _ 0 (λ e. omega (arith, lt, e))
    ∙ get_or-set_other _ 0xFD at _ 0 (λ e. omega (arith, lt, e)) ∙ get_or-set_other _ 0xFC at _ 0 (λ e. omega (arith, lt, e))
    ∙ get_or-set_other _ 0xFB at _ 0 (λ e. omega (arith, lt, e)) ∙ get_or-set_other _ 0xFA at _ 0 (λ e. omega (arith, lt, e))

module _ (l ports : List ℕ) (room : 0x100 ≤ length l) where
  one : List ℕ
  one = slice_set l 0xF4 (slice_index ports 0)

  two : List ℕ
  two = slice_set one 0xF5 (slice_index ports 1)

  three : List ℕ
  three = slice_set two 0xF6 (slice_index ports 2)

  port0 : slice_index (ports_kept l ports) 0xF4 ≡ slice_index ports 0
  unfolding ports_kept one two three
  port0 =
      get_or-set_other three 0xF7 0xF4 (slice_index ports 3) 0 (λ e. omega (arith, e)) ∙ get_or-set_other two 0xF6 0xF4 (slice_index ports 2) 0 (λ e. omega (arith, e))
      ∙ get_or-set_other one 0xF5 0xF4 (slice_index ports 1) 0 (λ e. omega (arith, e)) ∙ get_or-set_at l 0xF4 0xF4 (slice_index ports 0) 0 refl (omega (arith, room))

  port1 : slice_index (ports_kept l ports) 0xF5 ≡ slice_index ports 1
  unfolding ports_kept one two three
  port1 =
      get_or-set_other three 0xF7 0xF5 (slice_index ports 3) 0 (λ e. omega (arith, e)) ∙ get_or-set_other two 0xF6 0xF5 (slice_index ports 2) 0 (λ e. omega (arith, e))
      ∙ get_or-set_at one 0xF5 0xF5 (slice_index ports 1) 0 refl (omega (arith, room, length-set l 0xF4 (slice_index ports 0)))

  port2 : slice_index (ports_kept l ports) 0xF6 ≡ slice_index ports 2
  unfolding ports_kept one two three
  port2 =
      get_or-set_other three 0xF7 0xF6 (slice_index ports 3) 0 (λ e. omega (arith, e))
      ∙ get_or-set_at two 0xF6 0xF6 (slice_index ports 2) 0 refl (omega (arith, room, length-set one 0xF5 (slice_index ports 1), length-set l 0xF4 (slice_index ports 0)))

  port3 : slice_index (ports_kept l ports) 0xF7 ≡ slice_index ports 3
  unfolding ports_kept one two three
  port3 =
      get_or-set_at three 0xF7 0xF7 (slice_index ports 3) 0 refl
      (omega (arith, room, length-set two 0xF6 (slice_index ports 2), length-set one 0xF5 (slice_index ports 1), length-set l 0xF4 (slice_index ports 0)))

-- the bytes of RAM under F4 to F7
abbrev pub under_ports : List ℕ → List ℕ
under_ports ram' = slice_index ram' 0xF4 ∷ slice_index ram' 0xF5 ∷ slice_index ram' 0xF6 ∷ slice_index ram' 0xF7 ∷ []

four : (ports : List ℕ) → length ports ≡ 4 → slice_index ports 0 ∷ slice_index ports 1 ∷ slice_index ports 2 ∷ slice_index ports 3 ∷ [] ≡ ports
four [] h = absurd cc
four (a ∷ []) h = absurd (omega (arith, h))
four (a ∷ (b ∷ [])) h = absurd (omega (arith, h))
four (a ∷ (b ∷ (c ∷ []))) h = absurd (omega (arith, h))
four (a ∷ (b ∷ (c ∷ (d ∷ [])))) h = refl
four (a ∷ (b ∷ (c ∷ (d ∷ (e ∷ rest))))) h = absurd (omega (arith, h))

pub ports_come_back : (b : HardwareState) (ports : List ℕ) → length b.ram ≡ 65536 → length ports ≡ 4 → under_ports (kept_ram b ports) ≡ ports
unfolding kept_ram
ports_come_back b ports size count =
    let l = slice_set (slice_set (seen_ram b) 0xF1 (control_of b)) 0xF2 b.address in
    let room : 0x100 ≤ length l
    = omega (arith, size, length_seen b, length-set (seen_ram b) 0xF1 (control_of b), length-set (slice_set (seen_ram b) 0xF1 (control_of b)) 0xF2 b.address) in
    let kept = ports_kept l ports in
    rw (
      timers_behind b kept 0xF4 (omega arith) ∙ port0 l ports room,
      timers_behind b kept 0xF5 (omega arith) ∙ port1 l ports room,
      timers_behind b kept 0xF6 (omega arith) ∙ port2 l ports room,
      timers_behind b kept 0xF7 (omega arith) ∙ port3 l ports room,
    ) (four ports count)
