-- The parts of a sound file, one behind another.
use Rattle.std.proofs.Common.{◌≡◌, ℕ, ◌-◌, List, [], ◌++◌, length, take, drop, ap, ◌∙◌, append_assoc, arith}
use Rattle.std.proofs.lemmas.List.{length-drop, take_all}
use Rattle.spc_tables.specs.declared.regs.SpcRegs.{SpcRegs}
use Rattle.audio_side.specs.HardwareState.{HardwareState}
use Rattle.audio_side.specs.Kept.{kept_ram}
use Rattle.sound_file.specs.Bytes.{head_of, last_of, tail_of, sound_bytes}

pub three : (o a b c : List ℕ) → ((o ++ a) ++ b) ++ c ≡ o ++ (a ++ (b ++ c))
three o a b c = append_assoc (o ++ a) b c ∙ append_assoc o a (b ++ c)

-- the whole file, part by part
pub sound_is : (regs : SpcRegs) (b : HardwareState) (ports none first ram' then all : List ℕ) → none ≡ [] → first ≡ none ++ head_of regs → ram' ≡ kept_ram b ports
    → then ≡ first ++ ram' → all ≡ then ++ tail_of b → all ≡ sound_bytes regs b ports
unfolding sound_bytes
sound_is regs b ports none first ram' then all none_is first_is ram_is then_is all_is =
    let head : first ≡ head_of regs = first_is ∙ ap (λ (l : List ℕ). l ++ head_of regs) none_is in
    let both : then ≡ head_of regs ++ kept_ram b ports = then_is ∙ (ap (λ (l : List ℕ). l ++ ram') head ∙ ap (λ (l : List ℕ). head_of regs ++ l) ram_is) in
    all_is ∙ (ap (λ (l : List ℕ). l ++ tail_of b) both ∙ append_assoc (head_of regs) (kept_ram b ports) (tail_of b))

-- the last bytes of a memory
pub last_is : (l memory : List ℕ) → l ≡ memory → take (length l - 65472) (drop 65472 l) ≡ last_of memory
unfolding last_of
last_is l memory is = take_all (length l - 65472) (drop 65472 l) (omega (arith, length-drop 65472 l)) ∙ ap (drop 65472) is
