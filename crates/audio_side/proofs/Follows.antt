-- Accesses that follow one another: none, one, and some after others.
use Rattle.std.proofs.Common.{◌≡◌, ◌∙◌, ℕ, ◌+◌, ◌-◌, suc, Option, None, Some, OnSome, refl, sym, ap, subst, arith}
use mathlib.Core.Logic.{∥∥₁_map}
use Rattle.snes_defs.specs.declared.ports.Act.TheVariants.{Quiet}
use Rattle.spc_tables.specs.declared.access.SpcAccess.{SpcAccess}
use Rattle.spc_tables.specs.declared.access.SpcAccess.TheVariants as Access
use Rattle.spc_modes.specs.Plan.{first_access}
use Rattle.spc_modes.specs.Remaining.{ahead, remaining_at}
use Rattle.spc_modes.specs.declared.place.Place.{Place}
use Rattle.spc700.specs.Instruction.{SpcState, moved_on, next_of}
use Rattle.spc700.specs.Stands.{Stands, Advances, access_of}
use Rattle.spc700.specs.declared.processor.Spc.{Spc}
use Rattle.spc700.proofs.Moves.{Stands-moved_on}
use Rattle.audio_side.specs.HardwareState.{HardwareState}
use Rattle.audio_side.specs.Effect.{act_of, act_of_store, effect, given, stored}
use Rattle.audio_side.specs.Runs.{HasRun}
use Rattle.audio_side.specs.Sound.{IsRunning}
use Rattle.audio_side.specs.Follows.{Gets, Follows}
use Rattle.audio_side.proofs.Runs.{no_run, run_on, plain_then}

pub follows_none : (spc : Spc) (b : HardwareState) (left : ℕ) → Follows spc spc b b left left
follows_none spc b left = record {
  fewer = omega arith;
  come = λ s stands. (
      let none : left - left ≡ 0 = omega arith in
      let P : ℕ → Type 0 = λ n. HasRun spc b s b n in
      subst P (sym none) (no_run spc b s stands));
}

-- one access, as a caller sees it who knows what the processor stands for
pub follows_one : (old new : Spc) (b b' : HardwareState) (left left' : ℕ) → b'.timer2 ≡ b.timer2 → left' + 1 ≡ left
    → ((s : SpcState) → Stands old s → act_of (next_of s) ≡ Quiet)
    → ((s : SpcState) → Stands old s → Stands new (moved_on s (given b (next_of s) 0)))
    → ((s : SpcState) → Stands old s → b' ≡ effect b (next_of s)) → Follows old new b b' left left'
follows_one old new b b' left left' timer made quiet moves is = record {
  fewer = omega (arith, made);
  come = λ s stands. (
      let sum : left - left' ≡ suc 0 = omega (arith, made) in
      let none : HasRun old b s b 0 = record { to = s; run = (refl, refl); stands = stands } in
      run_on old new b b' s b 0 _ none (quiet s stands) timer (moves s stands) (is s stands) sum);
}

-- a processor of which it is known which access is next moves on by it
pub moves_by : (old new : Spc) (b : HardwareState) (byte got : ℕ) (a : SpcAccess) → access_of old ≡ a → given b a got ≡ byte → Advances old new byte
    → (s : SpcState) → Stands old s → Stands new (moved_on s (given b (next_of s) got))
moves_by old new b byte got a known is advances s h =
    let next : a ≡ next_of s = sym known ∙ ap first_access h.left in
    let byte_is : byte ≡ given b (next_of s) got = sym is ∙ ap (λ (x : SpcAccess). given b x got) next in
    subst (λ (n : ℕ). Stands new (moved_on s n)) byte_is (Stands-moved_on old new s byte h advances)

-- and so does its hardware
pub acts_by : (old : Spc) (b b' : HardwareState) (a : SpcAccess) → access_of old ≡ a → b' ≡ effect b a → (s : SpcState) → Stands old s → b' ≡ effect b (next_of s)
acts_by old b b' a known is s h =
    let next : a ≡ next_of s = sym known ∙ ap first_access h.left in
    subst (λ (x : SpcAccess). b' ≡ effect b x) next is

-- one access, as a caller sees it who knows which one it is
pub follows_access : (old new : Spc) (b b' : HardwareState) (left left' byte : ℕ) (a : SpcAccess) → access_of old ≡ a → b'.timer2 ≡ b.timer2 → left' + 1 ≡ left
    → act_of a ≡ Quiet → given b a 0 ≡ byte → b' ≡ effect b a → Advances old new byte → Follows old new b b' left left'
follows_access old new b b' left left' byte a known timer made quiet got is advances =
    let next : (s : SpcState) → Stands old s → a ≡ next_of s = λ s h. sym known ∙ ap first_access h.left in
    follows_one old new b b' left left' timer made (λ s h. subst (λ (x : SpcAccess). act_of x ≡ Quiet) (next s h) quiet)
    (moves_by old new b byte 0 a known got advances) (acts_by old b b' a known is)

-- a fetch or a read
pub follows_got : (old new : Spc) (b : HardwareState) (left left' byte : ℕ) (a : SpcAccess) → access_of old ≡ a → Gets a b byte → left' + 1 ≡ left
    → Advances old new byte → Follows old new b b left left'
follows_got old new b left left' byte a known gets made advances =
    follows_access old new b b left left' byte a known refl made gets.quiet gets.got (sym gets.still) advances

-- an internal cycle
pub follows_idle : (old new : Spc) (b : HardwareState) (left left' : ℕ) → access_of old ≡ Access.Inner → left' + 1 ≡ left → Advances old new 0
    → Follows old new b b left left'
follows_idle old new b left left' known made advances = follows_access old new b b left left' 0 Access.Inner known refl made refl refl refl advances

-- a write
pub follows_write : (old new : Spc) (b b' : HardwareState) (left left' at byte at' byte' : ℕ) → access_of old ≡ Access.Write at byte → at' ≡ at → byte' ≡ byte
    → b'.timer2 ≡ b.timer2 → left' + 1 ≡ left → act_of_store at' byte' ≡ Quiet → b' ≡ stored b at' byte' → Advances old new 0 → Follows old new b b' left left'
follows_write old new b b' left left' at byte at' byte' known at_is byte_is timer made quiet is advances =
    let same : access_of old ≡ Access.Write at' byte' = known ∙ ap (λ (n : ℕ). Access.Write n byte) (sym at_is) ∙ ap (λ (n : ℕ). Access.Write at' n) (sym byte_is) in
    follows_access old new b b' left left' 0 (Access.Write at' byte') same timer made quiet refl is advances

module _ {x y z : Spc} {b c d : HardwareState} {k l m : ℕ} where
  pub follows_then : Follows x y b c k l → Follows y z c d l m → Follows x z b d k m
  follows_then f g = record {
    fewer = (let first = f.fewer in let then = g.fewer in omega (arith, first, then));
    come = λ s stands. (
        let first = f.fewer in
        let then = g.fewer in
        let sum : k - m ≡ (k - l) + (l - m) = omega (arith, first, then) in
        let p = f.come s stands in
        let q = g.come p.to p.stands in
        let P : ℕ → Type 0 = λ n. HasRun z d s b n in
        subst P (sym sum) (record { to = q.to; run = plain_then (k - l) (l - m) s b p.to c q.to d p.run q.run; stands = q.stands }));
  }

-- what holds whatever the last call says
pub if_some : {X : Type 0} (r : Option X) {P : Type 0} → P → OnSome r P
if_some None p = tt
if_some (Some x) p = p

-- the processor stands for some instruction still
pub follows_runs : (old new : Spc) (b b' : HardwareState) (left left' : ℕ) → Follows old new b b' left left' → IsRunning old → IsRunning new
follows_runs old new b b' left left' f runs = ∥∥₁_map runs (λ p. (let h = f.come p.0 p.1 in (h.to, h.stands)))

-- the next access by the place
pub access_at : (spc : Spc) (place : Place) → spc.micro.place ≡ place
    → access_of spc ≡ first_access (ahead (remaining_at place spc.micro.row spc.micro.here spc.micro.base spc.micro.byte))
access_at spc place known = ap (λ (p : Place). first_access (ahead (remaining_at p spc.micro.row spc.micro.here spc.micro.base spc.micro.byte))) known
