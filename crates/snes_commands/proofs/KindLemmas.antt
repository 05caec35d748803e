-- Of each kind of input: what is longer than its limit is refused, and what is read is accepted. And the bytes of an
-- input are refused for one cause.
use Rattle.std.proofs.Common.{◌≡◌, ℕ, ◌<◌, ◌≤◌, ◌+◌, ◌%◌, true, false, nat_lt, nat_eq, if◌then◌else◌, List, length, drop, refl, length-drop, Result, Ok, Err, MatchBool, sym, ap, ◌∙◌, subst, ⊎_elim, arith}
use Rattle.std.proofs.lemmas.Bool.{cases_order, lt-ltb, le-ltb, ne_eqb}
use Rattle.snes_defs.specs.declared.cart.Cart.{Cart}
use Rattle.snes_defs.specs.Script.{Script}
use Rattle.cart_map.specs.declared.refused.CartRefused.TheVariants.{TooLong}
use Rattle.cart_map.specs.Accept.{verdict, image_of}
use Rattle.input_files.specs.Table.{IsTableFile, IsFirstLarge, IsRefusedAt}
use Rattle.input_files.specs.Script.{script_of}
use Rattle.input_files.specs.Plan.{PlanValue, plan_of}
use Rattle.frame_sums.specs.SumsFile.{SumsIn, sums_of_file}
use Rattle.shelf.specs.declared.shelves.Input.TheVariants as input
use Rattle.spc_player.specs.SoundFile.{refusal_of}
use Rattle.snes_commands.specs.declared.status.Why.{Why}
use Rattle.snes_commands.specs.declared.status.Why.TheVariants as why
use Rattle.snes_commands.specs.Kinds.{input_of, AreRefused, AreAccepted, IsCartIn, IsScriptIn, IsPlanIn, IsSumsIn}
use Rattle.snes_commands.proofs.SpcLemmas.{one_refused}

-- an answer is not both, and refuses for one cause
not_both : {A B : Type 0} (r : Result A B) (a : A) (b : B) → r ≡ Ok a → r ≡ Err b → ⊥
not_both r a b p q = cc

one_refusal : {A B : Type 0} (r : Result A B) (a b : B) → r ≡ Err a → r ≡ Err b → a ≡ b
one_refusal r a b p q = cc

-- a front of 512 bytes is all that an image can lack of its file
image_long : (file : List ℕ) → length file ≤ length (image_of file) + 512
unfolding image_of
image_long file =
    elim (nat_eq (length file % 1024) 512) as (λ front. length file ≤ length (if front then drop 512 file else file) + 512) [
      | true ↦ omega (arith, length-drop 512 file)
      | false ↦ omega arith
    ]

-- THE CARTRIDGE
pub cart_longer : (bytes : List ℕ) → 4194816 < length bytes → AreRefused bytes (why.Cart TooLong)
cart_longer bytes long =
    let image = image_of bytes in
    let enough : nat_lt (length image) 32768 ≡ false = le-ltb (length image) 32768 (omega (arith, image_long bytes)) in
    let much : nat_lt 4194304 (length image) ≡ true = lt-ltb 4194304 (length image) (omega (arith, image_long bytes)) in
    rw (enough, much) refl

pub cart_accepted : (bytes : List ℕ) (cart : Cart) → IsCartIn bytes cart → AreAccepted input.Cart bytes
cart_accepted bytes cart h = record { unrefused = go }
  where
    go : (cause : Why) → input_of cause ≡ input.Cart → ¬ AreRefused bytes cause
    go (why.Cart cause) is refused = not_both (verdict bytes) _ cause h.header refused
    go why.Boot is refused = cc
    go (why.Spc cause) is refused = cc
    go (why.Table entry) is refused = cc
    go (why.Script line) is refused = cc
    go (why.Plan line) is refused = cc
    go (why.Sums line) is refused = cc

pub ruleset cart = (cart_longer, cart_accepted)

-- THE BOOT ROM
pub boot_longer : (bytes : List ℕ) → 64 < length bytes → AreRefused bytes why.Boot
boot_longer bytes long = λ size. absurd (omega arith)

pub boot_accepted : (bytes : List ℕ) → length bytes ≡ 64 → AreAccepted input.Boot bytes
boot_accepted bytes size = record { unrefused = go }
  where
    go : (cause : Why) → input_of cause ≡ input.Boot → ¬ AreRefused bytes cause
    go (why.Cart cause) is refused = cc
    go why.Boot is refused = refused size
    go (why.Spc cause) is refused = cc
    go (why.Table entry) is refused = cc
    go (why.Script line) is refused = cc
    go (why.Plan line) is refused = cc
    go (why.Sums line) is refused = cc

pub ruleset boot = (boot_longer, boot_accepted)

-- THE TABLE
pub table_longer : (bytes : List ℕ) → 1024 < length bytes → AreRefused bytes (why.Table 512)
table_longer bytes long =
    let other : nat_eq (length bytes) 1024 ≡ false = ne_eqb (length bytes) 1024 (λ e. absurd (omega arith)) in
    subst (λ b. MatchBool b (IsFirstLarge bytes 512) (◌≡◌ {A = ℕ} 512 512)) (sym other) refl

-- a table file of the right length, refused at an entry, is refused at its first large one
large_entry : (bytes : List ℕ) (entry : ℕ) → length bytes ≡ 1024 → IsRefusedAt bytes entry → IsFirstLarge bytes entry
large_entry bytes entry size h =
    let same : nat_eq (length bytes) 1024 ≡ true = ap (λ n. nat_eq n 1024) size in
    subst (λ b. MatchBool b (IsFirstLarge bytes entry) (entry ≡ 512)) same h

pub table_accepted : (bytes table : List ℕ) → IsTableFile bytes table → AreAccepted input.Table bytes
table_accepted bytes table h = record { unrefused = go }
  where
    go : (cause : Why) → input_of cause ≡ input.Table → ¬ AreRefused bytes cause
    go (why.Cart cause) is refused = cc
    go why.Boot is refused = cc
    go (why.Spc cause) is refused = cc
    go (why.Table entry) is refused =
        let first = large_entry bytes entry h.size refused in
        absurd (omega (arith, h.small entry first.within, first.large))
    go (why.Script line) is refused = cc
    go (why.Plan line) is refused = cc
    go (why.Sums line) is refused = cc

pub ruleset table = (table_longer, table_accepted)

-- a table file is refused at one place
one_entry : (bytes : List ℕ) (a b : ℕ) → IsRefusedAt bytes a → IsRefusedAt bytes b → a ≡ b
one_entry bytes a b =
    elim (nat_eq (length bytes) 1024) as (λ right. MatchBool right (IsFirstLarge bytes a) (a ≡ 512) → MatchBool right (IsFirstLarge bytes b) (b ≡ 512) → a ≡ b) [
      | true ↦ λ h k. ⊎_elim (λ e. e) (⊎_elim (λ lt. absurd (omega (arith, k.first a lt, h.large))) (λ lt. absurd (omega (arith, h.first b lt, k.large)))) (cases_order a b)
      | false ↦ λ h k. h ∙ sym k
    ]

-- THE SCRIPT
pub script_longer : (bytes : List ℕ) → 1048576 < length bytes → AreRefused bytes (why.Script 0)
script_longer bytes long =
    let more : nat_lt 1048576 (length bytes) ≡ true = lt-ltb 1048576 (length bytes) long in
    subst (λ b. MatchBool b (◌≡◌ {A = ℕ} 0 0) (script_of bytes ≡ Err 0)) (sym more) refl

-- a script of few enough bytes is refused at its first bad line
bad_line : (bytes : List ℕ) (line : ℕ) → length bytes ≤ 1048576 → AreRefused bytes (why.Script line) → script_of bytes ≡ Err line
bad_line bytes line few h =
    let short : nat_lt 1048576 (length bytes) ≡ false = le-ltb 1048576 (length bytes) few in
    subst (λ b. MatchBool b (line ≡ 0) (script_of bytes ≡ Err line)) short h

pub script_refused : (bytes : List ℕ) (line : ℕ) → length bytes ≤ 1048576 → script_of bytes ≡ Err line → AreRefused bytes (why.Script line)
script_refused bytes line few h =
    let short : nat_lt 1048576 (length bytes) ≡ false = le-ltb 1048576 (length bytes) few in
    subst (λ b. MatchBool b (line ≡ 0) (script_of bytes ≡ Err line)) (sym short) h

pub script_accepted : (bytes : List ℕ) (script : Script) → length bytes ≤ 1048576 → IsScriptIn bytes script → AreAccepted input.Script bytes
script_accepted bytes script few h = record { unrefused = go }
  where
    go : (cause : Why) → input_of cause ≡ input.Script → ¬ AreRefused bytes cause
    go (why.Cart cause) is refused = cc
    go why.Boot is refused = cc
    go (why.Spc cause) is refused = cc
    go (why.Table entry) is refused = cc
    go (why.Script line) is refused = not_both (script_of bytes) script line h (bad_line bytes line few refused)
    go (why.Plan line) is refused = cc
    go (why.Sums line) is refused = cc

pub ruleset script = (script_longer, script_refused, script_accepted)

-- a script is refused at one line
one_line : (bytes : List ℕ) (a b : ℕ) → AreRefused bytes (why.Script a) → AreRefused bytes (why.Script b) → a ≡ b
one_line bytes a b =
    elim (nat_lt 1048576 (length bytes)) as (λ long. MatchBool long (a ≡ 0) (script_of bytes ≡ Err a) → MatchBool long (b ≡ 0) (script_of bytes ≡ Err b) → a ≡ b) [
      | true ↦ λ h k. h ∙ sym k
      | false ↦ λ h k. one_refusal (script_of bytes) a b h k
    ]

-- THE PLAN
pub plan_longer : (bytes : List ℕ) → 1048576 < length bytes → AreRefused bytes (why.Plan 0)
plan_longer bytes long =
    let more : nat_lt 1048576 (length bytes) ≡ true = lt-ltb 1048576 (length bytes) long in
    subst (λ b. MatchBool b (◌≡◌ {A = ℕ} 0 0) (plan_of bytes ≡ Err 0)) (sym more) refl

-- a plan of few enough bytes is refused at its first bad line
bad_plan_line : (bytes : List ℕ) (line : ℕ) → length bytes ≤ 1048576 → AreRefused bytes (why.Plan line) → plan_of bytes ≡ Err line
bad_plan_line bytes line few h =
    let short : nat_lt 1048576 (length bytes) ≡ false = le-ltb 1048576 (length bytes) few in
    subst (λ b. MatchBool b (line ≡ 0) (plan_of bytes ≡ Err line)) short h

pub plan_refused : (bytes : List ℕ) (line : ℕ) → length bytes ≤ 1048576 → plan_of bytes ≡ Err line → AreRefused bytes (why.Plan line)
plan_refused bytes line few h =
    let short : nat_lt 1048576 (length bytes) ≡ false = le-ltb 1048576 (length bytes) few in
    subst (λ b. MatchBool b (line ≡ 0) (plan_of bytes ≡ Err line)) (sym short) h

pub plan_accepted : (bytes : List ℕ) (value : PlanValue) → length bytes ≤ 1048576 → IsPlanIn bytes value → AreAccepted input.Plan bytes
plan_accepted bytes value few h = record { unrefused = go }
  where
    go : (cause : Why) → input_of cause ≡ input.Plan → ¬ AreRefused bytes cause
    go (why.Cart cause) is refused = cc
    go why.Boot is refused = cc
    go (why.Table entry) is refused = cc
    go (why.Spc cause) is refused = cc
    go (why.Script line) is refused = cc
    go (why.Plan line) is refused = not_both (plan_of bytes) value line h (bad_plan_line bytes line few refused)
    go (why.Sums line) is refused = cc

pub ruleset plan = (plan_longer, plan_refused, plan_accepted)

-- a plan is refused at one line
one_plan_line : (bytes : List ℕ) (a b : ℕ) → AreRefused bytes (why.Plan a) → AreRefused bytes (why.Plan b) → a ≡ b
one_plan_line bytes a b =
    elim (nat_lt 1048576 (length bytes)) as (λ long. MatchBool long (a ≡ 0) (plan_of bytes ≡ Err a) → MatchBool long (b ≡ 0) (plan_of bytes ≡ Err b) → a ≡ b) [
      | true ↦ λ h k. h ∙ sym k
      | false ↦ λ h k. one_refusal (plan_of bytes) a b h k
    ]

-- THE SUMS
pub sums_longer : (bytes : List ℕ) → 5000000 < length bytes → AreRefused bytes (why.Sums 0)
sums_longer bytes long =
    let more : nat_lt 5000000 (length bytes) ≡ true = lt-ltb 5000000 (length bytes) long in
    subst (λ b. MatchBool b (◌≡◌ {A = ℕ} 0 0) (sums_of_file bytes ≡ Err 0)) (sym more) refl

-- sums of few enough bytes are refused at their first bad line
bad_sums_line : (bytes : List ℕ) (line : ℕ) → length bytes ≤ 5000000 → AreRefused bytes (why.Sums line) → sums_of_file bytes ≡ Err line
bad_sums_line bytes line few h =
    let short : nat_lt 5000000 (length bytes) ≡ false = le-ltb 5000000 (length bytes) few in
    subst (λ b. MatchBool b (line ≡ 0) (sums_of_file bytes ≡ Err line)) short h

pub sums_refused : (bytes : List ℕ) (line : ℕ) → length bytes ≤ 5000000 → sums_of_file bytes ≡ Err line → AreRefused bytes (why.Sums line)
sums_refused bytes line few h =
    let short : nat_lt 5000000 (length bytes) ≡ false = le-ltb 5000000 (length bytes) few in
    subst (λ b. MatchBool b (line ≡ 0) (sums_of_file bytes ≡ Err line)) (sym short) h

pub sums_accepted : (bytes : List ℕ) (sums : SumsIn) → length bytes ≤ 5000000 → IsSumsIn bytes sums → AreAccepted input.Sums bytes
sums_accepted bytes sums few h = record { unrefused = go }
  where
    go : (cause : Why) → input_of cause ≡ input.Sums → ¬ AreRefused bytes cause
    go (why.Cart cause) is refused = cc
    go why.Boot is refused = cc
    go (why.Table entry) is refused = cc
    go (why.Spc cause) is refused = cc
    go (why.Script line) is refused = cc
    go (why.Plan line) is refused = cc
    go (why.Sums line) is refused = not_both (sums_of_file bytes) sums line h (bad_sums_line bytes line few refused)

pub ruleset sums = (sums_longer, sums_refused, sums_accepted)

-- sums are refused at one line
one_sums_line : (bytes : List ℕ) (a b : ℕ) → AreRefused bytes (why.Sums a) → AreRefused bytes (why.Sums b) → a ≡ b
one_sums_line bytes a b =
    elim (nat_lt 5000000 (length bytes)) as (λ long. MatchBool long (a ≡ 0) (sums_of_file bytes ≡ Err a) → MatchBool long (b ≡ 0) (sums_of_file bytes ≡ Err b) → a ≡ b) [
      | true ↦ λ h k. h ∙ sym k
      | false ↦ λ h k. one_refusal (sums_of_file bytes) a b h k
    ]

-- the bytes of an input are refused for one cause
pub one_cause : (bytes : List ℕ) (a b : Why) → input_of a ≡ input_of b → AreRefused bytes a → AreRefused bytes b → a ≡ b
one_cause bytes (why.Cart a) (why.Cart b) same h k = ap why.Cart (one_refusal (verdict bytes) a b h k)
one_cause bytes why.Boot why.Boot same h k = refl
one_cause bytes (why.Spc a) (why.Spc b) same h k = ap why.Spc (one_refused (refusal_of bytes) a b h k)
one_cause bytes (why.Table a) (why.Table b) same h k = ap why.Table (one_entry bytes a b h k)
one_cause bytes (why.Script a) (why.Script b) same h k = ap why.Script (one_line bytes a b h k)
one_cause bytes (why.Plan a) (why.Plan b) same h k = ap why.Plan (one_plan_line bytes a b h k)
one_cause bytes (why.Sums a) (why.Sums b) same h k = ap why.Sums (one_sums_line bytes a b h k)
one_cause bytes _ _ same h k = absurd cc
