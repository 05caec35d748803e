-- What was told names one job, as far as its machines go.
use Rattle.std.proofs.Common.{◌≡◌, ℕ, ◌<◌, List, length, ap, sym, ◌∙◌, subst, arith, Ok, Err, Result}
use Rattle.std.proofs.Math.Bridge.{le_prop}
use Rattle.std.proofs.lemmas.List.{ext_get_or}
use Rattle.cart_map.specs.Accept.{verdict}
use Rattle.cart_map.specs.declared.header.Header.{Header}
use Rattle.cart_map.specs.declared.refused.CartRefused.{CartRefused}
use Rattle.snes_defs.specs.declared.cart.Cart.{Cart}
use Rattle.snes_defs.specs.declared.cart.Job.{Job}
use Rattle.snes_defs.specs.declared.cart.MapKind.{MapKind}
use Rattle.plan_drive.specs.Paths.{Path}
use Rattle.input_files.specs.Table.{IsTableFile}
use Rattle.snes_commands.specs.Kinds.{IsCartIn}
use Rattle.snapshot.specs.Positions.{IsBeyond}
use Rattle.frame_player.specs.Told.{Told, IsJobOf}

-- two cartridges with the same parts are the same
cart_same : (c d : Cart) → c.map ≡ d.map → c.rom ≡ d.rom → c.ram ≡ d.ram → c ≡ d
cart_same c d map rom ram =
    subst (λ (r : List ℕ). (has : 0 < length r) → c ≡ record { map = d.map; rom = r; ram = d.ram; has_rom = has }) rom
    (λ has. ap (λ (k : MapKind). record { map = k; rom = c.rom; ram = c.ram; has_rom = c.has_rom }) map
    ∙ ap (λ (n : ℕ). record { map = d.map; rom = c.rom; ram = n; has_rom = c.has_rom }) ram
    ∙ ap (λ (h : 0 < length c.rom). record { map = d.map; rom = c.rom; ram = d.ram; has_rom = h }) (le_prop c.has_rom has)) d.has_rom

-- what is read of a cartridge's header
abbrev header_in : Header → Result Header CartRefused → Header
header_in none (Ok h) = h
header_in none (Err cause) = none

one_header : (r : Result Header CartRefused) (a b : Header) → r ≡ Ok a → r ≡ Ok b → a ≡ b
one_header r a b one other = ap (header_in a) (sym one ∙ other)

pub one_cart : (bytes : List ℕ) (c d : Cart) → IsCartIn bytes c → IsCartIn bytes d → c ≡ d
one_cart bytes c d one other =
    let same = one_header (verdict bytes) (record { map = c.map; ram = c.ram }) (record { map = d.map; ram = d.ram }) one.header other.header in
    cart_same c d (ap (λ (h : Header). h.map) same) (one.rom ∙ sym other.rom) (ap (λ (h : Header). h.ram) same)

pub one_table : (file a b : List ℕ) → IsTableFile file a → IsTableFile file b → a ≡ b
one_table file a b one other =
    ext_get_or 0 a b (one.entries ∙ sym other.entries)
    (λ i lt. let size = one.entries in let small : i < 512 = omega (arith, lt, size) in one.numbers i small ∙ sym (other.numbers i small))

-- so what one job's run has beyond another path, the run of each such job has
pub same_beyond : (told : Told) (job other : Job) (n : ℕ) (before path : Path) (video audio : List ℕ) → IsJobOf told job → IsJobOf told other
    → IsBeyond job n before path video audio → IsBeyond other n before path video audio
same_beyond told job other n before path video audio is also h =
    subst (λ c. IsBeyond (record other { cart = c }) n before path video audio) (one_cart told.cart job.cart other.cart is.cart also.cart)
    (subst (λ b. IsBeyond (record other { cart = job.cart; boot = b }) n before path video audio) (is.boot ∙ sym also.boot)
    (subst (λ t. IsBeyond (record other { cart = job.cart; boot = job.boot; table = t }) n before path video audio) (one_table _ job.table other.table is.table also.table)
    (subst (λ r. IsBeyond (record other { cart = job.cart; boot = job.boot; table = job.table; region = r }) n before path video audio) (is.region ∙ sym also.region) h)))
