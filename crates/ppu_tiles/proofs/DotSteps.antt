-- The dots that the planes of a row stand for are those of its layer dots.
use Rattle.std.proofs.Common.{◌≡◌, ℕ, ◌+◌, ◌*◌, ◌/◌, ◌%◌, ◌<◌, ◌==◌, ◌&&◌, not, List, Bool, true, false, slice_index, slice_index_or, if◌then◌else◌, zero, suc, refl, ap, subst, ◌∙◌, arith}
use Rattle.std.proofs.lemmas.Bool.Decides.{nat_tests}
use Rattle.ppu_regs.specs.declared.registers.Registers.{Registers}
use Rattle.ppu_regs.specs.declared.dots.LayerDot.{LayerDot}
use Rattle.ppu_regs.specs.declared.dots.Dot.{Dot}
use Rattle.ppu_regs.specs.Dots.{rank_of, dot_of, no_dot}
use Rattle.ppu_tiles.specs.Modes.{depth_of}
use Rattle.ppu_tiles.specs.Backgrounds.{layer_dot_of, layer_dot_at, background_layer_dot}
use Rattle.ppu_tiles.specs.Columns.{base_of, planes_layer_dot}
use Rattle.ppu_regs.specs.Picture.{Picture}

-- what two bytes stand for, by their parts
dot_shown :
    (cgram : List ℕ) (rank priority number palette : ℕ) (direct : Bool) → (rank == 0) ≡ false → rank / 32 ≡ priority → rank % 8 ≡ palette →
    (let c : LayerDot = record { on = true; priority = priority; number = number; direct = direct; palette = palette; math = true } in
    dot_of cgram (planes_layer_dot rank number direct) ≡ dot_of cgram c)
unfolding dot_of planes_layer_dot
dot_shown cgram rank priority number palette direct shown high low = rw (shown, high, low) refl

not_zero : (n : ℕ) → 0 < n → (n == 0) ≡ false
not_zero n h = grind (arith, nat_tests)

dot_by_parts :
    (cgram : List ℕ) (on : Bool) (priority number palette : ℕ) (direct : Bool) → priority < 2 → palette < 8 →
    (let c : LayerDot = record { on = on; priority = priority; number = number; direct = direct; palette = palette; math = true } in
    dot_of cgram (planes_layer_dot (rank_of (base_of 16 32 c) c) number direct) ≡ dot_of cgram c)
unfolding rank_of dot_of planes_layer_dot
dot_by_parts cgram false priority number palette direct hp ht = refl
dot_by_parts cgram true zero number palette direct hp ht =
    dot_shown cgram (16 + palette) 0 number palette direct (not_zero (16 + palette) (omega arith)) (omega arith) (omega arith)
dot_by_parts cgram true (suc zero) number palette direct hp ht =
    dot_shown cgram (32 + palette) 1 number palette direct (not_zero (32 + palette) (omega arith)) (omega arith) (omega arith)
dot_by_parts cgram true (suc (suc priority)) number palette direct hp ht = absurd (omega arith)

small_palette : (b : Bool) (n : ℕ) → n < 8 → (if b then n else 0) < 8
small_palette true n h = h
small_palette false n h = omega arith

dot_of_entry :
    (cgram : List ℕ) (r : Registers) (layer entry value : ℕ) →
    (let c = layer_dot_of r layer entry value in
    dot_of cgram (planes_layer_dot (rank_of (base_of 16 32 c) c) c.number ((depth_of r.mode layer == 8) && r.colour.direct)) ≡ dot_of cgram c)
unfolding layer_dot_of
dot_of_entry cgram r layer entry value =
    dot_by_parts cgram (not (value == 0)) (entry / 8192 % 2) _ (if (depth_of r.mode layer == 8) && r.colour.direct then entry / 1024 % 8 else 0)
    ((depth_of r.mode layer == 8) && r.colour.direct) (omega arith) (small_palette ((depth_of r.mode layer == 8) && r.colour.direct) (entry / 1024 % 8) (omega arith))

-- the dot of a row's bytes
pub row_dot :
    (p : Picture) (layer row e rank number : ℕ) (direct : Bool) → direct ≡ ((depth_of p.registers.mode layer == 8) && p.registers.colour.direct) →
    (let c = background_layer_dot p layer row e in
    rank ≡ rank_of (base_of 16 32 c) c → number ≡ c.number → dot_of p.cgram (planes_layer_dot rank number direct) ≡ dot_of p.cgram c)
unfolding background_layer_dot layer_dot_at
row_dot p layer row e rank number direct hd hr hn = rw (hd, hr, hn) (dot_of_entry p.cgram p.registers layer _ _)

-- the dots of one half of a row, from its planes
pub half_of_dots :
    (p : Picture) (layer row half : ℕ) (ranks numbers cgram : List ℕ) (direct : Bool) (out : List Dot) → cgram ≡ p.cgram →
    direct ≡ ((depth_of p.registers.mode layer == 8) && p.registers.colour.direct) →
    ((x : ℕ) → x < 256 → (let c = background_layer_dot p layer row (2 * x + half) in slice_index ranks x ≡ rank_of (base_of 16 32 c) c)) →
    ((x : ℕ) → x < 256 → slice_index numbers x ≡ (background_layer_dot p layer row (2 * x + half)).number) →
    ((x : ℕ) → x < 256 → slice_index_or out (2 * x + half) no_dot ≡ dot_of cgram (planes_layer_dot (slice_index ranks x) (slice_index numbers x) direct)) →
    (e : ℕ) → e < 512 → e % 2 ≡ half → slice_index_or out e no_dot ≡ dot_of p.cgram (background_layer_dot p layer row e)
half_of_dots p layer row half ranks numbers cgram direct out hc hd hr hn filled e h dot =
    let place : 2 * (e / 2) + half ≡ e = omega arith in
    let small : e / 2 < 256 = omega arith in
    subst (λ n. slice_index_or out n no_dot ≡ dot_of p.cgram (background_layer_dot p layer row n)) place
    (filled (e / 2) small
    ∙ ap (λ xs. dot_of xs (planes_layer_dot (slice_index ranks (e / 2)) (slice_index numbers (e / 2)) direct)) hc
    ∙ row_dot p layer row (2 * (e / 2) + half) (slice_index ranks (e / 2)) (slice_index numbers (e / 2)) direct hd (hr (e / 2) small) (hn (e / 2) small))
