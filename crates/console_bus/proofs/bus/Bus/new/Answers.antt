use Rattle.std.proofs.Common.{ℕ, List, refl, sym, ap, subst, ◌∙◌, arith}
use Rattle.ppu_regs.specs.Picture.{picture_start}
use Rattle.tile_cache.specs.Bitplanes.{IsInStep}
use Rattle.console_bus.specs.Memory.{MapState}
use Rattle.console_bus.proofs.Starts.{sized, has_rom, beam_starts, same_start}
use Rattle.console_bus.proofs.bus.Bus.new.Goals as goal

pub invariant_of-result : goal.invariant_of-result
invariant_of-result c =
    let made = ap (λ (m : MapState). m.board) c.set_speed.ensures ∙ ap (λ (m : MapState). m.board) c.in_ok-map.ensures ∙ c.board.ensures in (
      sized c.in_ok-memory.memory.items _ c.args.cart.now made c.in_ok-memory.ensures,
      has_rom _ c.args.cart.now made c.args.cart.now.has_rom,
      ap (λ (m : MapState). m.fast) c.set_speed.ensures ∙ c.fast.ensures,
      omega arith,
      ap (λ b. b.timer) c.aim.ensures ∙ c.irq_time.ensures,
      (let P : List ℕ → Type 0 = λ v. IsInStep c.in_ok-tiles.tiles v in subst P (sym (ap (λ p. p.vram) c.in_ok-ppu.ensures.start)) c.in_ok-tiles.ensures.start),
    )

pub returns : goal.returns
returns c =
    let made = ap (λ (m : MapState). m.board) c.set_speed.ensures ∙ ap (λ (m : MapState). m.board) c.in_ok-map.ensures ∙ c.board.ensures in
    same_start _ _ _ _ _ _ _ _ _ _ _ _ _ _ made c.in_ok-copied.ensures c.in_ok-memory.ensures c.first_io-io.ensures c.no_transfers.ensures (c.in_ok-ppu.ensures.start ∙ ap picture_start c.profile.ensures)
    (beam_starts _ _ _ _ _ _ _ _ _ c.aim.ensures c.new-beam.ensures refl c.irq_time.ensures c.first_io-io.ensures)
