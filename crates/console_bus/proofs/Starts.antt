-- The bus at its start: its parts are those of the start, and it keeps what its type promises.
use Rattle.std.proofs.Common.{◌≡◌, ℕ, ◌+◌, ◌<◌, List, length, replicate, length-append, false, refl, sym, ap, subst, ◌∙◌}
use Rattle.std.proofs.lemmas.List.{length-replicate}
use Rattle.snes_defs.specs.declared.region.Region.{Region}
use Rattle.snes_defs.specs.declared.spot.IrqTime.{IrqTime}
use Rattle.snes_defs.specs.declared.cart.Cart.{Cart}
use Rattle.snes_defs.specs.Script.{Script}
use Rattle.beam.specs.Events.{BeamValue}
use Rattle.io_math.specs.declared.registers.IoRegisters.{IoRegisters}
use Rattle.io_math.specs.Registers.{registers_start, framed}
use Rattle.dma_hdma.specs.declared.channel_state.Channel.{Channel}
use Rattle.ppu_regs.specs.Picture.{Picture}
use Rattle.console_bus.specs.declared.cart_board.CartBoard.{CartBoard}
use Rattle.console_bus.specs.BusState.{BusState, board_of, beam_start, memory_start, timer_of}
use Rattle.console_bus.proofs.Timers.{timer_framed}

length_memory : (ram : ℕ) (rom : List ℕ) → length (memory_start ram rom) ≡ 131072 + ram + length rom
unfolding memory_start
length_memory ram rom =
    length-append (replicate (131072 + ram) 0) rom ∙ ap (λ n. n + length rom) (length-replicate (131072 + ram) 0)

pub sized : (items : List ℕ) (b : CartBoard) (cart : Cart) → b ≡ board_of cart → items ≡ memory_start cart.ram cart.rom → length items ≡ 131072 + b.ram + b.rom
sized items b cart eb em =
    let P : CartBoard → Type 0 = λ x. length items ≡ 131072 + x.ram + x.rom in
    subst P (sym eb) (ap length em ∙ length_memory cart.ram cart.rom)

pub has_rom : (b : CartBoard) (cart : Cart) → b ≡ board_of cart → 0 < length cart.rom → 0 < b.rom
has_rom b cart eb h =
    let P : CartBoard → Type 0 = λ x. 0 < x.rom in
    subst P (sym eb) h

abbrev beam_at : Region → IrqTime → BeamValue
beam_at region timer = record { region = region; v = 0; h = 0; blank = false; timer = timer }

abbrev with_timer : BeamValue → IrqTime → BeamValue
with_timer b t = record b { timer = t }

pub beam_starts : (new old : BeamValue) (region own : Region) (off t : IrqTime) (io : IoRegisters) (a b : ℕ)
    → new ≡ with_timer old t → old ≡ beam_at region off → region ≡ own → t ≡ timer_of io → io ≡ framed registers_start a b → new ≡ beam_start own
beam_starts new old region own off t io a b en eo er et ei =
    en ∙ ap (λ x. with_timer x t) eo ∙ ap (λ r. beam_at r t) er ∙ ap (beam_at own) (et ∙ ap timer_of ei ∙ timer_framed registers_start a b)

abbrev started : CartBoard → Script → List ℕ → IoRegisters → List Channel → Picture → BeamValue → BusState
started b s m io channels picture beam = record {
  board = b;
  script = s;
  memory = m;
  port = 0;
  io = io;
  channels = channels;
  picture = picture;
  beam = beam;
  frame = 0;
  last = 0;
  refresh = false;
  reset = false;
}

pub same_start : (b c : CartBoard) (s t : Script) (m n : List ℕ) (io jo : IoRegisters) (ch dh : List Channel) (p q : Picture) (x y : BeamValue)
    → b ≡ c → s ≡ t → m ≡ n → io ≡ jo → ch ≡ dh → p ≡ q → x ≡ y → started b s m io ch p x ≡ started c t n jo dh q y
same_start b c s t m n io jo ch dh p q x y eb es em ei ec ep ex = rw (eb, es, em, ei, ec, ep, ex) refl
