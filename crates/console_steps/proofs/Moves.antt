-- The beam stays where it is over an access of a register of the B bus, and over a byte of a transfer.
use Rattle.std.proofs.Common.{◌≡◌, ℕ, ◌==◌, nat_lt, refl, ◌∙◌}
use Rattle.cart_map.specs.declared.places.Place.{Place}
use Rattle.cart_map.specs.declared.places.Place.TheVariants.{Wram, Rom, Ram, BBus, Cpu as Chip, Open}
use Rattle.dma_hdma.specs.declared.moves.Move.{Move}
use Rattle.dma_hdma.specs.declared.moves.Move.TheVariants.{ToB, ToA, Load}
use Rattle.console_bus.specs.BusState.{BusState}
use Rattle.console_bus.specs.Places.{register_read, register_written, place_written, place_at, a_side, taken_from, register_byte, on_bus}
use Rattle.console_steps.specs.ConsoleState.{after_move}
use Rattle.console_steps.proofs.Beams.{if_beam}

pub read_beam : (r : BusState) (n : ℕ) → (register_read r n).beam ≡ r.beam
unfolding register_read
read_beam r n = if_beam (nat_lt n 0x40) _ _ r.beam refl (if_beam (n == 0x80) _ _ r.beam refl refl)

pub written_beam : (r : BusState) (n v : ℕ) → (register_written r n v).beam ≡ r.beam
unfolding register_written
written_beam r n v =
    if_beam (nat_lt n 0x40) _ _ r.beam refl
    (if_beam (n == 0x80) _ _ r.beam refl
    (if_beam (n == 0x81) _ _ r.beam refl
    (if_beam (n == 0x82) _ _ r.beam refl
    (if_beam (n == 0x83) _ _ r.beam refl refl))))

given_beam : (r : BusState) (p : Place) (v : ℕ) → (place_written r (a_side p) v).beam ≡ r.beam
given_beam r (Wram i) v = refl
given_beam r (Ram i) v = refl
given_beam r (Rom i) v = refl
given_beam r (BBus n) v = refl
given_beam r (Chip n) v = refl
given_beam r Open v = refl

pub moved_beam : (r : BusState) (m : Move) (got : ℕ) → (after_move r m got).beam ≡ r.beam
moved_beam r (ToB from port) got = written_beam (on_bus r (taken_from r from)) port (taken_from r from)
moved_beam r (ToA port to) got =
    let byte = register_byte r port got in
    let read = on_bus (register_read r port) byte in
    given_beam read (place_at read.board to) byte ∙ read_beam r port
moved_beam r (Load from) got = refl
