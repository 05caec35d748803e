-- The effect of a step keeps the cartridge, the frame and the line, and doesn't depend on the script.
use Rattle.std.proofs.Common.{◌≡◌, ℕ, ◌+◌, ◌*◌, ◌/◌, ◌%◌, ◌<◌, ◌==◌, ◌&&◌, ◌||◌, nat_lt, nat_eq, Bool, true, false, List, drop, slice_set, refl, sym, ap, subst, ◌∙◌, arith, if◌then◌else◌}
use Rattle.std.proofs.lemmas.List.{drop-set-lt}
use Rattle.std.proofs.Math.Nat.{mod-lt}
use Rattle.std.proofs.lemmas.Bool.Decides.{nat_tests}
use Rattle.snes_defs.specs.declared.profile.Profile.{Profile}
use Rattle.snes_defs.specs.declared.cart.MapKind.{MapKind}
use Rattle.snes_defs.specs.declared.cart.MapKind.TheVariants.{LoRom, HiRom}
use Rattle.snes_defs.specs.Script.{Script, pads_at}
use Rattle.cart_map.specs.declared.places.Place.{Place}
use Rattle.cart_map.specs.declared.places.Place.TheVariants.{Wram, Rom, Ram, BBus, Cpu, Open}
use Rattle.cart_map.specs.Place.{lies, is_system_bank, is_cpu_register, system_place_of, ram_place_of, cart_place_of, bank_place_of}
use Rattle.cart_map.specs.Fold.{fold}
use Rattle.cpu_tables.specs.declared.access.Access.{Access}
use Rattle.cpu_tables.specs.declared.access.Access.TheVariants.{Fetch, Read, Write, Inner}
use Rattle.dma_hdma.specs.declared.moves.Move.{Move}
use Rattle.dma_hdma.specs.declared.moves.Move.TheVariants.{ToB, ToA, Load}
use Rattle.dma_hdma.specs.Channel as channel
use Rattle.dma_hdma.specs.Channels.{channel_at, channel_number, register_number, by_bits, after_byte}
use Rattle.io_math.specs.Registers as io
use Rattle.io_math.specs.Registers.{registers_start, framed}
use Rattle.ppu_regs.specs.Writes as picture_writes
use Rattle.console_bus.specs.declared.cart_board.CartBoard.{CartBoard}
use Rattle.console_bus.specs.BusState.{BusState, with_io, with_picture, channels_start}
use Rattle.console_bus.specs.Places.{is_channel, register_byte, register_read, register_written, chip_byte, chip_read, chip_written, picture_after_read, picture_after_write, io_register_written, place_byte, place_read, place_written, a_side, place_at, taken_from, on_bus}
use Rattle.console_bus.specs.Happenings.{was_reset}
use Rattle.console_steps.specs.ConsoleState.{Due, Resets, Refreshes, Moves_byte, Accesses, rest_after, byte_of}

-- ---- what an effect keeps

-- the ROM, behind work RAM and the cartridge's RAM
abbrev pub rom_of : BusState → List ℕ
rom_of r = drop (131072 + r.board.ram) r.memory

pub record Keeps (r q : BusState) : Type 0 where
  pub board : q.board ≡ r.board
  pub script : q.script ≡ r.script
  pub frame : q.frame ≡ r.frame
  pub line : q.beam.v ≡ r.beam.v
  pub port : r.port < 131072 → q.port < 131072
  pub rom : r.port < 131072 → rom_of q ≡ rom_of r

keeps_itself : (r : BusState) → Keeps r r
keeps_itself r = record { board = refl; script = refl; frame = refl; line = refl; port = λ p. p; rom = λ p. refl }

keeps_then : (a b d : BusState) → Keeps a b → Keeps b d → Keeps a d
keeps_then a b d f g = record {
  board = g.board ∙ f.board;
  script = g.script ∙ f.script;
  frame = g.frame ∙ f.frame;
  line = g.line ∙ f.line;
  port = λ p. g.port (f.port p);
  rom = λ p. g.rom (f.port p) ∙ f.rom p;
}

either_keeps : (b : Bool) (r x y : BusState) → Keeps r x → Keeps r y → Keeps r (if b then x else y)
either_keeps true r x y h k = h
either_keeps false r x y h k = k

unmoved : (r q : BusState) → q.board ≡ r.board → q.script ≡ r.script → q.frame ≡ r.frame → q.beam.v ≡ r.beam.v → q.port ≡ r.port → q.memory ≡ r.memory → Keeps r q
unmoved r q board script frame line port memory = record {
  board = board;
  script = script;
  frame = frame;
  line = line;
  port = λ p. subst (λ n. n < 131072) (sym port) p;
  rom = λ p. ap (λ b. drop (131072 + b.ram) q.memory) board ∙ ap (drop (131072 + r.board.ram)) memory;
}

-- another place of the port of work RAM
placed : (r q : BusState) → q.board ≡ r.board → q.script ≡ r.script → q.frame ≡ r.frame → q.beam.v ≡ r.beam.v → (r.port < 131072 → q.port < 131072) → q.memory ≡ r.memory → Keeps r q
placed r q board script frame line port memory = record {
  board = board;
  script = script;
  frame = frame;
  line = line;
  port = port;
  rom = λ p. ap (λ b. drop (131072 + b.ram) q.memory) board ∙ ap (drop (131072 + r.board.ram)) memory;
}

-- a byte that is written before the ROM
before_rom : (m : List ℕ) (ram i v : ℕ) → i < 131072 + ram → drop (131072 + ram) (slice_set m i v) ≡ drop (131072 + ram) m
before_rom m ram i v lt = drop-set-lt (131072 + ram) m i v lt

read_register_keeps : (r : BusState) (n : ℕ) → Keeps r (register_read r n)
unfolding register_read
read_register_keeps r n =
    either_keeps (nat_lt n 0x40) r _ _ (unmoved r _ refl refl refl refl refl refl)
    (either_keeps (n == 0x80) r _ _ (placed r _ refl refl refl refl (λ p. omega arith) refl) (keeps_itself r))

data_port : (r : BusState) (v : ℕ) → Keeps r (record r { memory = slice_set r.memory r.port v; port = (r.port + 1) % 0x20000 })
data_port r v = record {
  board = refl;
  script = refl;
  frame = refl;
  line = refl;
  port = λ p. omega arith;
  rom = λ p. before_rom r.memory r.board.ram r.port v (omega (arith, p));
}

written_register_keeps : (r : BusState) (n v : ℕ) → Keeps r (register_written r n v)
unfolding register_written
written_register_keeps r n v =
    either_keeps (nat_lt n 0x40) r _ _ (unmoved r _ refl refl refl refl refl refl)
    (either_keeps (n == 0x80) r _ _ (data_port r v)
    (either_keeps (n == 0x81) r _ _ (placed r _ refl refl refl refl (λ p. omega (arith, p)) refl)
    (either_keeps (n == 0x82) r _ _ (placed r _ refl refl refl refl (λ p. omega (arith, p)) refl)
    (either_keeps (n == 0x83) r _ _ (placed r _ refl refl refl refl (λ p. omega (arith, p)) refl) (keeps_itself r)))))

read_chip_keeps : (r : BusState) (n : ℕ) → Keeps r (chip_read r n)
unfolding chip_read
read_chip_keeps r n = either_keeps (is_channel n) r _ _ (keeps_itself r) (unmoved r _ refl refl refl refl refl refl)

written_chip_keeps : (r : BusState) (n v : ℕ) → Keeps r (chip_written r n v)
unfolding chip_written
written_chip_keeps r n v =
    either_keeps (is_channel n) r _ _ (unmoved r _ refl refl refl refl refl refl)
    (either_keeps (n == 0x420b) r _ _ (unmoved r _ refl refl refl refl refl refl)
    (either_keeps (n == 0x420c) r _ _ (unmoved r _ refl refl refl refl refl refl) (unmoved r _ refl refl refl refl refl refl)))

read_place_keeps : (r : BusState) (p : Place) → Keeps r (place_read r p)
read_place_keeps r (Wram i) = keeps_itself r
read_place_keeps r (Ram i) = keeps_itself r
read_place_keeps r (Rom i) = keeps_itself r
read_place_keeps r (BBus n) = read_register_keeps r n
read_place_keeps r (Cpu n) = read_chip_keeps r n
read_place_keeps r Open = keeps_itself r

-- a place that can be written lies in its memory
abbrev IsWithin : ℕ → Place → Type 0
IsWithin ram (Wram i) = i < 131072
IsWithin ram (Ram i) = i < ram
IsWithin ram (Rom i) = Unit {0}
IsWithin ram (BBus n) = Unit {0}
IsWithin ram (Cpu n) = Unit {0}
IsWithin ram Open = Unit {0}

either_within : (ram : ℕ) (b : Bool) (p q : Place) → IsWithin ram p → IsWithin ram q → IsWithin ram (if b then p else q)
either_within ram true p q h k = h
either_within ram false p q h k = k

system_within : (ram offset : ℕ) → offset < 65536 → IsWithin ram (system_place_of offset)
system_within ram offset lt =
    either_within ram (lies 0 0x1fff offset) (Wram offset) _ (omega (arith, lt))
    (either_within ram (lies 0x2100 0x21ff offset) (BBus (offset % 256)) _ tt
    (either_within ram (is_cpu_register offset) (Cpu offset) Open tt tt))

ram_within : (ram index : ℕ) → IsWithin ram (ram_place_of ram index)
ram_within ram index = go (nat_eq ram 0) refl
  where
    go : (b : Bool) → nat_eq ram 0 ≡ b → IsWithin ram (if b then Open else Ram (index % ram))
    go true e = tt
    go false e = mod-lt index (grind (arith, nat_tests))

cart_within : (map : MapKind) (rom ram bank offset : ℕ) → IsWithin ram (cart_place_of map rom ram bank offset)
cart_within LoRom rom ram bank offset =
    either_within ram (lies 0x8000 0xffff offset) (Rom (fold rom (bank % 128 * 0x8000 + offset % 0x8000))) _ tt
    (either_within ram (lies 0x70 0x7d bank || lies 0xf0 0xff bank) (ram_place_of ram (bank % 16 * 0x8000 + offset)) Open (ram_within ram (bank % 16 * 0x8000 + offset)) tt)
cart_within HiRom rom ram bank offset =
    either_within ram (lies 0x40 0x7d bank || (lies 0xc0 0xff bank || lies 0x8000 0xffff offset)) (Rom (fold rom (bank % 64 * 0x10000 + offset))) _ tt
    (either_within ram ((lies 0x20 0x3f bank || lies 0xa0 0xbf bank) && lies 0x6000 0x7fff offset) (ram_place_of ram (bank % 32 * 0x2000 + offset % 0x2000)) Open (ram_within ram (bank % 32 * 0x2000 + offset % 0x2000)) tt)

bank_within : (map : MapKind) (rom ram bank offset : ℕ) → offset < 65536 → IsWithin ram (bank_place_of map rom ram bank offset)
bank_within map rom ram bank offset lt =
    either_within ram (lies 0x7e 0x7f bank) (Wram (bank % 2 * 0x10000 + offset)) _ (omega (arith, lt))
    (either_within ram (is_system_bank bank && lies 0 0x5fff offset) (system_place_of offset) _ (system_within ram offset lt) (cart_within map rom ram bank offset))

place_within : (board : CartBoard) (addr : ℕ) → IsWithin board.ram (place_at board addr)
place_within board addr = bank_within board.map board.rom board.ram (addr / 0x10000 % 0x100) (addr % 0x10000) (omega arith)

a_side_within : (ram : ℕ) (p : Place) → IsWithin ram p → IsWithin ram (a_side p)
a_side_within ram (Wram i) h = h
a_side_within ram (Ram i) h = h
a_side_within ram (Rom i) h = tt
a_side_within ram (BBus n) h = tt
a_side_within ram (Cpu n) h = tt
a_side_within ram Open h = tt

stored_at : (r : BusState) (i v : ℕ) → i < 131072 + r.board.ram → Keeps r (record r { memory = slice_set r.memory i v })
stored_at r i v lt = record { board = refl; script = refl; frame = refl; line = refl; port = λ p. p; rom = λ p. before_rom r.memory r.board.ram i v lt }

written_place_keeps : (r : BusState) (p : Place) (v : ℕ) → IsWithin r.board.ram p → Keeps r (place_written r p v)
written_place_keeps r (Wram i) v h = stored_at r i v (omega (arith, h))
written_place_keeps r (Ram i) v h = stored_at r (131072 + i) v (omega (arith, h))
written_place_keeps r (Rom i) v h = keeps_itself r
written_place_keeps r (BBus n) v h = written_register_keeps r n v
written_place_keeps r (Cpu n) v h = written_chip_keeps r n v
written_place_keeps r Open v h = keeps_itself r

-- a byte on the bus, other channels
on_bus_keeps : (r q : BusState) (byte : ℕ) → Keeps r q → Keeps r (on_bus q byte)
on_bus_keeps r q byte h = record { board = h.board; script = h.script; frame = h.frame; line = h.line; port = h.port; rom = h.rom }

from_bus_keeps : (r q : BusState) (byte : ℕ) → Keeps (on_bus r byte) q → Keeps r q
from_bus_keeps r q byte h = record { board = h.board; script = h.script; frame = h.frame; line = h.line; port = h.port; rom = h.rom }

moved_keeps : (r q : BusState) (byte : ℕ) → Keeps r q → Keeps r (record q { channels = after_byte q.channels byte })
moved_keeps r q byte h = record { board = h.board; script = h.script; frame = h.frame; line = h.line; port = h.port; rom = h.rom }

reset_keeps : (r : BusState) → Keeps r (was_reset r)
unfolding was_reset
reset_keeps r = unmoved r _ refl refl refl refl refl refl

move_keeps : (r : BusState) (m : Move) (got : ℕ) → Keeps r (rest_after r (Moves_byte m) got)
move_keeps r (ToB from port) got =
    let byte = taken_from r from in
    moved_keeps r _ byte (from_bus_keeps r _ byte (written_register_keeps (on_bus r byte) port byte))
move_keeps r (ToA port to) got =
    let byte = register_byte r port got in
    let read = on_bus (register_read r port) byte in
    moved_keeps r _ byte
    (keeps_then r read _ (on_bus_keeps r (register_read r port) byte (read_register_keeps r port))
    (written_place_keeps read (a_side (place_at read.board to)) byte (a_side_within read.board.ram (place_at read.board to) (place_within read.board to))))
move_keeps r (Load from) got = unmoved r _ refl refl refl refl refl refl

access_keeps : (r : BusState) (a : Access) (got : ℕ) → Keeps r (rest_after r (Accesses a) got)
access_keeps r (Fetch addr) got = on_bus_keeps r _ _ (read_place_keeps r (place_at r.board addr))
access_keeps r (Read addr) got = on_bus_keeps r _ _ (read_place_keeps r (place_at r.board addr))
access_keeps r (Write addr v) got = on_bus_keeps r _ v (written_place_keeps r (place_at r.board addr) v (place_within r.board addr))
access_keeps r Inner got = keeps_itself r

pub effect_keeps : (r : BusState) (d : Due) (got : ℕ) → Keeps r (rest_after r d got)
effect_keeps r Resets got = reset_keeps r
effect_keeps r Refreshes got = unmoved r _ refl refl refl refl refl refl
effect_keeps r (Moves_byte m) got = move_keeps r m got
effect_keeps r (Accesses a) got = access_keeps r a got

-- ---- an effect under another script of the same profile

abbrev pub with_script : Script → BusState → BusState
with_script s r = record r { script = s }

-- the other script, with the profile of this one
abbrev in_profile_of : Script → BusState → Script
in_profile_of s r = record s { profile = r.script.profile }

abbrev told : Script → BusState → BusState
told s r = with_script (in_profile_of s r) r

pick : (s : Script) (b : Bool) (x y x' y' : BusState) → x' ≡ told s x → y' ≡ told s y → (if b then x' else y') ≡ told s (if b then x else y)
pick s true x y x' y' e f = e
pick s false x y x' y' e f = f

read_register_told : (s : Script) (r : BusState) (n : ℕ) → register_read (told s r) n ≡ told s (register_read r n)
unfolding register_read
read_register_told s r n =
    pick s (nat_lt n 0x40) (with_picture r (picture_after_read r n)) _ _ _ refl
    (pick s (n == 0x80) (record r { port = (r.port + 1) % 0x20000 }) r _ _ refl refl)

written_register_told : (s : Script) (r : BusState) (n v : ℕ) → register_written (told s r) n v ≡ told s (register_written r n v)
unfolding register_written
written_register_told s r n v =
    pick s (nat_lt n 0x40) (with_picture r (picture_after_write r n v)) _ _ _ refl
    (pick s (n == 0x80) (record r { memory = slice_set r.memory r.port v; port = (r.port + 1) % 0x20000 }) _ _ _ refl
    (pick s (n == 0x81) (record r { port = r.port / 0x100 * 0x100 + v % 0x100 }) _ _ _ refl
    (pick s (n == 0x82) (record r { port = r.port / 0x10000 * 0x10000 + 0x100 * (v % 0x100) + r.port % 0x100 }) _ _ _ refl
    (pick s (n == 0x83) (record r { port = 0x10000 * (v % 2) + r.port % 0x10000 }) r _ _ refl refl))))

read_chip_told : (s : Script) (r : BusState) (n : ℕ) → chip_read (told s r) n ≡ told s (chip_read r n)
unfolding chip_read
read_chip_told s r n = pick s (is_channel n) r (record r { io = io.after_read r.io n }) _ _ refl refl

written_chip_told : (s : Script) (r : BusState) (n v : ℕ) → chip_written (told s r) n v ≡ told s (chip_written r n v)
unfolding chip_written
written_chip_told s r n v =
    pick s (is_channel n) (record r { channels = slice_set r.channels (channel_number n) (channel.written (channel_at r.channels (channel_number n)) (register_number n) v) }) _ _ _ refl
    (pick s (n == 0x420b) (record r { channels = by_bits channel.started r.channels v }) _ _ _ refl
    (pick s (n == 0x420c) (record r { channels = by_bits channel.enabled_as r.channels v }) (io_register_written r n v) _ _ refl refl))

register_byte_told : (s : Script) (r : BusState) (n got : ℕ) → register_byte (told s r) n got ≡ register_byte r n got
unfolding register_byte
register_byte_told s r n got = refl

chip_byte_told : (s : Script) (r : BusState) (n : ℕ) → chip_byte (told s r) n ≡ chip_byte r n
unfolding chip_byte
chip_byte_told s r n = refl

place_byte_told : (s : Script) (r : BusState) (p : Place) (got : ℕ) → place_byte (told s r) p got ≡ place_byte r p got
place_byte_told s r (Wram i) got = refl
place_byte_told s r (Ram i) got = refl
place_byte_told s r (Rom i) got = refl
place_byte_told s r (BBus n) got = register_byte_told s r n got
place_byte_told s r (Cpu n) got = chip_byte_told s r n
place_byte_told s r Open got = refl

place_read_told : (s : Script) (r : BusState) (p : Place) → place_read (told s r) p ≡ told s (place_read r p)
place_read_told s r (Wram i) = refl
place_read_told s r (Ram i) = refl
place_read_told s r (Rom i) = refl
place_read_told s r (BBus n) = read_register_told s r n
place_read_told s r (Cpu n) = read_chip_told s r n
place_read_told s r Open = refl

place_written_told : (s : Script) (r : BusState) (p : Place) (v : ℕ) → place_written (told s r) p v ≡ told s (place_written r p v)
place_written_told s r (Wram i) v = refl
place_written_told s r (Ram i) v = refl
place_written_told s r (Rom i) v = refl
place_written_told s r (BBus n) v = written_register_told s r n v
place_written_told s r (Cpu n) v = written_chip_told s r n v
place_written_told s r Open v = refl

taken_as : (s : Script) (r : BusState) (addr : ℕ) → taken_from (told s r) addr ≡ taken_from r addr
taken_as s r addr = place_byte_told s r (a_side (place_at r.board addr)) 0

abbrev by_bus : BusState → ℕ → BusState
by_bus q byte = on_bus q byte

abbrev by_channels : BusState → ℕ → BusState
by_channels q byte = record q { channels = after_byte q.channels byte }

move_told : (s : Script) (r : BusState) (m : Move) (got : ℕ) → rest_after (told s r) (Moves_byte m) got ≡ told s (rest_after r (Moves_byte m) got)
move_told s r (ToB from port) got =
    ap (λ b. by_channels (register_written (on_bus (told s r) b) port b) b) (taken_as s r from)
    ∙ ap (λ q. by_channels q (taken_from r from)) (written_register_told s (on_bus r (taken_from r from)) port (taken_from r from))
move_told s r (ToA port to) got =
    let byte = register_byte r port got in
    let read = on_bus (register_read r port) byte in
    ap (λ b. by_channels (place_written (on_bus (register_read (told s r) port) b) (a_side (place_at (register_read (told s r) port).board to)) b) b) (register_byte_told s r port got)
    ∙ ap (λ q. by_channels (place_written (on_bus q byte) (a_side (place_at q.board to)) byte) byte) (read_register_told s r port)
    ∙ ap (λ q. by_channels q byte) (place_written_told s read (a_side (place_at read.board to)) byte)
move_told s r (Load from) got = ap (λ b. by_channels (on_bus (told s r) b) b) (taken_as s r from)

access_told : (s : Script) (r : BusState) (a : Access) (got : ℕ) → rest_after (told s r) (Accesses a) got ≡ told s (rest_after r (Accesses a) got)
access_told s r (Fetch addr) got =
    let p = place_at r.board addr in
    ap (λ b. on_bus (place_read (told s r) p) b) (place_byte_told s r p got) ∙ ap (λ q. on_bus q (place_byte r p got)) (place_read_told s r p)
access_told s r (Read addr) got =
    let p = place_at r.board addr in
    ap (λ b. on_bus (place_read (told s r) p) b) (place_byte_told s r p got) ∙ ap (λ q. on_bus q (place_byte r p got)) (place_read_told s r p)
access_told s r (Write addr v) got = ap (λ q. on_bus q v) (place_written_told s r (place_at r.board addr) v)
access_told s r Inner got = refl

-- a reset takes the pads of the frame
reset_told : (s : Script) (r : BusState) → pads_at s.spans r.frame ≡ pads_at r.script.spans r.frame → was_reset (told s r) ≡ told s (was_reset r)
unfolding was_reset
reset_told s r same = ap (λ p. told s (with_io (record r { channels = channels_start; picture = picture_writes.after_write r.picture 0 0x80; last = 0; reset = false }) (framed registers_start p.0 p.1))) same

effect_as : (s : Script) (r : BusState) (d : Due) (got : ℕ) → pads_at s.spans r.frame ≡ pads_at r.script.spans r.frame
    → rest_after (told s r) d got ≡ told s (rest_after r d got)
effect_as s r Resets got same = reset_told s r same
effect_as s r Refreshes got same = refl
effect_as s r (Moves_byte m) got same = move_told s r m got
effect_as s r (Accesses a) got same = access_told s r a got

byte_as : (s : Script) (r : BusState) (a : Access) (got : ℕ) → byte_of (told s r) a got ≡ byte_of r a got
byte_as s r (Fetch addr) got = place_byte_told s r (place_at r.board addr) got
byte_as s r (Read addr) got = place_byte_told s r (place_at r.board addr) got
byte_as s r (Write addr v) got = refl
byte_as s r Inner got = refl

-- the other script is the same with the profile of this one
same_profile : (s : Script) (r : BusState) → s.profile ≡ r.script.profile → s ≡ in_profile_of s r
same_profile s r profile = ap (λ (p : Profile). record s { profile = p }) profile

pub taken_told : (s : Script) (r : BusState) (addr : ℕ) → s.profile ≡ r.script.profile → taken_from (with_script s r) addr ≡ taken_from r addr
taken_told s r addr profile = ap (λ v. taken_from (with_script v r) addr) (same_profile s r profile) ∙ taken_as s r addr

pub effect_told : (s : Script) (r : BusState) (d : Due) (got : ℕ) → s.profile ≡ r.script.profile → pads_at s.spans r.frame ≡ pads_at r.script.spans r.frame
    → rest_after (with_script s r) d got ≡ with_script s (rest_after r d got)
effect_told s r d got profile same =
    let q = rest_after r d got in
    ap (λ v. rest_after (with_script v r) d got) (same_profile s r profile)
    ∙ effect_as s r d got same
    ∙ ap (λ v. with_script v q) (sym (same_profile s q (profile ∙ ap (λ (v : Script). v.profile) (sym (effect_keeps r d got).script))))

pub byte_told : (s : Script) (r : BusState) (a : Access) (got : ℕ) → s.profile ≡ r.script.profile → byte_of (with_script s r) a got ≡ byte_of r a got
byte_told s r a got profile = ap (λ v. byte_of (with_script v r) a got) (same_profile s r profile) ∙ byte_as s r a got
