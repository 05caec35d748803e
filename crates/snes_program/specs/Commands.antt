-- THE COMMANDS by their names.
use Rattle.std.specs.Prelude.{ℕ, Bool, true, false, List, [], ◌∷◌, codes}
use Rattle.std.specs.Str.{bytes_eq}
use Rattle.snes_defs.specs.declared.cart.Job.{Job}
use Rattle.snes_commands.specs.Wish.{Wish, Nothing, asks}
use Rattle.snes_commands.specs.Run.{run}
use Rattle.snes_commands.specs.Make.{make}
use Rattle.snes_commands.specs.Play.{play}
use Rattle.snes_commands.specs.Demo.{demo}
use Rattle.snes_commands.specs.Rewind.{rewind}
use Rattle.snes_commands.specs.SumsRun.{sums}
use Rattle.snes_commands.specs.Check.{check}
use Rattle.snes_commands.specs.Dump.{dump}
use Rattle.snes_commands.specs.SoundFile.{spc}
use Rattle.snes_commands.specs.Help.{help, version}

abbrev pub where_true : Bool → Wish → Wish → Wish
where_true true one other = one
where_true false one other = other

-- each command under its name, by the words behind it, and by what the run of a job emits, the state that it leaves and
-- the sound file that is taken at its end; `serial` and `lockless` have the words of `run`, and make the same
unfoldable pub asked_by : (emits : Job → List ℕ → List ℕ → Type 0) → (leaves sounds : Job → List ℕ → Type 0) → List ℕ → List (List ℕ) → Wish
asked_by emits leaves sounds name words =
    where_true (bytes_eq name (codes "run")) (asks (run emits) words) (
    where_true (bytes_eq name (codes "serial")) (asks (run emits) words) (
    where_true (bytes_eq name (codes "lockless")) (asks (run emits) words) (
    where_true (bytes_eq name (codes "play")) (asks play words) (
    where_true (bytes_eq name (codes "make")) (asks make words) (
    where_true (bytes_eq name (codes "demo")) (asks (demo emits) words) (
    where_true (bytes_eq name (codes "rewind")) (asks (rewind emits) words) (
    where_true (bytes_eq name (codes "sums")) (asks (sums emits) words) (
    where_true (bytes_eq name (codes "check")) (asks (check emits) words) (
    where_true (bytes_eq name (codes "dump")) (asks (dump leaves) words) (
    where_true (bytes_eq name (codes "spc")) (asks (spc sounds) words) (
    where_true (bytes_eq name (codes "--help")) (asks help words) (
    where_true (bytes_eq name (codes "-h")) (asks help words) (
    where_true (bytes_eq name (codes "--version")) (asks version words)
    Nothing)))))))))))))

-- the first word is the name
abbrev pub asked : (emits : Job → List ℕ → List ℕ → Type 0) → (leaves sounds : Job → List ℕ → Type 0) → List (List ℕ) → Wish
asked emits leaves sounds [] = Nothing
asked emits leaves sounds (name ∷ words) = asked_by emits leaves sounds name words
