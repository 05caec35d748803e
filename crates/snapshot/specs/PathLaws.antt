-- What the runs of paths emit: each path emits something, and one thing.
use Rattle.std.proofs.Common.{◌≡◌, ℕ, List, [], ◌∷◌, ◌++◌, drop, refl, ap, sym, ◌∙◌, arith}
use Rattle.snes_defs.specs.declared.cart.Job.{Job}
use Rattle.plan_drive.specs.Paths.{Path}
use Rattle.side_law.proofs.SerialRuns.{run_ends, same_output}
use Rattle.side_law.proofs.SerialKeeps.{serving_at_first}
use Rattle.console_steps.specs.ConsoleState.{console_moves}
use Rattle.console_machine.specs.Side.{IsConsoleOf}
use Rattle.console_machine.specs.SideLaws.{console_is_lawful}
use Rattle.audio_side.specs.Sound.{IsSound, sound_moves}
use Rattle.audio_side.specs.SoundLaws.{sound_is_lawful}
use Rattle.snapshot.specs.Path.{PathEmits, console_of_path, sound_of_path, start_of, end_of_path}
use Rattle.snapshot.specs.Positions.{IsBeyond}
use Rattle.run_drive.specs.Driven.{Ends}

-- lists that begin alike and are equal go on alike
pub cancel : (f g p : List ℕ) → f ++ g ≡ f ++ p → g ≡ p
cancel [] g p e = e
cancel (x ∷ f) g p e = cancel f g p (ap (drop 1) e)

same_rest : (first other rest other_rest : List ℕ) → first ≡ other → first ++ rest ≡ other ++ other_rest
    → rest ≡ other_rest
same_rest first other rest other_rest begin whole =
    cancel first rest other_rest (whole ∙ ap (λ v. v ++ other_rest) (sym begin))

module _ (job : Job) (n : ℕ) (path : Path) where
  -- the run of a path's job comes to any end
  pub path_ends : (end : ℕ)
      → Ends console_moves sound_moves (console_of_path job.region job.cart n path)
      (sound_of_path job.region n path.resets job.boot job.table) end
  path_ends end =
      let console = console_of_path job.region job.cart n path in
      let sound = sound_of_path job.region n path.resets job.boot job.table in
      run_ends job.region (IsConsoleOf job.region) (IsSound job.region) 1024 4 console_moves sound_moves
      (console_is_lawful job.region) (sound_is_lawful job.region) (start_of job n path) end
      (serving_at_first (IsConsoleOf job.region) (IsSound job.region) console sound
      (record { region = refl; line = omega arith }) refl)

  -- EVERY PATH EMITS something
  pub path_emits : (video : List ℕ) × (audio : List ℕ) × PathEmits job n path video audio
  path_emits = path_ends (end_of_path job.region path)

  -- AND NOTHING ELSE: two outputs of one path's job are equal
  pub path_emits_once : (video audio other_video other_audio : List ℕ) → PathEmits job n path video audio
      → PathEmits job n path other_video other_audio → (video ≡ other_video) × (audio ≡ other_audio)
  path_emits_once = same_output console_moves sound_moves (start_of job n path) (end_of_path job.region path)

-- so what a longer path has beyond a shorter one is one thing too
pub beyond_once : (job : Job) (n : ℕ) (before path : Path) (video audio other_video other_audio : List ℕ)
    → IsBeyond job n before path video audio → IsBeyond job n before path other_video other_audio
    → (video ≡ other_video) × (audio ≡ other_audio)
beyond_once job n before path video audio other_video other_audio h k =
    let first = path_emits_once job n before h.first_video h.first_audio k.first_video k.first_audio h.first k.first in
    let whole = path_emits_once job n path (h.first_video ++ video) (h.first_audio ++ audio)
    (k.first_video ++ other_video) (k.first_audio ++ other_audio) h.whole k.whole in (
      same_rest h.first_video k.first_video video other_video first.0 whole.0,
      same_rest h.first_audio k.first_audio audio other_audio first.1 whole.1,
    )
