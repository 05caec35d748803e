-- Settings that each take what they are set to.
use Rattle.std.proofs.Common.{◌≡◌, ℕ, Bool, true, false, ◌&&◌, List, [], ◌∷◌, refl}
use Rattle.std.specs.List.{list_all}
use Rattle.run_io.specs.declared.options.Setting.{Setting}
use Rattle.run_io.specs.Settings.{is_taken, IsTaken}
use Rattle.run_io.specs.Lists.{AllOf}

both : (a b : Bool) → a && b ≡ true → (a ≡ true) × (b ≡ true)
both true b h = (refl, h)
both false b h = absurd cc

pub are_taken : (pairs : List (List ℕ)) (settings : List Setting) → list_all (is_taken pairs) settings ≡ true → AllOf (IsTaken pairs) settings
are_taken pairs [] h = tt
are_taken pairs (setting ∷ settings) h =
    let one = both (is_taken pairs setting) (list_all (is_taken pairs) settings) h in
    (one.0, are_taken pairs settings one.1)
