use Rattle.std.proofs.Common.{[], ◌++◌}
use base.Fml.{Lft}
use contract.BorrowLft.{◌⊑◌, ⊑_static, ⊑_meet}
use Rattle.kept_frames.proofs.console.SnesConsole.tell_begun.Goals as goal

-- the call's lifetime ends before that of each of the three slices, as the type that holds them has to know twice
once : (κ κ₁ κ₂ κ₃ : Lft) → κ ⊑ κ₁ → κ ⊑ κ₂ → κ ⊑ κ₃ → κ ⊑ (κ₁ ++ []) ++ ((κ₂ ++ []) ++ ((κ₃ ++ []) ++ []))
once κ κ₁ κ₂ κ₃ h₁ h₂ h₃ =
    let alone : (κ' : Lft) → κ ⊑ κ' → κ ⊑ κ' ++ [] = λ κ' h. ⊑_meet κ κ' [] h (⊑_static κ) in
    ⊑_meet κ (κ₁ ++ []) _ (alone κ₁ h₁) (⊑_meet κ (κ₂ ++ []) _ (alone κ₂ h₂) (⊑_meet κ (κ₃ ++ []) _ (alone κ₃ h₃) (⊑_static κ)))

pub tell-requires : goal.tell-requires
tell-requires c κs within =
    let each = once κs.1.1.0 κs.1.1.1.0 κs.1.1.1.1.0 κs.1.1.1.1.1.0 within.0 within.1.0 within.1.1.0 in
    (⊑_meet κs.1.1.0 _ _ each each, c.requires.empty)
