use Rattle.std.proofs.Common.{length, refl, arith}
use Rattle.frame_player_laws.specs.Scripts.{one_span_path, presses_from}
use Rattle.frame_player_laws.proofs.Played.{any_script, one_span}
use Rattle.frame_player_laws.proofs.scripts.held_pads_are_one_span.Goals as goal

pub returns : goal.returns
returns c = λ told frames job n pad1 pad2 none no_resets is played few held.
    any_script told frames job none no_resets is played few n
    (one_span_path (length frames) pad1 pad2 (presses_from 0 frames)) (omega arith) (one_span pad1 pad2 frames held) refl
