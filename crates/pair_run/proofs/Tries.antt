-- A call that was answered, and the step that it lets the machine make.
use Rattle.std.proofs.Common.{◌≡◌, ℕ, ◌+◌, ◌≤◌, List, ◌++◌, refl, ap, sym, ◌∙◌, subst, arith}
use Rattle.snes_defs.specs.declared.ports.Side.{Side}
use Rattle.snes_defs.specs.declared.ports.Act.{Act}
use Rattle.port_entries.specs.Window.{IsSettled}
use Rattle.side_law.specs.Moves.{Moves, taken}
use Rattle.commute_laws.specs.History.{History, entry_of}
use Rattle.commute_laws.specs.Heard.{OnLook, heard_got}
use Rattle.port_wire.specs.Seen.{Half}
use Rattle.pair_run.specs.Tried.{Tried}

-- of a machine whose next step does `act` at `at` and gets `got`
pub tried : {State : Type 0} (side : Side) (moves : Moves State) (window : ℕ) (stands : State → Type 0) (old new : Half)
    (waited waits : List ℕ) (before : History State) (act : Act) (at got : ℕ)
    → moves.act before.now ≡ act → moves.stamp before.now ≡ at → before.entries ≡ old.mine
    → taken act got ≡ heard_got side old.mine new.heard at act
    → new.mine ≡ old.mine ++ entry_of at act
    → OnLook act (IsSettled side at new.upto) → at ≤ new.known + window
    → stands (moves.next before.now (taken (moves.act before.now) got))
    → waits ≡ waited ++ moves.bytes before.now (taken (moves.act before.now) got)
    → Tried side moves window stands new waited waits before
tried side moves window stands old new waited waits before act at got act_is stamp_is entries_is got_is mine_is settled within now waits_is =
    let heard : heard_got side before.entries new.heard (moves.stamp before.now) (moves.act before.now) ≡ heard_got side old.mine new.heard at act =
    ap (λ l. heard_got side l new.heard (moves.stamp before.now) (moves.act before.now)) entries_is
    ∙ ap (λ t. heard_got side old.mine new.heard t (moves.act before.now)) stamp_is
    ∙ ap (heard_got side old.mine new.heard at) act_is in
    let takes : taken (moves.act before.now) got ≡ heard_got side before.entries new.heard (moves.stamp before.now) (moves.act before.now) =
    ap (λ a. taken a got) act_is ∙ got_is ∙ sym heard in
    record {
      now_stands = subst (λ k. stands (moves.next before.now k)) takes now;
      entries = ap (λ l. l ++ entry_of (moves.stamp before.now) (moves.act before.now)) entries_is
          ∙ ap (λ t. old.mine ++ entry_of t (moves.act before.now)) stamp_is
          ∙ ap (λ a. old.mine ++ entry_of at a) act_is ∙ sym mine_is;
      emitted = moves.bytes before.now (heard_got side before.entries new.heard (moves.stamp before.now) (moves.act before.now));
      emitted_is = refl;
      waits_is = sym (waits_is ∙ ap (λ k. waited ++ moves.bytes before.now k) takes);
      settled = subst (λ a. OnLook a (IsSettled side (moves.stamp before.now) new.upto)) (sym act_is)
          (subst (λ t. OnLook act (IsSettled side t new.upto)) (sym stamp_is) settled);
      within = omega (arith, stamp_is);
    }
