-- Steps of the console over the sound side behind its ports lead both ahead of a serial console.
use Rattle.std.specs.Prelude.{◌==◌, ◌-◌, ◌^◌, if◌then◌else◌}
use Rattle.std.proofs.Common.{◌≡◌, ℕ, zero, suc, ◌+◌, ◌<◌, ◌≤◌, ◌⊎◌, List, [], ◌++◌, length, refl, ap, sym, ◌∙◌, subst, inl, inr, ⊎_elim, append_assoc, arith}
use Rattle.std.proofs.lemmas.List.{append-nil}
use Rattle.std.proofs.lemmas.Bool.{cases_lt}
use Rattle.std.proofs.lemmas.Bool.Decides.{nat_tests}
use Rattle.std.proofs.Math.Nat.{eq-or-lt_of_le}
use Rattle.snes_defs.specs.declared.region.Region.{Region}
use Rattle.snes_defs.specs.declared.ports.Act.{Act}
use Rattle.snes_defs.specs.declared.ports.Act.TheVariants.{Quiet, Read, Write, Clear}
use Rattle.side_law.specs.declared.ports.Stop.{Stop}
use Rattle.side_law.specs.declared.ports.Stop.TheVariants.{Until, Emitted, Refused}
use Rattle.side_law.specs.Moves.{Moves, IsLawful}
use Rattle.side_law.specs.Gone.{Calls, Over, HasMoved, IsAnswered, IsRefused, Goes, GoneBy, HasStopped, HasGone}
use Rattle.clock_ratio.proofs.Numbers.{numbers}
use Rattle.side_law.proofs.Gone.{refused_by, goes_up, gone_up}
use Rattle.side_law.specs.Serial.{SerialState, got_of, incoming_after, outgoing_after, console_step}
use Rattle.side_law.specs.Sides.{SideState}
use Rattle.serial_console.specs.declared.behind.Rest.{Rest}
use Rattle.serial_console.specs.declared.bytes.Bytes.{Bytes}
use Rattle.serial_console.specs.Bytes.{byte_calls}
use Rattle.serial_console.specs.Lead.{IsLead, SideSteps}
use Rattle.serial_console.specs.Rest.{RestState, StandsBehind, HasGrown, HasFollowed, IsByRest, IsBehind, rest_calls, limit_of, IsLedOver}
use Rattle.serial_console.specs.Followed.{HasCome, HasLedOver}
use Rattle.serial_console.proofs.SideRuns.{steps_then, console_goes, sound_leads}
use Rattle.serial_console.proofs.ByteSteps.{led_walk, led_facts, room_is}

-- a call comes up to the end
pub limit_is : (end at : ℕ) → at < limit_of end → (at ≤ end) × (end ≤ 2 ^ 62)
limit_is end at h = (grind (arith, nat_tests), grind (arith, nat_tests))

-- the console's step that emits finds no byte of its own
none_waits : (at n : ℕ) → at < (if n == 0 then 2 ^ 64 - 1 else 0) → n ≡ 0
none_waits at n h = grind (arith, nat_tests)

room_waits : (at n : ℕ) → n ≡ 0 → (if n == 0 then 2 ^ 64 - 1 else 0) ≤ at → 2 ^ 64 - 1 ≤ at
room_waits at n none h = grind (arith, nat_tests)

-- ---- the numbers of the sound side

module _ {S : Type 0} (moves : Moves S) (most : ℕ) where
  grown_none : (w : RestState S) → HasGrown moves most w w
  grown_none w = record {
    forward = omega arith;
    longer = omega arith;
    few = λ few. few;
    begins = λ some. absurd (omega (arith, some));
    last = λ some. absurd (omega (arith, some));
    last_stays = λ same. refl;
    end_is = refl;
  }

  grown_then : (w v u : RestState S) → HasGrown moves most w v → HasGrown moves most v u → HasGrown moves most w u
  grown_then w v u h k = record {
    forward = omega (arith, h.forward, k.forward);
    longer = omega (arith, h.longer, k.longer);
    few = λ few. k.few (h.few few);
    begins = λ some. ⊎_elim
        (λ now. (let b = k.begins now in (omega (arith, b.0, h.forward, h.end_is), omega (arith, b.1, h.forward))))
        (λ not. (let b = h.begins (omega (arith, some, not)) in (b.0, omega (arith, b.1, k.forward))))
        (cases_lt (length v.audio) (length u.audio));
    last = λ some. ⊎_elim
        (λ now. (let l = k.last now in (omega (arith, l.0, h.end_is), l.1)))
        (λ not. (
        let l = h.last (omega (arith, some, not)) in
        let stays = k.last_stays (omega (arith, not, k.longer)) in
        (omega (arith, l.0, stays), omega (arith, l.1, stays, k.forward))))
        (cases_lt (length v.audio) (length u.audio));
    last_stays = λ same. k.last_stays (omega (arith, same, h.longer, k.longer)) ∙ h.last_stays (omega (arith, same, h.longer, k.longer));
    end_is = h.end_is ∙ k.end_is;
  }

-- ---- what a call did

module _ {S : Type 0} (moves : Moves S) (most cap : ℕ) where
  answered_by : (at : ℕ) (act : Act) (got : ℕ) (w v : RestState S) → (act ≡ Quiet → ⊥) → IsByRest moves most at act got w v → IsAnswered (rest_calls moves most cap) at act got w v
  answered_by at Quiet got w v other h = absurd (other refl)
  answered_by at (Read port) got w v other h = h
  answered_by at (Write port byte) got w v other h = (h.got_is, h)
  answered_by at (Clear mask) got w v other h = (h.got_is, h)

  late_by : (at : ℕ) (act : Act) (w v : RestState S) → (act ≡ Quiet → ⊥) → IsBehind moves most cap at w v → IsRefused (rest_calls moves most cap) at act w v
  late_by at Quiet w v other h = absurd (other refl)
  late_by at (Read port) w v other h = h
  late_by at (Write port byte) w v other h = h
  late_by at (Clear mask) w v other h = h

module _ {V S : Type 0} (moves : Moves S) (most : ℕ) (stands : V → S → Type 0) (waiting : V → List ℕ) (r r' : Rest V) (at : ℕ) (act : Act) (got : ℕ) (p : RestState S) (h : HasCome moves most stands waiting r at p) (cap : ℕ) (other : act ≡ Quiet → ⊥) where
  -- it is made on the bytes
  pub rest_answered : (there : (m : S) → stands r.sound m → at ≤ moves.stamp m) → r'.sound ≡ r.sound → r'.end ≡ r.end → r'.bytes.last ≡ r.bytes.last → r'.last ≡ r.last
      → r'.bytes.incoming ≡ outgoing_after act r.bytes.incoming → r'.bytes.outgoing ≡ incoming_after act r.bytes.outgoing → got ≡ got_of act r.bytes.outgoing
      → HasMoved (StandsBehind stands waiting r') (IsAnswered (rest_calls moves most cap) at act got p)
  rest_answered there sound_is ends sound_last console_last incoming_is outgoing_is got_is =
      let mid = h.to in
      let now = h.now_stands in
      record {
        to = record mid { to_sound = outgoing_after act mid.to_sound; to_console = incoming_after act mid.to_console };
        now_stands = record {
          sound = subst (λ (s : V). stands s mid.sound) (sym sound_is) now.sound;
          to_sound = incoming_is ∙ ap (outgoing_after act) now.to_sound;
          to_console = outgoing_is ∙ ap (incoming_after act) now.to_console;
          audio = ap waiting sound_is ∙ now.audio;
          end = ends ∙ now.end;
          sound_last = sound_last ∙ now.sound_last;
          console_last = console_last ∙ now.console_last;
        };
        led = answered_by moves most cap at act got p _ other (record { mid = mid; followed = h.followed; there = there mid.sound now.sound; got_is = got_is ∙ ap (got_of act) now.to_console; after = refl });
      }

  -- or refused
  pub rest_refused : ((m : S) → stands r.sound m → moves.stamp m < at) → (most ≤ cap → 0 < length (waiting r.sound))
      → HasMoved (StandsBehind stands waiting r) (IsRefused (rest_calls moves most cap) at act p)
  rest_refused late waits = record {
    to = h.to;
    now_stands = h.now_stands;
    led = late_by moves most cap at act p h.to other (record { followed = h.followed; late = late h.to.sound h.now_stands.sound; waits = λ fits. subst (λ w. 0 < length w) h.now_stands.audio (waits fits) });
  }

-- the sound side follows
module _ {S : Type 0} (moves : Moves S) (most at : ℕ) where
  follow_none : (w : RestState S) → HasFollowed moves most at w w
  follow_none w = record { steps = 0; emitted = []; made = (refl, refl); audio_is = append-nil w.audio; grown = grown_none moves most w; console_last = refl }

  follow_then : (w v u : RestState S) → HasFollowed moves most at w v → HasFollowed moves most at v u → HasFollowed moves most at w u
  follow_then w v u h k =
      let side : RestState S → SideState S = λ x. record { own = x.sound; incoming = x.to_sound; outgoing = x.to_console } in
      let later = subst (λ e. SideSteps moves at e k.steps (side v) (side u) k.emitted) (sym h.grown.end_is) k.made in
      let all = steps_then moves at w.end h.steps k.steps (side w) (side v) (side u) h.emitted k.emitted h.made later in
      record {
        steps = all.0;
        emitted = h.emitted ++ k.emitted;
        made = all.1;
        audio_is = sym (append_assoc w.audio h.emitted k.emitted) ∙ ap (λ a. a ++ k.emitted) h.audio_is ∙ k.audio_is;
        grown = grown_then moves most w v u h.grown k.grown;
        console_last = h.console_last ∙ k.console_last;
      }

module _ {V S : Type 0} (region : Region) (valid : S → Type 0) (most cap : ℕ) (moves : Moves S) (lawful : IsLawful region valid most moves) (stands : V → S → Type 0) (waiting : V → List ℕ) (at : ℕ) where
  -- the bytes during a call
  abbrev bytes_of : Rest V → Bytes
  bytes_of r = record { incoming = r.bytes.incoming; outgoing = r.bytes.outgoing; first = at; hold = 0; last = r.bytes.last }

  -- no step yet
  pub come_here : (p : RestState S) (r : Rest V) → StandsBehind stands waiting r p → HasCome moves most stands waiting r at p
  come_here p r behind = record { to = p; now_stands = behind; followed = follow_none moves most at p }

  -- and one call more
  module _ (p : RestState S) (r r' : Rest V) (stop : Stop) (h : HasCome moves most stands waiting r at p) (is_valid : valid h.to.sound) (none : length (waiting r.sound) ≡ 0)
      (early : moves.stamp h.to.sound < at) (in_time : at < limit_of r.end) (end_is : r'.end ≡ r.end) (last_is : r'.last ≡ r.last) where
    pub come_on : HasGone moves byte_calls r.end most cap (stands r'.sound) (λ q. r'.bytes ≡ q) (waiting r.sound) (waiting r'.sound) stop h.to.sound (bytes_of r)
        → HasCome moves most stands waiting r' at p
    come_on gone =
        let b = bytes_of r in
        let led = led_walk region valid most moves lawful r.end cap (stands r'.sound) stop h.to.sound b r'.bytes (waiting r.sound) (waiting r'.sound) is_valid gone in
        let facts = led_facts region valid most moves lawful r.end cap (stands r'.sound) stop h.to.sound b r'.bytes (waiting r.sound) (waiting r'.sound) is_valid gone (moves.stamp h.to.sound) (moves.stamp gone.to) refl refl in
        let now = h.now_stands in
        let u : RestState S = record { sound = gone.to; to_sound = r'.bytes.incoming; to_console = r'.bytes.outgoing; audio = waiting r'.sound; end = r'.end; sound_last = r'.bytes.last; console_last = r'.last } in
        let n = ap length now.audio in
        let limit = limit_is r.end at in_time in
        let from : SideState S = record { own = h.to.sound; incoming = r.bytes.incoming; outgoing = r.bytes.outgoing } in
        let more : HasFollowed moves most at h.to u = record {
          steps = led.steps;
          emitted = led.emitted;
          made = subst (λ e. SideSteps moves at e led.steps (record { own = h.to.sound; incoming = h.to.to_sound; outgoing = h.to.to_console }) (record { own = gone.to; incoming = u.to_sound; outgoing = u.to_console }) led.emitted) now.end
              (subst (λ i. SideSteps moves at r.end led.steps (record { own = h.to.sound; incoming = i; outgoing = h.to.to_console }) (record { own = gone.to; incoming = u.to_sound; outgoing = u.to_console }) led.emitted) now.to_sound
              (subst (λ o. SideSteps moves at r.end led.steps (record { own = h.to.sound; incoming = r.bytes.incoming; outgoing = o }) (record { own = gone.to; incoming = u.to_sound; outgoing = u.to_console }) led.emitted) now.to_console
              led.made));
          audio_is = ap (λ w. w ++ led.emitted) (sym now.audio) ∙ led.waits_is;
          grown = record {
            forward = facts.forward;
            longer = omega (arith, facts.longer, n);
            few = λ any. facts.one (omega arith) none;
            begins = λ some. (omega (arith, early, limit.0, now.end), facts.begins (omega (arith, some, n)));
            last = λ some. (let l = facts.last (omega (arith, some, n)) in (omega (arith, l.0, now.end), l.1));
            last_stays = λ same. facts.last_stays (omega (arith, same, n)) ∙ now.sound_last;
            end_is = sym now.end ∙ sym end_is;
          };
          console_last = sym now.console_last ∙ sym last_is;
        } in
        record {
          to = u;
          now_stands = record { sound = gone.now_stands; to_sound = refl; to_console = refl; audio = refl; end = refl; sound_last = refl; console_last = refl };
          followed = follow_then moves most at p h.to u h.followed more;
        }

  -- which gets on
  pub come_up : (r r' : Rest V) (stop : Stop) (m : S) (is_valid : valid m) → length (waiting r.sound) ≡ 0 → moves.stamp m < at → at < limit_of r.end → most ≤ cap → at < 2 ^ 64
      → (gone : HasGone moves byte_calls r.end most cap (stands r'.sound) (λ q. r'.bytes ≡ q) (waiting r.sound) (waiting r'.sound) stop m (bytes_of r))
      → moves.stamp m < moves.stamp gone.to
  come_up r r' stop m is_valid none early in_time fits small gone =
      let facts = led_facts region valid most moves lawful r.end cap (stands r'.sound) stop m (bytes_of r) r'.bytes (waiting r.sound) (waiting r'.sound) is_valid gone (moves.stamp m) (moves.stamp gone.to) refl refl in
      let limit = limit_is r.end at in_time in
      facts.goes_on early (omega (arith, early, limit.0)) (room_is (bytes_of r) (length (waiting r.sound)) (moves.stamp m) none (omega (arith, early, small))) (omega (arith, none, fits))

-- ---- both machines

record HasCalled {S : Type 0} (moves : Moves S) (most : ℕ) (at : ℕ) (act : Act) (got : ℕ) (w v : RestState S) : Type 0 where
  pub mid : RestState S
  pub follows : ((w ≡ mid) × (act ≡ Quiet)) ⊎ (HasFollowed moves most at w mid × (at ≤ moves.stamp mid.sound))
  pub got_is : got ≡ got_of act mid.to_console
  pub after : record mid { to_sound = outgoing_after act mid.to_sound; to_console = incoming_after act mid.to_console } ≡ v

module _ {S : Type 0} (moves : Moves S) (most cap : ℕ) where
  called_by : (at : ℕ) (act : Act) (got : ℕ) (w v : RestState S) → IsAnswered (rest_calls moves most cap) at act got w v → HasCalled moves most at act got w v
  called_by at Quiet got w v h = record { mid = w; follows = inl (refl, refl); got_is = h.0; after = h.1 }
  called_by at (Read port) got w v h = record { mid = h.mid; follows = inr (h.followed, h.there); got_is = h.got_is; after = h.after }
  called_by at (Write port byte) got w v h = record { mid = h.1.mid; follows = inr (h.1.followed, h.1.there); got_is = h.1.got_is; after = h.1.after }
  called_by at (Clear mask) got w v h = record { mid = h.1.mid; follows = inr (h.1.followed, h.1.there); got_is = h.1.got_is; after = h.1.after }

module _ {C S : Type 0} (region : Region) (valid : C → Type 0) (most : ℕ) (cm : Moves C) (lawful : IsLawful region valid most cm) (sm : Moves S) (sound_most sound_cap end : ℕ) (from : SerialState C S)
    (video audio : List ℕ) where
  -- both machines with the bytes between them
  abbrev place : C → RestState S → SerialState C S
  place c w = record { console = c; sound = w.sound; to_sound = w.to_sound; to_console = w.to_console }

  abbrev calls : Calls (RestState S)
  calls = rest_calls sm sound_most sound_cap

  -- they are ahead of the serial console, and so many bytes were emitted
  pub record IsOver (x : Over C (RestState S)) : Type 0 where
    pub lead : IsLead cm sm end from (place x.own x.ports) (video ++ x.waits) (audio ++ x.ports.audio)
    pub end_is : x.ports.end ≡ end

  -- the sound side goes on
  follow_lead : (c : C) (w v : RestState S) (at : ℕ) (waits : List ℕ) → HasFollowed sm sound_most at w v → at ≤ cm.stamp c
      → IsOver (record { own = c; ports = w; waits = waits }) → IsOver (record { own = c; ports = v; waits = waits })
  follow_lead c w v at waits h up_to over =
      let q : SideState S = record { own = v.sound; incoming = v.to_sound; outgoing = v.to_console } in
      let made = subst (λ e. SideSteps sm at e h.steps (record { own = w.sound; incoming = w.to_sound; outgoing = w.to_console }) q h.emitted) over.end_is h.made in
      record {
        lead = subst (λ a. IsLead cm sm end from (place c v) (video ++ waits) a) (append_assoc audio w.audio h.emitted ∙ ap (λ a. audio ++ a) h.audio_is)
            (sound_leads cm sm at end from h.steps (place c w) q (video ++ waits) (audio ++ w.audio) h.emitted over.lead made up_to);
        end_is = sym h.grown.end_is ∙ over.end_is;
      }

  -- the rest after a step is that after its call, but for the stamp of a step that emitted
  record HasTold (x y : Over C (RestState S)) (called : RestState S) : Type 0 where
    pub last : ℕ
    pub is : record called { console_last = last } ≡ y.ports
    pub some : length x.waits < length y.waits → last ≡ cm.stamp x.own
    pub none : length x.waits ≡ length y.waits → last ≡ called.console_last

  told_by : (x y : Over C (RestState S)) → length x.waits ≤ length y.waits → (goes : Goes cm calls end x y) → HasTold x y goes.called
  told_by x y longer goes = ⊎_elim
      (λ same. record { last = goes.called.console_last; is = goes.silent same; some = λ some. absurd (omega (arith, same, some)); none = λ again. refl })
      (λ some. record { last = cm.stamp x.own; is = goes.told some; some = λ again. refl; none = λ same. absurd (omega (arith, same, some)) })
      (eq-or-lt_of_le longer)

  -- a step of the console
  step_lead : (x y : Over C (RestState S)) → valid x.own → Goes cm calls end x y → IsOver x → IsOver y
  step_lead x y is_valid goes over =
      let act = cm.act x.own in
      let step = goes_up region valid most cm lawful calls end x y is_valid goes in
      let called = called_by sm sound_most sound_cap (cm.stamp x.own) act goes.got x.ports goes.called goes.answered in
      let mid = called.mid in
      let there : IsOver (record { own = x.own; ports = mid; waits = x.waits }) = ⊎_elim
      (λ quiet. subst (λ (w : RestState S). IsOver (record { own = x.own; ports = w; waits = x.waits })) quiet.0 over)
      (λ h. follow_lead x.own x.ports mid (cm.stamp x.own) x.waits h.0 (omega arith) over)
      called.follows in
      let got = got_of act mid.to_console in
      let own : cm.next x.own got ≡ y.own = ap (cm.next x.own) (sym called.got_is) ∙ goes.own in
      let rises : cm.stamp x.own ≤ cm.stamp (cm.next x.own got) = subst (λ m. cm.stamp x.own ≤ cm.stamp m) (sym own) (omega (arith, step.up)) in
      let made : IsLead cm sm end from (console_step cm sm (place x.own mid)) ((video ++ x.waits) ++ cm.bytes x.own got) (audio ++ mid.audio) = ⊎_elim
      (λ quiet. console_goes cm sm 0 end from (place x.own mid) (video ++ x.waits) (audio ++ mid.audio) there.lead (record { before = goes.early; may = inl quiet.1; rises = rises }) (omega arith))
      (λ h. console_goes cm sm (cm.stamp x.own + 1) end from (place x.own mid) (video ++ x.waits) (audio ++ mid.audio) there.lead
      (record { before = goes.early; may = inr (omega arith); rises = rises }) (omega (arith, h.1)))
      called.follows in
      let told = told_by x y step.longer goes in
      let after : RestState S = record {
        sound = mid.sound;
        to_sound = outgoing_after act mid.to_sound;
        to_console = incoming_after act mid.to_console;
        audio = mid.audio;
        end = mid.end;
        sound_last = mid.sound_last;
        console_last = told.last;
      } in
      let ports : after ≡ y.ports = ap (λ (w : RestState S). record w { console_last = told.last }) called.after ∙ told.is in
      let waits : (video ++ x.waits) ++ cm.bytes x.own got ≡ video ++ y.waits =
      append_assoc video x.waits (cm.bytes x.own got) ∙ ap (λ w. video ++ w) (ap (λ b. x.waits ++ cm.bytes x.own b) (sym called.got_is) ∙ goes.waits) in
      record {
        lead = subst (λ v. IsLead cm sm end from (place y.own y.ports) v (audio ++ y.ports.audio)) waits
            (subst (λ (w : RestState S). IsLead cm sm end from (place y.own w) ((video ++ x.waits) ++ cm.bytes x.own got) (audio ++ w.audio)) ports
            (subst (λ c. IsLead cm sm end from (place c after) ((video ++ x.waits) ++ cm.bytes x.own got) (audio ++ mid.audio)) own made));
        end_is = ap (λ (w : RestState S). w.end) (sym ports) ∙ there.end_is;
      }

  walk_lead : (n : ℕ) (x y : Over C (RestState S)) → valid x.own → GoneBy cm calls end n x y → IsOver x → IsOver y
  walk_lead zero x y is_valid same over = subst IsOver same over
  walk_lead (suc n) x y is_valid (last, before, goes) over =
      let risen = gone_up region valid most cm lawful calls end x last is_valid (record { steps = n; made = before }) in
      step_lead last y risen.is_valid goes (walk_lead n x last is_valid before over)

  stopped_lead : (cap : ℕ) (stop : Stop) (x y : Over C (RestState S)) → valid x.own → HasStopped cm calls end most cap stop x y → IsOver x → IsOver y
  stopped_lead cap Until x y is_valid h over = walk_lead h.gone.steps x y is_valid h.gone.made over
  stopped_lead cap (Emitted at) x y is_valid h over =
      let risen = gone_up region valid most cm lawful calls end x h.last is_valid h.gone in
      step_lead h.last y risen.is_valid h.goes (walk_lead h.gone.steps x h.last is_valid h.gone.made over)
  stopped_lead cap Refused x y is_valid h over =
      follow_lead y.own h.called y.ports (cm.stamp y.own) y.waits (refused_by calls (cm.stamp y.own) (cm.act y.own) h.called y.ports h.refused).followed (omega arith)
      (walk_lead h.gone.steps x (record y { ports = h.called }) is_valid h.gone.made over)

  -- ---- and by their numbers

  record HasWalked (x y : Over C (RestState S)) : Type 0 where
    pub grown : HasGrown sm sound_most x.ports y.ports
    pub forward : cm.stamp x.own ≤ cm.stamp y.own
    pub few : length x.waits ≡ 0 → length y.waits ≤ most
    pub begins : length x.waits < length y.waits → (cm.stamp x.own < end) × (cm.stamp x.own < cm.stamp y.own)
    pub last : length x.waits < length y.waits → (y.ports.console_last < end) × (y.ports.console_last < cm.stamp y.own)

  walk_none : (x : Over C (RestState S)) → HasWalked x x
  walk_none x = record {
    grown = grown_none sm sound_most x.ports;
    forward = omega arith;
    few = λ none. omega (arith, none);
    begins = λ some. absurd (omega (arith, some));
    last = λ some. absurd (omega (arith, some));
  }

  -- what a call did to the sound side
  called_grown : (at : ℕ) (act : Act) (got : ℕ) (w v u : RestState S) (last : ℕ) → HasCalled sm sound_most at act got w v → record v { console_last = last } ≡ u → HasGrown sm sound_most w u
  called_grown at act got w v u last called is =
      let mid = called.mid in
      let grown = ⊎_elim
      (λ quiet. subst (HasGrown sm sound_most w) quiet.0 (grown_none sm sound_most w))
      (λ h. h.0.grown)
      called.follows in
      let after : RestState S = record {
        sound = mid.sound;
        to_sound = outgoing_after act mid.to_sound;
        to_console = incoming_after act mid.to_console;
        audio = mid.audio;
        end = mid.end;
        sound_last = mid.sound_last;
        console_last = last;
      } in
      let ports : after ≡ u = ap (λ (w : RestState S). record w { console_last = last }) called.after ∙ is in
      subst (HasGrown sm sound_most w) ports (record { forward = grown.forward; longer = grown.longer; few = grown.few; begins = grown.begins; last = grown.last; last_stays = grown.last_stays; end_is = grown.end_is })

  -- and to the last stamp of the console
  called_last : (at : ℕ) (act : Act) (got : ℕ) (w v : RestState S) → HasCalled sm sound_most at act got w v → v.console_last ≡ w.console_last
  called_last at act got w v called =
      ap (λ (w : RestState S). w.console_last) (sym called.after)
      ∙ ⊎_elim (λ quiet. ap (λ (w : RestState S). w.console_last) (sym quiet.0)) (λ h. sym h.0.console_last) called.follows

  walk_on : (x y z : Over C (RestState S)) → valid y.own → HasWalked x y → Goes cm calls end y z → HasWalked x z
  walk_on x y z is_valid h goes =
      let step = goes_up region valid most cm lawful calls end y z is_valid goes in
      let called = called_by sm sound_most sound_cap (cm.stamp y.own) (cm.act y.own) goes.got y.ports goes.called goes.answered in
      let told = told_by y z step.longer goes in
      let stays = called_last (cm.stamp y.own) (cm.act y.own) goes.got y.ports goes.called called in
      let last : z.ports.console_last ≡ told.last = ap (λ (w : RestState S). w.console_last) (sym told.is) in
      let up = (numbers region).rises in
      record {
        grown = grown_then sm sound_most x.ports y.ports z.ports h.grown (called_grown (cm.stamp y.own) (cm.act y.own) goes.got y.ports goes.called z.ports told.last called told.is);
        forward = omega (arith, h.forward, step.up);
        few = λ none. ⊎_elim
            (λ same. omega (arith, same, h.few none))
            (λ some. (let empty = none_waits (cm.stamp y.own) (length y.waits) (goes.room some) in omega (arith, empty, step.emits_at_most)))
            (eq-or-lt_of_le step.longer);
        begins = λ some. ⊎_elim
            (λ same. (let b = h.begins (omega (arith, same, some)) in (b.0, omega (arith, b.1, step.up))))
            (λ now. (omega (arith, h.forward, goes.early), omega (arith, h.forward, step.up, up)))
            (eq-or-lt_of_le step.longer);
        last = λ some. ⊎_elim
            (λ same. (
            let l = h.last (omega (arith, same, some)) in
            let is = told.none same in
            (omega (arith, l.0, last, is, stays), omega (arith, l.1, last, is, stays, step.up))))
            (λ now. (let is = told.some now in (omega (arith, last, is, goes.early), omega (arith, last, is, step.up, up))))
            (eq-or-lt_of_le step.longer);
      }

  walk_by : (n : ℕ) (x y : Over C (RestState S)) → valid x.own → GoneBy cm calls end n x y → HasWalked x y
  walk_by zero x y is_valid same = subst (HasWalked x) same (walk_none x)
  walk_by (suc n) x y is_valid (last, before, goes) =
      let risen = gone_up region valid most cm lawful calls end x last is_valid (record { steps = n; made = before }) in
      walk_on x last y risen.is_valid (walk_by n x last is_valid before) goes

  walked : (cap : ℕ) (stop : Stop) (x y : Over C (RestState S)) → valid x.own → HasStopped cm calls end most cap stop x y → HasWalked x y
  walked cap Until x y is_valid h = walk_by h.gone.steps x y is_valid h.gone.made
  walked cap (Emitted at) x y is_valid h =
      let risen = gone_up region valid most cm lawful calls end x h.last is_valid h.gone in
      walk_on x h.last y risen.is_valid (walk_by h.gone.steps x h.last is_valid h.gone.made) h.goes
  walked cap Refused x y is_valid h =
      let walk = walk_by h.gone.steps x (record y { ports = h.called }) is_valid h.gone.made in
      let late = refused_by calls (cm.stamp y.own) (cm.act y.own) h.called y.ports h.refused in
      record {
        grown = grown_then sm sound_most x.ports h.called y.ports walk.grown late.followed.grown;
        forward = walk.forward;
        few = walk.few;
        begins = walk.begins;
        last = λ some. (let l = walk.last some in (omega (arith, l.0, late.followed.console_last), omega (arith, l.1, late.followed.console_last)));
      }

  -- the console stops before the end, and no byte of it waits, only where bytes of the sound side wait that is behind
  record Waits (y : Over C (RestState S)) : Type 0 where
    pub behind : sm.stamp y.ports.sound < cm.stamp y.own
    pub some : sound_most ≤ sound_cap → 0 < length y.ports.audio

  stops : (cap : ℕ) (stop : Stop) (x y : Over C (RestState S)) → HasStopped cm calls end most cap stop x y
      → length y.waits ≡ 0 → most ≤ cap → cm.stamp y.own < end → end ≤ 2 ^ 62 → Waits y
  stops cap Until x y h none fits short early = ⊎_elim
      (λ there. absurd (omega (arith, there, short)))
      (λ full. ⊎_elim
      (λ closed. (let far = room_waits (cm.stamp y.own) (length y.waits) none closed in absurd (omega (arith, far, short, early))))
      (λ small. absurd (omega (arith, small, none, fits)))
      full)
      h.ends
  stops cap (Emitted at) x y h none fits short early = absurd (omega (arith, h.some, none))
  stops cap Refused x y h none fits short early =
      let late = refused_by calls (cm.stamp y.own) (cm.act y.own) h.called y.ports h.refused in
      record { behind = late.late; some = late.waits }

-- ---- of values

module _ {C S CState SState : Type 0} (region : Region) (valid : CState → Type 0) (most cap : ℕ) (cm : Moves CState) (lawful : IsLawful region valid most cm) (sm : Moves SState) (sound_most sound_cap : ℕ)
    (console_stands : C → CState → Type 0) (sound_stands : S → SState → Type 0) (waiting : S → List ℕ) (from : SerialState CState SState)
    (c c' : C) (r r' : Rest S) (waited waits : List ℕ) (stop : Stop) where
  pub led_over : (video audio : List ℕ)
      → ((m : CState) (p : RestState SState) → console_stands c m → StandsBehind sound_stands waiting r p
      → HasGone cm (rest_calls sm sound_most sound_cap) r.end most cap (console_stands c') (StandsBehind sound_stands waiting r') waited waits stop m p)
      → ((m : CState) → console_stands c m → valid m) → r'.end ≡ r.end
      → IsLedOver cm sm console_stands sound_stands from c r (video ++ waited) (audio ++ waiting r.sound)
      → IsLedOver cm sm console_stands sound_stands from c' r' (video ++ waits) (audio ++ waiting r'.sound)
  led_over video audio goes is_valid end_is led =
      let p : RestState SState = record { sound = led.at.sound; to_sound = led.at.to_sound; to_console = led.at.to_console; audio = waiting r.sound; end = r.end; sound_last = r.bytes.last; console_last = r.last } in
      let gone = goes led.at.console p led.console (record { sound = led.sound; to_sound = led.to_sound; to_console = led.to_console; audio = refl; end = refl; sound_last = refl; console_last = refl }) in
      let over = stopped_lead region valid most cm lawful sm sound_most sound_cap r.end from video audio cap stop (record { own = led.at.console; ports = p; waits = waited })
      (record { own = gone.to; ports = gone.ports; waits = waits }) (is_valid led.at.console led.console) gone.stopped (record { lead = led.lead; end_is = refl }) in
      let now = gone.ports_stand in
      let at : SerialState CState SState = record { console = gone.to; sound = gone.ports.sound; to_sound = gone.ports.to_sound; to_console = gone.ports.to_console } in
      record {
        at = at;
        console = gone.now_stands;
        sound = now.sound;
        to_sound = now.to_sound;
        to_console = now.to_console;
        lead = subst (λ e. IsLead cm sm e from at (video ++ waits) (audio ++ waiting r'.sound)) (sym end_is)
            (subst (λ a. IsLead cm sm r.end from at (video ++ waits) (audio ++ a)) (sym now.audio) over.lead);
      }

  module _ (console_stamp : C → ℕ) (sound_stamp : S → ℕ) (console_law : (x : C) (m : CState) → console_stands x m → cm.stamp m ≡ console_stamp x)
      (sound_law : (x : S) (m : SState) → sound_stands x m → sm.stamp m ≡ sound_stamp x) (early : r.end ≤ 2 ^ 62)
      (m : CState) (s : SState) (at_console : console_stands c m) (at_sound : sound_stands r.sound s) (is_valid : valid m) where
    -- the state of the rest
    abbrev pub rest_at : RestState SState
    rest_at = record { sound = s; to_sound = r.bytes.incoming; to_console = r.bytes.outgoing; audio = waiting r.sound; end = r.end; sound_last = r.bytes.last; console_last = r.last }

    pub behind_at : StandsBehind sound_stands waiting r rest_at
    behind_at = record { sound = at_sound; to_sound = refl; to_console = refl; audio = refl; end = refl; sound_last = refl; console_last = refl }

    pub over_facts : HasGone cm (rest_calls sm sound_most sound_cap) r.end most cap (console_stands c') (StandsBehind sound_stands waiting r') waited waits stop m rest_at
        → HasLedOver most cap sound_most sound_cap r.end (console_stamp c) (console_stamp c') (sound_stamp r.sound) (sound_stamp r'.sound) r'.last r.bytes.last r'.bytes.last waited waits (waiting r.sound) (waiting r'.sound)
    over_facts gone =
        let x : Over CState (RestState SState) = record { own = m; ports = rest_at; waits = waited } in
        let y : Over CState (RestState SState) = record { own = gone.to; ports = gone.ports; waits = waits } in
        let walk = walked region valid most cm lawful sm sound_most sound_cap r.end (record { console = m; sound = s; to_sound = []; to_console = [] }) [] [] cap stop x y is_valid gone.stopped in
        let now = gone.ports_stand in
        let c_is = console_law c m at_console in
        let c_is' = console_law c' gone.to gone.now_stands in
        let s_is = sound_law r.sound s at_sound in
        let s_is' = sound_law r'.sound gone.ports.sound now.sound in
        let n = ap length now.audio in
        record {
          forward = omega (arith, walk.forward, c_is, c_is');
          sound_forward = omega (arith, walk.grown.forward, s_is, s_is');
          few = walk.few;
          sound_few = λ few. omega (arith, walk.grown.few few, n);
          longer = omega (arith, walk.grown.longer, n);
          begins = λ some. (let b = walk.begins some in (omega (arith, b.0, c_is), omega (arith, b.1, c_is, c_is')));
          last = λ some. (let l = walk.last some in (omega (arith, l.0, now.console_last), omega (arith, l.1, now.console_last, c_is')));
          sound_begins = λ some. (let b = walk.grown.begins (omega (arith, some, n)) in (omega (arith, b.0, s_is), omega (arith, b.1, s_is, s_is')));
          sound_last = λ some. (let l = walk.grown.last (omega (arith, some, n)) in (omega (arith, l.0, now.sound_last), omega (arith, l.1, now.sound_last, s_is')));
          sound_last_stays = λ same. now.sound_last ∙ walk.grown.last_stays (omega (arith, same, n));
          stops = λ none fits sound_fits short. (
              let h = stops region valid most cm lawful sm sound_most sound_cap r.end (record { console = m; sound = s; to_sound = []; to_console = [] }) [] [] cap stop x y gone.stopped none fits (omega (arith, short, c_is')) early in
              (let some = h.some sound_fits in omega (arith, some, n), omega (arith, h.behind, c_is', s_is')));
        }

-- an end that is early is told by its limit
pub same_limit : (end end' : ℕ) → end ≤ 2 ^ 62 → limit_of end' ≡ limit_of end → end' ≡ end
same_limit end end' early same = grind (arith, nat_tests)
