-- What a console was told is stored as the tuple of its parts. Assumes nothing: this is a definition.
use Rattle.std.specs.Prelude.{ℕ, List, refl}
use Rattle.std.specs.Coded.{Coded, code_by, coded×, coded_ℕ, coded_list}
use Rattle.frame_player.specs.Told.{Told, Way}

abbrev bytes : Coded (List ℕ)
bytes = coded_list coded_ℕ

abbrev path : Coded (List (ℕ × ℕ))
path = coded_list (coded× coded_ℕ coded_ℕ)

abbrev of_way : List (ℕ × ℕ) × List ℕ → Way
of_way (pads', resets') = record { pads = pads'; resets = resets' }

abbrev coded_way : Coded Way
coded_way = code_by (List (ℕ × ℕ) × List ℕ) (coded× path bytes) (λ w. (w.pads, w.resets)) of_way (λ _. refl)

abbrev Parts : Type 0
Parts = List ℕ × (List ℕ × (List ℕ × (ℕ × (ℕ × (List (ℕ × ℕ) × (List ℕ × List Way))))))

abbrev coded_parts : Coded Parts
coded_parts = coded× bytes (coded× bytes (coded× bytes
    (coded× coded_ℕ (coded× coded_ℕ (coded× path (coded× bytes (coded_list coded_way)))))))

abbrev of_parts : Parts → Told
of_parts (cart', (boot', (table', (region', (most', (pads', (resets', held'))))))) =
    record { cart = cart'; boot = boot'; table = table'; region = region'; most = most'; pads = pads'; resets = resets'; held = held' }

abbrev pub coded_told : Coded Told
coded_told =
    code_by Parts coded_parts (λ t. (t.cart, (t.boot, (t.table, (t.region, (t.most, (t.pads, (t.resets, t.held)))))))) of_parts
    (λ _. refl)
