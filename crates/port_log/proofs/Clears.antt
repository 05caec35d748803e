-- What is kept of a port after a clear.
use Rattle.std.proofs.Common.{◌≡◌, ℕ, ◌+◌, ◌<◌, ◌≤◌, Bool, true, false, List, [], ◌∷◌, length, get_or, refl, ap, ◌∙◌, zero-add, arith, add-zero, suc, zero, Option, Some, None, if◌then◌else◌}
use Rattle.port_entries.specs.Entry.{covers}
use Rattle.port_log.specs.Kept.{later, cleared_after, latches_after}

-- a clear changes what is kept of the ports that it covers
pub greatest-after : (clears : List (Option ℕ)) (first mask at port : ℕ) → port < length clears
    → get_or (cleared_after clears first mask at) port None
    ≡ (if covers mask (first + port) then Some (later (get_or clears port None) at) else get_or clears port None)
greatest-after [] first mask at port h = absurd (omega arith)
greatest-after (c ∷ cs) first mask at zero h = rw add-zero
greatest-after (c ∷ cs) first mask at (suc port) h =
    let e : first + suc port ≡ first + 1 + port = omega arith in
    rw e (greatest-after cs (first + 1) mask at port (omega arith))

pub length-cleared_after : (clears : List (Option ℕ)) (first mask at : ℕ)
    → length (cleared_after clears first mask at) ≡ length clears
length-cleared_after [] first mask at = refl
length-cleared_after (c ∷ cs) first mask at = ap (λ n. suc n) (length-cleared_after cs (first + 1) mask at)

later-within : (clear : Option ℕ) (at more bound : ℕ) → at + more ≤ bound
    → ((t : ℕ) → clear ≡ Some t → t + more ≤ bound) → later clear at + more ≤ bound
later-within None at more bound h k = h
later-within (Some t) at more bound h k = omega (arith, k t refl)

within-by : (covered : Bool) (clear : Option ℕ) (at t more bound : ℕ) → at + more ≤ bound
    → ((t : ℕ) → clear ≡ Some t → t + more ≤ bound)
    → (if covered then Some (later clear at) else clear) ≡ Some t → t + more ≤ bound
within-by true clear at t more bound h k e =
    let same : later clear at ≡ t = cc in
    omega (arith, later-within clear at more bound h k)
within-by false clear at t more bound h k e = k t e

-- where the stamps of all clears are below a bound, they are so after one more
pub greatest-within : (clears : List (Option ℕ)) (mask at more bound : ℕ) → length clears ≡ 4
    → at + more ≤ bound
    → ((port t : ℕ) → port < 4 → get_or clears port None ≡ Some t → t + more ≤ bound) → (port t : ℕ)
    → port < 4 → get_or (cleared_after clears 0 mask at) port None ≡ Some t → t + more ≤ bound
greatest-within clears mask at more bound n h k port t p e =
    let known = greatest-after clears 0 mask at port (omega arith) in
    within-by (covers mask (0 + port)) (get_or clears port None) at t more bound h (λ s. k port s p) (rw known at e)

-- what is kept of a port by whether the clear covers it, after one clear and after two
pub greatest-once : (clears : List (Option ℕ)) (mask at port : ℕ) (covered : Bool)
    → port < length clears → covers mask port ≡ covered
    → get_or (cleared_after clears 0 mask at) port None
    ≡ (if covered then Some (later (get_or clears port None) at) else get_or clears port None)
greatest-once clears mask at port covered h e =
    greatest-after clears 0 mask at port h
    ∙ ap (λ b. if b then Some (later (get_or clears port None) at) else get_or clears port None)
    (ap (λ n. covers mask n) (zero-add port) ∙ e)

pub greatest-twice : (clears : List (Option ℕ)) (mask at mask2 at2 port : ℕ) (first second : Bool)
    → port < length clears → covers mask port ≡ first → covers mask2 port ≡ second
    → get_or (cleared_after (cleared_after clears 0 mask at) 0 mask2 at2) port None
    ≡ (if second
    then Some (later (if first then Some (later (get_or clears port None) at) else get_or clears port None) at2)
    else (if first then Some (later (get_or clears port None) at) else get_or clears port None))
greatest-twice clears mask at mask2 at2 port first second h e e2 =
    greatest-once (cleared_after clears 0 mask at) mask2 at2 port second
    (omega (arith, length-cleared_after clears 0 mask at)) e2
    ∙ ap (λ c. if second then Some (later c at2) else c) (greatest-once clears mask at port first h e)

-- a clear zeroes the latches of the ports that it covers
latch-after : (latches : List ℕ) (first mask port : ℕ) → port < length latches
    → get_or (latches_after latches first mask) port 0
    ≡ (if covers mask (first + port) then 0 else get_or latches port 0)
latch-after [] first mask port h = absurd (omega arith)
latch-after (l ∷ ls) first mask zero h = rw add-zero
latch-after (l ∷ ls) first mask (suc port) h =
    let e : first + suc port ≡ first + 1 + port = omega arith in
    rw e (latch-after ls (first + 1) mask port (omega arith))

pub length-latches_after : (latches : List ℕ) (first mask : ℕ)
    → length (latches_after latches first mask) ≡ length latches
length-latches_after [] first mask = refl
length-latches_after (l ∷ ls) first mask = ap (λ n. suc n) (length-latches_after ls (first + 1) mask)

pub latch-once : (latches : List ℕ) (mask port : ℕ) (covered : Bool) → port < length latches
    → covers mask port ≡ covered
    → get_or (latches_after latches 0 mask) port 0 ≡ (if covered then 0 else get_or latches port 0)
latch-once latches mask port covered h e =
    latch-after latches 0 mask port h
    ∙ ap (λ b. if b then 0 else get_or latches port 0) (ap (λ n. covers mask n) (zero-add port) ∙ e)

pub latch-twice : (latches : List ℕ) (mask mask2 port : ℕ) (first second : Bool)
    → port < length latches → covers mask port ≡ first → covers mask2 port ≡ second
    → get_or (latches_after (latches_after latches 0 mask) 0 mask2) port 0
    ≡ (if second then 0 else (if first then 0 else get_or latches port 0))
latch-twice latches mask mask2 port first second h e e2 =
    latch-once (latches_after latches 0 mask) mask2 port second
    (omega (arith, length-latches_after latches 0 mask)) e2
    ∙ ap (λ l. if second then 0 else l) (latch-once latches mask port first h e)
