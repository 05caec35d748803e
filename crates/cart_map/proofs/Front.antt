-- The bytes in front of an image.
use Rattle.std.proofs.Common.{◌≡◌, ℕ, ◌-◌, ◌<◌, ◌≤◌, List, ◌++◌, length, take, drop, arith, length-drop, sym}
use Rattle.std.proofs.Math.Seq.{take-append_seam}

-- a list that was turned by its first 512 and then cut by as many has lost its first 512
pub front_dropped : (n : ℕ) (bytes : List ℕ) → n ≡ length bytes - 512 → take n (drop 512 bytes ++ take 512 bytes) ≡ drop 512 bytes
front_dropped n bytes size =
    let same : n ≡ length (drop 512 bytes) = omega (arith, length-drop 512 bytes) in
    rw same (take-append_seam (drop 512 bytes) (take 512 bytes))
