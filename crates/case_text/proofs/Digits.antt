-- Bytes in digits.
use Rattle.std.proofs.Common.{ℕ, ◌≡◌, ◌+◌, ◌/◌, ◌≤◌, List, length, Result, Ok, Err, arith, rules}
use Rattle.std.specs.Result.{IsOkAnd}
use Rattle.hex.specs.declared.error.FromHexError.{FromHexError}
use Rattle.hex.specs.Hex.{decode_of}
use Rattle.hex.proofs.HexLemmas.{decode_of-ok}
use Rattle.case_text.specs.Number.{HasRoom}

-- room for the bytes of some digits is room for half as many bytes as digits
pub HasRoom-half : (bytes digits : List ℕ) (offset : ℕ) (read : Result (List ℕ) FromHexError)
    → decode_of digits ≡ read → IsOkAnd read (HasRoom bytes offset) → offset + length digits / 2 ≤ length bytes
HasRoom-half bytes digits offset (Ok fresh) same room = omega (arith, decode_of-ok digits fresh same, room)
HasRoom-half bytes digits offset (Err e) same room = search rules
