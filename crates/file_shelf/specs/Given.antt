-- What a file was given that gathers bytes before it writes them.
use Rattle.std.specs.Prelude.{ℕ, ◌+◌, nat_le, List, Option, if◌then◌else◌}
use Rattle.std.specs.Io.KnownBytes.{append_known}
use Rattle.file_shelf.specs.declared.buffered.Buffered.{Buffered}

-- what the file holds, as far as that is known, and then the bytes that are not yet written
abbrev pub given_to : {F : Type 0} → (F → Option (List ℕ)) → Buffered F → Option (List ℕ)
given_to contents b = append_known (contents b.file) b.gathered

-- How many bytes are not yet written after a put of some more: 16,384 are gathered. Where these don't fit beside
-- those that are held back, those are written first, and these too where they are more than that.
abbrev pub held_after : (held more : ℕ) → ℕ
held_after held more =
    if nat_le (held + more) 16384 then held + more
    else (if nat_le more 16384 then more else 0)
