-- THE EXTENDED TAGS (xid6). At 10200 are the text "xid6", the size of all chunks in four bytes, and the chunks. A chunk
-- has a head of four bytes: its ID, its kind, and a word. Kind 0 has its content in the word. Of any other kind the word
-- is the size of the content, which follows the head and is filled up to a multiple of four.
use Rattle.std.specs.Prelude.{ℕ, zero, suc, ◌+◌, ◌*◌, ◌/◌, Bool, ◌&&◌, not, ◌==◌, nat_lt, min, List, length, slice_index, codes, Option, Some, None, if◌then◌else◌}
use Rattle.std.specs.Str.{bytes_eq}
use Rattle.sound_tags.specs.declared.chunk.Chunk.{Chunk}
use Rattle.sound_tags.specs.SoundFile.{part_at, up_to_zero, little2, little4}
use Rattle.sound_tags.specs.Header.{filled}

abbrev pub body_size : (kind word : ℕ) → ℕ
body_size kind word = if kind == 0 then 0 else word

-- the chunk with this head, at this offset
abbrev pub chunk_with : (id kind word at size : ℕ) → Chunk
chunk_with id kind word at size =
    record { id = id; kind = kind; word = word; at = at + 4; size = size; next = at + 4 + (size + 3) / 4 * 4 }

-- the chunk at an offset, if its head and its content are before the end
unfoldable pub chunk_at : List ℕ → (end at : ℕ) → Option Chunk
chunk_at file end at =
    let kind = slice_index file (at + 1) in
    let word = little2 file (at + 2) in
    let size = body_size kind word in
    if nat_lt end (at + 4 + size) then None
    else Some (chunk_with (slice_index file at) kind word at size)

-- where the chunks end: behind as many bytes as their size says, or with the file
unfoldable pub chunks_end : List ℕ → Option ℕ
chunks_end file =
    if nat_lt (length file) 0x10208 then None
    else (if not (bytes_eq (part_at file 0x10200 4) (codes "xid6")) then None
    else Some (min (0x10208 + little4 file 0x10204) (length file)))

-- the chunk, if it has the ID, or what a search from its end on gives
abbrev pub or_next : ℕ → Option Chunk → (ℕ → Option Chunk) → Option Chunk
or_next id None search = None
or_next id (Some chunk) search = if chunk.id == id then Some chunk else search chunk.next

-- the first chunk of an ID among so many from an offset on
unfoldable pub chunk_from : (most : ℕ) → List ℕ → (end at id : ℕ) → Option Chunk
chunk_from zero file end at id = None
chunk_from (suc most) file end at id =
    or_next id (chunk_at file end at) (λ next. chunk_from most file end next id)

-- THE FIRST CHUNK OF AN ID. Each has four bytes at least, so that no file has more chunks than bytes
abbrev pub chunk_before : Option ℕ → List ℕ → ℕ → Option Chunk
chunk_before None file id = None
chunk_before (Some end) file id = chunk_from end file end 0x10208 id

unfoldable pub chunk_of : List ℕ → ℕ → Option Chunk
chunk_of file id = chunk_before (chunks_end file) file id

-- ITS TEXT (kind 1), up to the first zero, and ITS NUMBER (kind 0: the word; kind 4: four bytes)
abbrev pub text_of_chunk : List ℕ → Option Chunk → Option (List ℕ)
text_of_chunk file None = None
text_of_chunk file (Some chunk) =
    if chunk.kind == 1 then filled (up_to_zero (part_at file chunk.at chunk.size)) else None

unfoldable pub chunk_text : List ℕ → ℕ → Option (List ℕ)
chunk_text file id = text_of_chunk file (chunk_of file id)

abbrev pub number_of_chunk : List ℕ → Option Chunk → Option ℕ
number_of_chunk file None = None
number_of_chunk file (Some chunk) =
    if chunk.kind == 0 then Some chunk.word
    else (if (chunk.kind == 4) && (chunk.size == 4) then Some (little4 file chunk.at) else None)

unfoldable pub chunk_number : List ℕ → ℕ → Option ℕ
chunk_number file id = number_of_chunk file (chunk_of file id)
