-- STREAM (Hoang, Reyhanitabar, Rogaway, Vizár, CRYPTO 2015) over the AEAD of RFC 8439. Each chunk is sealed under a
-- nonce that encodes a prefix, the chunk's number and whether it is the last. Here the associated data is the header.
use Rattle.std.specs.Prelude.{ℕ, ◌+◌, ◌-◌, ◌&&◌, Bool, true, false, List, [], ◌∷◌, ◌++◌, length, take, drop, Option}
use Rattle.std.specs.Prelude.{if◌then◌else◌}
use Rattle.std.specs.Int.{w32, to_be_bytes}
use Rattle.aead_core.specs.Aead.{aead, opened}
use Rattle.container_core.specs.Chunks.{tag_size}

-- the nonce of a chunk: the prefix, the chunk's number in 4 big-endian bytes, and 1 for the last chunk, else 0
unfoldable pub nonce_of : List ℕ → ℕ → Bool → List ℕ
nonce_of prefix number last = prefix ++ to_be_bytes w32 number ++ (if last then 1 else 0) ∷ []

-- the prefix that a header names: bytes 10 to 16
unfoldable pub prefix_in : List ℕ → List ℕ
prefix_in header = take 7 (drop 10 header)

-- whether nothing is left
abbrev pub is_nil : {A : Type 0} → List A → Bool
is_nil [] = true
is_nil (x ∷ xs) = false

-- a chunk sealed: its ciphertext, then its tag
unfoldable pub sealed_chunk : List ℕ → List ℕ → ℕ → Bool → List ℕ → List ℕ
sealed_chunk key header number last plain =
    let pair = aead key (nonce_of (prefix_in header) number last) header plain in
    pair.0 ++ pair.1

-- STREAM of a list of chunks; the first has this number
unfoldable pub stream : List ℕ → List ℕ → ℕ → List (List ℕ) → List ℕ
stream key header number [] = []
stream key header number (chunk ∷ rest) =
    sealed_chunk key header number (is_nil rest) chunk ++ stream key header (number + 1) rest

-- a round of STREAM: chunks, the number of the first, and whether the last of them is the container's last
unfoldable pub stream_by : List ℕ → List ℕ → ℕ → Bool → List (List ℕ) → List ℕ
stream_by key header number last [] = []
stream_by key header number last (chunk ∷ rest) =
    sealed_chunk key header number (is_nil rest && last) chunk ++ stream_by key header (number + 1) last rest

-- the plaintext of a sealed chunk, if its last 16 bytes are the tag of those before
unfoldable pub opened_chunk : List ℕ → List ℕ → ℕ → Bool → List ℕ → Option (List ℕ)
opened_chunk key header number last sealed =
    let bytes = length sealed - tag_size in
    opened key (nonce_of (prefix_in header) number last) header (take bytes sealed) (drop bytes sealed)
