-- The container: a header, then STREAM of the plaintext's chunks. A header has 24 bytes in version 1. In version 2 the
-- length of a label and its 0 to 255 bytes follow.
use Rattle.std.specs.Prelude.{ℕ, ◌+◌, ◌^◌, Bool, List, [], ◌∷◌, ◌++◌, length, take, drop, codes, slice_index, Option}
use Rattle.std.specs.Prelude.{Some, None, if◌then◌else◌}
use Rattle.std.specs.Str.{bytes_eq}
use Rattle.sha2.specs.Sha256.{sha256}
use Rattle.container_core.specs.Chunks.{chunks}
use Rattle.container_core.specs.Shape.{ShapeView, size_of}
use Rattle.container_core.specs.Stream.{stream}

-- what every container begins with
abbrev pub magic : List ℕ
magic = codes "STRMSEAL"

-- the key's hint: the first 7 bytes of its ID, the SHA-256 of its bytes
unfoldable pub hint_of : List ℕ → List ℕ
hint_of key = take 7 (sha256 key)

-- the version, by the label
abbrev pub version_of : Option (List ℕ) → ℕ
version_of None = 1
version_of (Some label) = 2

-- what follows the first 24 bytes of a header: in version 2 the label's length, and the label
abbrev pub label_bytes : Option (List ℕ) → List ℕ
label_bytes None = []
label_bytes (Some label) = length label ∷ label

-- the first 24 bytes: the magic, the version, the exponent of the chunks' size, the prefix of 7 bytes, the key's hint
abbrev pub front_of : List ℕ → ℕ → ℕ → List ℕ → List ℕ
front_of key version exponent prefix = magic ++ version ∷ exponent ∷ [] ++ prefix ++ hint_of key

-- the header of a shape
unfoldable pub header_of : List ℕ → ShapeView → List ℕ → List ℕ
header_of key shape prefix =
    front_of key (version_of shape.label) shape.exponent prefix ++ label_bytes shape.label

-- the container of a plaintext under a key and a prefix, in a shape
unfoldable pub container : List ℕ → ShapeView → List ℕ → List ℕ → List ℕ
container key shape prefix plain =
    let header = header_of key shape prefix in
    header ++ stream key header 0 (chunks (size_of shape) plain)

-- whether bytes begin as a container of version 2 does
unfoldable pub is_two : List ℕ → Bool
is_two bytes = bytes_eq (take 9 bytes) (magic ++ 2 ∷ [])

-- how many bytes their header has
unfoldable pub header_length : List ℕ → ℕ
header_length bytes = if is_two bytes then 25 + slice_index bytes 24 else 24

-- the size of the chunks that a header names
unfoldable pub size_in : List ℕ → ℕ
size_in header = 2 ^ slice_index header 9

-- the label that a header names, with its length in byte 24; none in version 1
unfoldable pub label_in : List ℕ → Option (List ℕ)
label_in bytes = if is_two bytes then Some (take (slice_index bytes 24) (drop 25 bytes)) else None

-- the shape that a header names
abbrev pub shape_in : List ℕ → ShapeView
shape_in bytes = record { exponent = slice_index bytes 9; label = label_in bytes }
