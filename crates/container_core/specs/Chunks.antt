-- How a plaintext is cut into chunks, and how long its container is; and the sizes of the format, in bytes.
use Rattle.std.specs.Prelude.{ℕ, zero, suc, ◌+◌, ◌-◌, ◌*◌, ◌/◌, ◌^◌, ◌==◌, ◌||◌, Bool, List, [], ◌∷◌, length, take}
use Rattle.std.specs.Prelude.{drop, min}

-- a tag
abbrev pub tag_size : ℕ
tag_size = 16

-- the greatest plaintext that is sealed
abbrev pub max_plain : ℕ
max_plain = 2 ^ 40

-- the greatest plaintext that is opened: as many chunks of 2 ^ 20 bytes as a container may have
abbrev pub max_opened : ℕ
max_opened = 2 ^ 52 - 2 ^ 20

-- how many bytes a chunk of version 1 has, and the greatest chunk of all
abbrev pub chunk_of_one : ℕ
chunk_of_one = 2 ^ 16

abbrev pub most_chunk : ℕ
most_chunk = 2 ^ 20

-- the most chunks that a container may have: their numbers have 32 bits, and so does their count
abbrev pub max_chunks : ℕ
max_chunks = 2 ^ 32 - 1

-- the bytes of the greatest plaintext in chunks of this size, if it may have `most`
unfoldable pub most_of : ℕ → ℕ → ℕ
most_of most size = min most (max_chunks * size)

-- n parts of this size, then the rest
unfoldable pub parts : ℕ → ℕ → List ℕ → List (List ℕ)
parts size zero bytes = bytes ∷ []
parts size (suc full) bytes = take size bytes ∷ parts size full (drop size bytes)

-- the bytes cut after every `size` of them: the last part has 1 to `size` bytes, or none if there are no bytes
unfoldable pub cut_every : ℕ → List ℕ → List (List ℕ)
cut_every size bytes = parts size ((length bytes - 1) / size) bytes

-- the chunks of a plaintext: the first `size` bytes, then the chunks of the rest
unfoldable pub chunks : ℕ → List ℕ → List (List ℕ)
chunks size plain = cut_every size plain

-- the sealed chunks of a body: each is a chunk's ciphertext with its tag of 16 bytes
unfoldable pub sealed_chunks : ℕ → List ℕ → List (List ℕ)
sealed_chunks size body = cut_every (size + tag_size) body

-- how many chunks of this size a plaintext of n bytes has: at least one
unfoldable pub chunk_count : ℕ → ℕ → ℕ
chunk_count size n = (n - 1) / size + 1

-- how many bytes follow the header of a container of n plaintext bytes
unfoldable pub body_length : ℕ → ℕ → ℕ
body_length size n = n + tag_size * chunk_count size n

-- how many bytes a container of n plaintext bytes has, under a header of `header` bytes
abbrev pub container_length : ℕ → ℕ → ℕ → ℕ
container_length header size n = header + body_length size n

-- how many bytes the longest container of a plaintext of up to `most` bytes has
abbrev pub container_limit : ℕ → ℕ → ℕ → ℕ
container_limit header size most = container_length header size (most_of most size)

-- whether some plaintext of 0 to `most` bytes has a container of `bytes` bytes
unfoldable pub has_plaintext : ℕ → ℕ → ℕ → ℕ → Bool
has_plaintext header size zero bytes = bytes == container_length header size 0
has_plaintext header size (suc most) bytes =
    (bytes == container_length header size (suc most)) || has_plaintext header size most bytes
