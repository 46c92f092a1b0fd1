-- The nonces of STREAM, and chunks that are sealed under them.
use Rattle.std.specs.Prelude.{ℕ, ◌+◌, List, [], ◌∷◌, ◌++◌}
use Rattle.container_core.specs.Chunks.{chunks}
use Rattle.container_core.specs.Container.{header_of}
use Rattle.container_core.specs.Shape.{ShapeView, size_of}
use Rattle.container_core.specs.Stream.{nonce_of, prefix_in, is_nil}
use Rattle.aead_core.specs.Aead.{aead}

-- the nonces under which STREAM seals a list of chunks, the first of which has this number
unfoldable pub stream_nonces : List ℕ → ℕ → List (List ℕ) → List (List ℕ)
stream_nonces header number [] = []
stream_nonces header number (chunk ∷ rest) = nonce_of (prefix_in header) number (is_nil rest) ∷ stream_nonces header
    (number + 1) rest

-- the nonces of the container of a plaintext, under a key, in a shape, with a prefix
abbrev pub container_nonces : List ℕ → ShapeView → List ℕ → List ℕ → List (List ℕ)
container_nonces key shape prefix plain =
    stream_nonces (header_of key shape prefix) 0 (chunks (size_of shape) plain)

-- chunks sealed by the AEAD one after another, each under the nonce at its place: its ciphertext, then its tag
unfoldable pub sealed_by_nonces : List ℕ → List ℕ → List (List ℕ) → List (List ℕ) → List ℕ
sealed_by_nonces key header [] list = []
sealed_by_nonces key header (nonce ∷ nonces) [] = []
sealed_by_nonces key header (nonce ∷ nonces) (chunk ∷ rest) =
    let pair = aead key nonce header chunk in
    (pair.0 ++ pair.1) ++ sealed_by_nonces key header nonces rest
