-- AEAD_CHACHA20_POLY1305 (RFC 8439, 2.6 and 2.8) on lists of bytes.
use Rattle.std.specs.Prelude.{ℕ, List, ◌++◌, length, take, Option, Some, None, if◌then◌else◌}
use Rattle.std.specs.Int.{w64, to_le_bytes}
use Rattle.std.specs.Str.{bytes_eq}
use Rattle.chacha_core.specs.ChaCha20.{block, chacha20}
use Rattle.poly_core.specs.Poly1305.{poly1305, pad16}

-- the Poly1305 key of one message: the first 32 bytes of the block with counter 0 (2.6)
unfoldable pub one_time_key : List ℕ → List ℕ → List ℕ
one_time_key key nonce = take 32 (block key 0 nonce)

-- what the tag authenticates: the associated data, the ciphertext, and their two lengths in 8 bytes each. Zeros follow
-- each of the first two, up to a multiple of 16 bytes (2.8.1)
unfoldable pub mac_data : List ℕ → List ℕ → List ℕ
mac_data aad ciphertext =
    aad ++ pad16 aad ++ ciphertext ++ pad16 ciphertext
    ++ to_le_bytes w64 (length aad) ++ to_le_bytes w64 (length ciphertext)

-- a text encrypted, or decrypted, from counter 1 on (2.8)
unfoldable pub enciphered : List ℕ → List ℕ → List ℕ → List ℕ
enciphered key nonce text = chacha20 key nonce 1 text

-- the tag of associated data and a ciphertext (2.8)
unfoldable pub tag_of : List ℕ → List ℕ → List ℕ → List ℕ → List ℕ
tag_of key nonce aad ciphertext = poly1305 (one_time_key key nonce) (mac_data aad ciphertext)

-- the AEAD pair of a plaintext: its ciphertext and its tag (2.8)
abbrev pub aead : List ℕ → List ℕ → List ℕ → List ℕ → List ℕ × List ℕ
aead key nonce aad plaintext =
    let ciphertext = enciphered key nonce plaintext in
    (ciphertext, tag_of key nonce aad ciphertext)

-- the plaintext of a ciphertext and a tag, if the tag is right
unfoldable pub opened : List ℕ → List ℕ → List ℕ → List ℕ → List ℕ → Option (List ℕ)
opened key nonce aad ciphertext tag =
    if bytes_eq tag (tag_of key nonce aad ciphertext) then Some (enciphered key nonce ciphertext) else None
