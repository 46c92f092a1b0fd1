-- The test vectors of RFC 8439 for the AEAD; `src/laws.rt` says that the definitions give them. The plaintext is
-- that of ChaCha20's test vector.
use Rattle.std.specs.Prelude.{ℕ, List, ◌++◌}
use Rattle.std.specs.Int.{bytes_high_first}

-- the key 80 .. 9f (2.6.2 and 2.8.2)
unfoldable pub key : List ℕ
key = bytes_high_first 32 0x808182838485868788898a8b8c8d8e8f909192939495969798999a9b9c9d9e9f

-- a nonce, and the Poly1305 key of its message (2.6.2)
unfoldable pub generation_nonce : List ℕ
generation_nonce = bytes_high_first 12 0x000000000001020304050607

unfoldable pub generated_key : List ℕ
generated_key = bytes_high_first 32 0x8ad5a08b905f81cc815040274ab29471a833b637e3fd0da508dbb8e2fdd1a646

-- a nonce, associated data, and the ciphertext and the tag of the plaintext (2.8.2)
unfoldable pub nonce : List ℕ
nonce = bytes_high_first 12 0x070000004041424344454647

unfoldable pub aad : List ℕ
aad = bytes_high_first 12 0x50515253c0c1c2c3c4c5c6c7

unfoldable pub ciphertext : List ℕ
ciphertext =
    bytes_high_first 32 0xd31a8d34648e60db7b86afbc53ef7ec2a4aded51296e08fea9e2b5a736ee62d6
    ++ bytes_high_first 32 0x3dbea45e8ca9671282fafb69da92728b1a71de0a9e060b2905d6a5b67ecd3b36
    ++ bytes_high_first 32 0x92ddbd7f2d778b8c9803aee328091b58fab324e4fad675945585808b4831d7bc
    ++ bytes_high_first 18 0x3ff4def08e4b7a9de576d26586cec64b6116

unfoldable pub tag : List ℕ
tag = bytes_high_first 16 0x1ae10b594f09e26a7e902ecbd0600691
