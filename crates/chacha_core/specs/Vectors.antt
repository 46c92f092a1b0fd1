-- The test vectors of RFC 8439; `src/laws.rt` says that the definitions give them.
use Rattle.std.specs.Prelude.{ℕ, List, ◌++◌, codes}
use Rattle.std.specs.Int.{bytes_high_first}

-- the key 00 .. 1f (2.3.2 and 2.4.2)
unfoldable pub key : List ℕ
key = bytes_high_first 32 0x000102030405060708090a0b0c0d0e0f101112131415161718191a1b1c1d1e1f

-- a nonce, and the block with the counter 1 (2.3.2)
unfoldable pub block_nonce : List ℕ
block_nonce = bytes_high_first 12 0x000000090000004a00000000

unfoldable pub first_block : List ℕ
first_block =
    bytes_high_first 32 0x10f1e7e4d13b5915500fdd1fa32071c4c7d1f4c733c068030422aa9ac3d46c4e
    ++ bytes_high_first 32 0xd2826446079faa0914c2d705d98b02a2b5129cd1de164eb9cbd083e8a2503c4e

-- a nonce, a text, and the text encrypted from the counter 1 on (2.4.2)
unfoldable pub text_nonce : List ℕ
text_nonce = bytes_high_first 12 0x000000000000004a00000000

unfoldable pub plaintext : List ℕ
plaintext =
    codes "Ladies and Gentlemen of the class of '99: If I could offer you only "
    ++ codes "one tip for the future, sunscreen would be it."

unfoldable pub ciphertext : List ℕ
ciphertext =
    bytes_high_first 32 0x6e2e359a2568f98041ba0728dd0d6981e97e7aec1d4360c20a27afccfd9fae0b
    ++ bytes_high_first 32 0xf91b65c5524733ab8f593dabcd62b3571639d624e65152ab8f530c359f0861d8
    ++ bytes_high_first 32 0x07ca0dbf500d6a6156a38e088a22b65e52bc514d16ccf806818ce91ab7793736
    ++ bytes_high_first 18 0x5af90bbf74a35be6b40b8eedf2785e42874d
