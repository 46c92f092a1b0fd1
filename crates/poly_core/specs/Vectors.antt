-- The test vector of RFC 8439 for Poly1305 (2.5.2); `src/laws.rt` says that the definition gives it.
use Rattle.std.specs.Prelude.{ℕ, List, codes}
use Rattle.std.specs.Int.{bytes_high_first}

unfoldable pub key : List ℕ
key = bytes_high_first 32 0x85d6be7857556d337f4452fe42d506a80103808afb0db2fd4abff6af4149f51b

unfoldable pub message : List ℕ
message = codes "Cryptographic Forum Research Group"

unfoldable pub tag : List ℕ
tag = bytes_high_first 16 0xa8061dc1305136c6c22b8baf0c0127a9
