use Rattle.std.proofs.Common.{◌≡◌, ◌*◌, length, take}
use Rattle.chacha_core.specs.ChaCha20.{word_bytes}
use Rattle.chacha_core.proofs.stream.block_bytes.Given as goal

abbrev pub invariant-rows : goal.invariant-rows
invariant-rows l = (length l.bytes ≡ 64) × (take (16 * l.row) l.bytes ≡ take (16 * l.row) (word_bytes l.words))
