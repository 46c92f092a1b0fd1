use Rattle.std.proofs.Common.{◌≡◌, ◌*◌, ◌++◌, take, drop, slice_index}
use Rattle.chacha_core.specs.ChaCha20.{word_bytes, xor_from}
use Rattle.chacha_core.proofs.stream.xor_block.Given as goal

abbrev pub invariant-rows : goal.invariant-rows
invariant-rows l =
    l.text ≡ xor_from (λ j. slice_index (word_bytes l.words) j) 0 (take (16 * l.row) l.fn.text) ++ drop
    (16 * l.row) l.fn.text
