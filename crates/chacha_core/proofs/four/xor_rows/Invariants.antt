use Rattle.std.proofs.Common.{◌≡◌, ℕ, [], ◌*◌, ◌/◌, ◌%◌, ◌++◌, take, drop, slice_index, get_or}
use Rattle.chacha_core.specs.ChaCha20.{word_bytes, xor_from}
use Rattle.chacha_core.proofs.four.xor_rows.Given as goal

abbrev pub invariant-rows : goal.invariant-rows
invariant-rows l =
    l.text ≡ xor_from (λ (j : ℕ). slice_index (word_bytes (get_or l.rows (j / 16) [])) (j % 16)) 0
    (take (16 * l.k) l.fn.text) ++ drop (16 * l.k) l.fn.text
