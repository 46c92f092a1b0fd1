use Rattle.std.proofs.Common.{◌≡◌, ℕ, [], ◌*◌, ◌/◌, ◌%◌, ◌++◌, take, drop, slice_index, get_or}
use Rattle.chacha_core.specs.ChaCha20.{word_bytes, xor_from}
use Rattle.chacha_core.proofs.eight.xor_rows.Given as goal

abbrev pub invariant-rows : goal.invariant-rows
invariant-rows l =
    l.text ≡ xor_from (λ (j : ℕ). slice_index (word_bytes (get_or l.rows (j / 32) [])) (j % 32)) 0
    (take (32 * l.k) l.fn.text) ++ drop (32 * l.k) l.fn.text
