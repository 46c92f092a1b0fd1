use Rattle.std.proofs.Common.{◌≡◌, ℕ, List, [], ◌/◌, ◌%◌, slice_index, get_or, ◌+◌, ◌-◌, ◌<◌, ◌++◌, arith, ap, ap₂, ◌∙◌, length, take, drop}
use Rattle.std.proofs.lemmas.List.{length-take-le, length-drop, drop-drop}
use Rattle.chacha_core.specs.ChaCha20.{word_bytes, add_states, double_rounds, block_words, start_state, chacha20}
use Rattle.chacha_core.specs.Lanes.{lane}
use Rattle.chacha_core.proofs.LaneLemmas.{lanes-keystream, byte_of_eight}
use Rattle.chacha_core.proofs.eight.xor_group.Goals as goal

pub returns : goal.returns
unfolding block_words double_rounds
returns c first key nonce began through =
    let old = c.args.text.now in
    let at = c.args.at in
    let k : ℕ = at + 512 - at in
    let size : k ≡ 512 = omega arith in
    let end : at + k ≡ at + 512 = omega arith in
    let piece = take k (drop at old) in
    let long : length piece ≡ 512 = length-take-le k (drop at old) (omega (arith, length-drop at old)) ∙ size in
    let blocks : (j : ℕ) → j < 8 → lane j c.sums-words.result ≡ block_words (start_state key (first + j) nonce) =
    λ j h. c.sums-words.ensures j h ∙ ap₂ add_states (through j h) (began j h) in
    ap (λ (zs : List ℕ). take at old ++ (zs ++ drop k (drop at old)))
    (c.xor_rows.ensures
    ∙ lanes-keystream 8 key nonce first c.sums-words.result
    (λ j. slice_index (word_bytes (get_or c.rows.result (j / 32) [])) (j % 32)) piece long blocks
    (λ j h. byte_of_eight c.sums-words.result c.rows.result j h c.rows.ensures)
    ∙ ap (λ (n : ℕ). chacha20 key nonce first (take n (drop at old))) size)
    ∙ ap (λ (zs : List ℕ). take at old ++ (chacha20 key nonce first (take 512 (drop at old)) ++ zs))
    (drop-drop k at old ∙ ap (λ (n : ℕ). drop n old) end)
