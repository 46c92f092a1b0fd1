use Rattle.std.proofs.Common.{ℕ, List, [], ◌+◌, ◌*◌, ◌/◌, ◌%◌, ◌≡◌, ◌<◌, ◌++◌, arith, refl, sym, ap, ◌∙◌}
use Rattle.std.proofs.Common.{take, drop, slice_index, get_or}
use Rattle.chacha_core.specs.ChaCha20.{word_bytes, xor_from}
use Rattle.chacha_core.proofs.StreamLemmas.{xor_chunk, xor_done}
use Rattle.chacha_core.proofs.four.xor_rows.Goals as goal

pub rows-init : goal.rows-init
unfolding xor_from
rows-init c = refl

pub rows-preserved : goal.rows-preserved
rows-preserved c =
    let at : ℕ = 16 * c.rows.k in
    let f = λ (j : ℕ). slice_index (word_bytes (get_or c.args.rows (j / 16) [])) (j % 16) in
    let row = c.row_bytes.result in
    let each : (i : ℕ) → i < 16 → f (at + i) ≡ get_or row i 0 = λ i h.
    let here : (16 * c.rows.k + i) / 16 ≡ c.rows.k = omega arith in
    let byte : (16 * c.rows.k + i) % 16 ≡ i = omega arith in
    ap (λ (k : ℕ). slice_index (word_bytes (get_or c.args.rows k [])) ((16 * c.rows.k + i) % 16)) here
    ∙ ap (λ (b : ℕ). slice_index (word_bytes (get_or c.args.rows c.rows.k [])) b) byte
    ∙ sym (ap (λ (zs : List ℕ). get_or zs i 0) c.row_bytes.ensures) in
    let next : at + 16 ≡ 16 * (c.rows.k + 1) = omega arith in
    xor_chunk f at 16 c.args.text.now c.rows.text row (omega arith) c.rows.invariant (omega arith) each
    ∙ ap (λ (n : ℕ). xor_from f 0 (take n c.args.text.now) ++ drop n c.args.text.now) next

pub returns : goal.returns
returns c =
    c.rows.invariant
    ∙ xor_done (λ (j : ℕ). slice_index (word_bytes (get_or c.args.rows (j / 16) [])) (j % 16)) (16 * c.rows.k)
    c.args.text.now (omega arith)
