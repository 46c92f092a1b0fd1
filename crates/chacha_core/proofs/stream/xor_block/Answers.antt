use Rattle.std.proofs.Common.{ℕ, List, ◌+◌, ◌*◌, ◌≡◌, ◌<◌, ◌++◌, arith, refl, sym, ap, ◌∙◌, length, take, drop}
use Rattle.std.proofs.Common.{slice_index, get_or}
use Rattle.std.proofs.lemmas.List.{length-take-le, length-drop, get_or-take, get_or-drop}
use Rattle.chacha_core.specs.ChaCha20.{word_bytes, xor_from}
use Rattle.chacha_core.proofs.StreamLemmas.{xor_chunk, xor_done}
use Rattle.chacha_core.proofs.WordLemmas.{length-word_bytes}
use Rattle.chacha_core.proofs.stream.xor_block.Goals as goal

pub rows-init : goal.rows-init
unfolding xor_from
rows-init c = refl

pub rows-preserved : goal.rows-preserved
rows-preserved c =
    let bytes = word_bytes c.args.words.now in
    let at : ℕ = 16 * c.rows.row in
    let f = λ (j : ℕ). slice_index bytes j in
    let row = c.row_bytes.result in
    let long : length row ≡ 16 =
    ap length c.row_bytes.ensures
    ∙ length-take-le 16 (drop at bytes) (omega (arith, length-drop at bytes, length-word_bytes c.args.words.now)) in
    let each : (i : ℕ) → i < 16 → f (at + i) ≡ get_or row i 0 = λ i h.
    sym (ap (λ (zs : List ℕ). get_or zs i 0) c.row_bytes.ensures
    ∙ get_or-take 16 (drop at bytes) i 0 h ∙ get_or-drop at bytes i 0) in
    let next : at + 16 ≡ 16 * (c.rows.row + 1) = omega arith in
    xor_chunk f at 16 c.args.text.now c.rows.text row (omega arith) c.rows.invariant long each
    ∙ ap (λ (n : ℕ). xor_from f 0 (take n c.args.text.now) ++ drop n c.args.text.now) next

pub returns : goal.returns
returns c =
    c.rows.invariant
    ∙ xor_done (λ (j : ℕ). slice_index (word_bytes c.args.words.now) j) (16 * c.rows.row) c.args.text.now (omega arith)
