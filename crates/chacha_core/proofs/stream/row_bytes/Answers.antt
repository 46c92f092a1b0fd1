use Rattle.std.proofs.Common.{ℕ, ◌*◌, ◌^◌, ◌≡◌, arith, sym, ap, ◌∙◌, length, take, drop, w32}
use Rattle.std.proofs.lemmas.List.{length-drop, length-take-le}
use Rattle.std.proofs.lemmas.Simd.{chunk-fits}
use Rattle.std.specs.Simd.Lanes.{digits_l, number_l}
use Rattle.chacha_core.proofs.WordLemmas.{digits-words, word_bytes-part}
use Rattle.chacha_core.specs.ChaCha20.{word_bytes}
use Rattle.chacha_core.proofs.stream.row_bytes.Goals as goal

pub returns : goal.returns
returns c =
    let ws = c.args.words.now in
    let at : ℕ = 4 * c.args.row in
    let row = take 4 (drop at ws) in
    let long : length row ≡ 4 = length-take-le 4 (drop at ws) (omega (arith, length-drop at ws)) in
    let place : 16 * c.args.row ≡ 4 * at = omega arith in
    ap (λ (n : ℕ). digits_l 256 (4 * n) (number_l (2 ^ 32) row)) (sym long)
    ∙ digits-words row (chunk-fits w32 at 4 ws c.type_inv.words)
    ∙ sym (word_bytes-part ws 4 at (omega arith))
    ∙ ap (λ (n : ℕ). take 16 (drop n (word_bytes ws))) (sym place)
