use Rattle.std.proofs.Common.{ℕ, ◌*◌, ◌^◌, sym, ap, ◌∙◌}
use Rattle.std.specs.Simd.Lanes.{digits_l, number_l}
use Rattle.chacha_core.proofs.WordLemmas.{digits-words}
use Rattle.chacha_core.proofs.eight.row_bytes.Goals as goal

pub returns : goal.returns
returns c =
    let ws = c.args.words in
    ap (λ (n : ℕ). digits_l 256 (4 * n) (number_l (2 ^ 32) ws)) (sym c.fits-words.0)
    ∙ digits-words ws c.fits-words.1
