use Rattle.std.proofs.Common.{ℕ, List, ◌++◌, ◌∙◌, ap, arith, length, take, drop, replicate}
use Rattle.chacha_core.specs.ChaCha20.{chacha20}
use Rattle.chacha_core.proofs.StreamLemmas.{chacha20_whole, take-chacha20}
use Rattle.chacha_core.proofs.four.apply_part.Goals as goal

pub returns : goal.returns
returns c =
    let key = c.args.key.now in
    let nonce = c.args.nonce.now in
    let first = c.args.first in
    let text = c.args.text.now in
    let n : ℕ = length text in
    let tail : List ℕ = drop n (replicate 256 0) in
    c.copy_from_slice-2.ensures.after
    ∙ ap (take n) (c.apply_group.ensures first key nonce (c.start_states-start.ensures (omega arith)) ∙ chacha20_whole key nonce first 256 _ (omega arith)
    ∙ ap (λ (zs : List ℕ). chacha20 key nonce first (zs ++ tail)) c.copy_from_slice.ensures.after)
    ∙ take-chacha20 key nonce first text tail
