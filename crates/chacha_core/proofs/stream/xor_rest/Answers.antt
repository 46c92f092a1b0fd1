use Rattle.std.proofs.Common.{ℕ, List, ◌++◌, ◌∙◌, ap, length, take, drop, replicate, slice_index}
use Rattle.chacha_core.specs.ChaCha20.{word_bytes, xor_from}
use Rattle.chacha_core.proofs.StreamLemmas.{take-xor_from}
use Rattle.chacha_core.proofs.stream.xor_rest.Goals as goal

pub returns : goal.returns
returns c =
    let text = c.args.text.now in
    let n : ℕ = length text in
    let f = λ (j : ℕ). slice_index (word_bytes c.args.words.now) j in
    let tail : List ℕ = drop n (replicate 64 0) in
    c.copy_from_slice-2.ensures.after
    ∙ ap (take n) (c.xor_block.ensures ∙ ap (λ (zs : List ℕ). xor_from f 0 (zs ++ tail))
    c.copy_from_slice.ensures.after)
    ∙ take-xor_from f text tail
