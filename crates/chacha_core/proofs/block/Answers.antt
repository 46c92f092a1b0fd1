use Rattle.std.proofs.Common.{ap, ◌∙◌}
use Rattle.chacha_core.specs.ChaCha20.{block, block_words, word_bytes}
use Rattle.chacha_core.proofs.block.Goals as goal

pub returns : goal.returns
unfolding block
returns c =
    c.block_bytes.ensures ∙ ap word_bytes (c.block_words.ensures ∙ ap block_words c.start_state.ensures)
