use Rattle.std.proofs.Common.{◌≡◌, refl, arith, length, take, drop}
use Rattle.chacha_core.specs.ChaCha20.{quarter_round, column_rounds, diagonal_rounds, double_rounds, word_at}
use Rattle.chacha_core.specs.ChaCha20.{block_words, block, xor_from}
use Rattle.chacha_core.specs.Vectors.{key, block_nonce, first_block, text_nonce, plaintext, ciphertext}
use Rattle.chacha_core.proofs.StreamLemmas.{chacha20-two_blocks}
use Rattle.chacha_core.proofs.laws.vectors_of_the_rfc.Goals as goal

pub returns-clause-quarter_round : goal.returns-clause-quarter_round
unfolding quarter_round
returns-clause-quarter_round c = refl

pub returns-clause-quarter_round_of_a_state : goal.returns-clause-quarter_round_of_a_state
unfolding quarter_round
returns-clause-quarter_round_of_a_state c = refl

pub returns-clause-block : goal.returns-clause-block
unfolding quarter_round column_rounds diagonal_rounds double_rounds word_at block_words block key block_nonce
    first_block
returns-clause-block c = refl

pub returns-clause-text : goal.returns-clause-text
unfolding quarter_round column_rounds diagonal_rounds double_rounds word_at block_words block xor_from key
    text_nonce plaintext ciphertext
returns-clause-text c =
    let short : length (drop 64 plaintext) ≡ 50 = refl in
    chacha20-two_blocks key text_nonce 1 (take 64 plaintext) (drop 64 plaintext) refl (omega (arith, short))
