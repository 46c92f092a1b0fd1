use Rattle.std.proofs.Common.{◌≡◌, ◌∙◌, ℕ, List, refl, ap, arith, length, take, drop}
use Rattle.chacha_core.specs.ChaCha20.{quarter_round, column_rounds, diagonal_rounds, double_rounds, word_at}
use Rattle.chacha_core.specs.ChaCha20.{block_words, block, xor_from}
use Rattle.chacha_core.specs.Vectors.{plaintext}
use Rattle.chacha_core.proofs.StreamLemmas.{chacha20-two_blocks}
use Rattle.poly_core.specs.Poly1305.{little, key_r, key_s, block_number, block_numbers, polynomial, poly1305}
use Rattle.aead_core.specs.Aead.{one_time_key, mac_data, enciphered, tag_of}
use Rattle.aead_core.specs.Vectors.{key, generation_nonce, generated_key, nonce, aad, ciphertext, tag}
use Rattle.aead_core.proofs.laws.vectors_of_the_rfc.Goals as goal

enciphers : enciphered key nonce plaintext ≡ ciphertext
unfolding enciphered quarter_round column_rounds diagonal_rounds double_rounds word_at block_words block xor_from
    key nonce plaintext ciphertext
enciphers =
    let short : length (drop 64 plaintext) ≡ 50 = refl in
    chacha20-two_blocks key nonce 1 (take 64 plaintext) (drop 64 plaintext) refl (omega (arith, short))

tags : tag_of key nonce aad ciphertext ≡ tag
unfolding tag_of one_time_key mac_data quarter_round column_rounds diagonal_rounds double_rounds word_at block_words
    block little key_r key_s block_number block_numbers polynomial poly1305 key nonce aad ciphertext tag
tags = refl

pub returns-clause-one_time_key : goal.returns-clause-one_time_key
unfolding one_time_key quarter_round column_rounds diagonal_rounds double_rounds word_at block_words block key
    generation_nonce generated_key
returns-clause-one_time_key c = refl

pub returns-clause-pair : goal.returns-clause-pair
returns-clause-pair c =
    ap (λ (text : List ℕ). (text, tag_of key nonce aad text)) enciphers
    ∙ ap (λ (mac : List ℕ). (ciphertext, mac)) tags
