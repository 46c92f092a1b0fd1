use Rattle.std.proofs.Common.{ℕ, List, ◌≡◌, ◌+◌, ◌-◌, ◌*◌, ◌/◌, ◌++◌, ◌∙◌, arith, refl, ap, length, take, drop}
use Rattle.std.proofs.Common.{slice_set}
use Rattle.std.proofs.lemmas.List.{set-set}
use Rattle.chacha_core.specs.ChaCha20.{chacha20, xor_from, keystream_byte, block_words}
use Rattle.chacha_core.proofs.StreamLemmas.{apply_step, start_state-set, xor_done}
use Rattle.chacha_core.proofs.apply_plain.Goals as goal

pub whole_blocks-init : goal.whole_blocks-init
unfolding xor_from
whole_blocks-init c = record {
  state = ap (λ (s : List ℕ). slice_set s 12 0) c.start_state-state.ensures;
  done = refl;
}

pub whole_blocks-preserved : goal.whole_blocks-preserved
whole_blocks-preserved c =
    let i = c.whole_blocks.i in
    let key = c.args.key.now in
    let nonce = c.args.nonce.now in
    let old = c.args.text.now in
    let f = keystream_byte key nonce c.args.first in
    let k : ℕ = 64 * i + 64 - 64 * i in
    let next : 64 * i + k ≡ 64 * (i + 1) = omega arith in
    let words = c.block_words.ensures ∙ ap block_words
    (start_state-set key nonce c.whole_blocks.state (c.args.first + i) c.whole_blocks.invariant.state) in
    record {
      state = set-set c.whole_blocks.state 12 (c.args.first + i) 0 ∙ c.whole_blocks.invariant.state;
      done =
          apply_step key nonce c.args.first i k old c.whole_blocks.text c.block_words.result c.xor_block.new.text
          (omega arith) (omega arith)
          c.whole_blocks.invariant.done words c.xor_block.ensures
          ∙ ap (λ (n : ℕ). xor_from f 0 (take n old) ++ drop n old) next;
    }

pub returns-then-text-gt0 : goal.returns-then-text-gt0
unfolding chacha20
returns-then-text-gt0 c =
    let i : ℕ = length c.args.text.now / 64 in
    let at_end : c.whole_blocks.i ≡ i = omega arith in
    let key = c.args.key.now in
    let nonce = c.args.nonce.now in
    let old = c.args.text.now in
    let f = keystream_byte key nonce c.args.first in
    let k : ℕ = length c.whole_blocks.text - 64 * i in
    let done = rw at_end at c.whole_blocks.invariant.done in
    let words =
    c.block_words-then-text-gt0.ensures
    ∙ ap block_words (start_state-set key nonce c.whole_blocks.state
    (c.args.first + i) c.whole_blocks.invariant.state) in
    apply_step key nonce c.args.first i k old c.whole_blocks.text c.block_words-then-text-gt0.result
    c.xor_rest.new.text (omega arith) (omega arith)
    done words c.xor_rest.ensures
    ∙ xor_done f (64 * i + k) old (omega arith)

pub returns-else-text-gt0 : goal.returns-else-text-gt0
unfolding chacha20
returns-else-text-gt0 c =
    c.whole_blocks.invariant.done
    ∙ xor_done (keystream_byte c.args.key.now c.args.nonce.now c.args.first) (64 * c.whole_blocks.i) c.args.text.now
    (omega arith)
