use Rattle.std.proofs.Common.{◌≡◌, ◌*◌, ◌++◌, take, drop, slice_set}
use Rattle.chacha_core.specs.ChaCha20.{keystream_byte, xor_from, start_state}
use Rattle.chacha_core.proofs.apply_plain.Given as goal

abbrev pub invariant-whole_blocks : goal.invariant-whole_blocks
invariant-whole_blocks l = record {
  state : slice_set l.state 12 0 ≡ start_state l.key 0 l.nonce;
  done : l.text ≡ xor_from (keystream_byte l.key l.nonce l.first) 0 (take (64 * l.i) l.fn.text) ++ drop
      (64 * l.i) l.fn.text;
}
