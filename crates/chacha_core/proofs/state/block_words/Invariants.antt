use Rattle.std.proofs.Common.{◌≡◌}
use Rattle.chacha_core.specs.ChaCha20.{double_rounds}
use Rattle.chacha_core.proofs.state.block_words.Given as goal

abbrev pub invariant-rounds : goal.invariant-rounds
invariant-rounds l = l.words ≡ double_rounds l._round l.state
