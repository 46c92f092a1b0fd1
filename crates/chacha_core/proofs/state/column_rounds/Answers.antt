use Rattle.std.proofs.Common.{ap, arith}
use Rattle.chacha_core.specs.ChaCha20.{column_rounds}
use Rattle.chacha_core.proofs.StateLemmas.{sixteen_words}
use Rattle.chacha_core.proofs.state.column_rounds.Goals as goal

pub returns : goal.returns
unfolding column_rounds
returns c = rw (
  c.quarter_round-x0.ensures,
  c.quarter_round-x1.ensures,
  c.quarter_round-x2.ensures,
  c.quarter_round-x3.ensures,
) (ap column_rounds (sixteen_words c.args.state (omega arith)))
