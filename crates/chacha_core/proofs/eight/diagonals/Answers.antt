use Rattle.std.proofs.Common.{ap}
use Rattle.chacha_core.specs.ChaCha20.{column_rounds, diagonal_rounds}
use Rattle.chacha_core.proofs.LaneLemmas.{turned_back}
use Rattle.chacha_core.proofs.eight.diagonals.Goals as goal

pub returns : goal.returns
unfolding column_rounds diagonal_rounds
returns c j h = ap turned_back (c.columns-y.ensures j h)
