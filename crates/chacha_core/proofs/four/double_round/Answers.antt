use Rattle.std.proofs.Common.{ap, ◌∙◌, add-one}
use Rattle.chacha_core.specs.ChaCha20.{column_rounds, diagonal_rounds, double_rounds}
use Rattle.chacha_core.proofs.four.double_round.Goals as goal

pub returns : goal.returns
unfolding double_rounds
returns c n first key nonce before j h =
    rw add-one (c.diagonals.ensures j h ∙ ap diagonal_rounds (c.columns-y.ensures j h ∙ ap column_rounds (before j h)))
