use Rattle.chacha_core.specs.ChaCha20.{quarter_round}
use Rattle.chacha_core.proofs.state.quarter_round.Goals as goal

pub returns : goal.returns
unfolding quarter_round
returns c =
    rw (c.rotate_left-b-2.ensures, c.rotate_left-d-2.ensures, c.rotate_left-b.ensures, c.rotate_left-d.ensures)
