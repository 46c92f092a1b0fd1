use Rattle.std.proofs.Common.{rules}
use Rattle.sealing_core.proofs.Moves.{puts}
use Rattle.sealing_core.proofs.line.put_piece.Goals as goal

pub try_push_as-requires-clause-rule : goal.try_push_as-requires-clause-rule
try_push_as-requires-clause-rule g c = puts _ _ _ _ _ _ (search rules) (search rules)
