use Rattle.std.proofs.Common.{arith}
use Rattle.aead_core.proofs.seal_strip.Goals as goal

pub overflow_add-at : goal.overflow_add-at
overflow_add-at c = omega (arith, c.requires)
