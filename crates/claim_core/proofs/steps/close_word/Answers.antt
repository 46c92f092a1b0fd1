use Rattle.std.proofs.Common.{arith}
use Rattle.claim_core.proofs.Keeps.{closes}
use Rattle.claim_core.proofs.steps.close_word.Goals as goal

pub free-requires : goal.free-requires
free-requires c = λ k at. let n = c.close_with.ensures.counts in let t = c.requires.table in absurd (omega arith)

pub returns : goal.returns
returns c = λ x. closes _ _ _ _ _ c.close_with.ensures.values.2 c.requires.all c.requires.ended x
