use Rattle.std.proofs.Common.{length, arith}
use Rattle.std.proofs.lemmas.List.{take_all}
use Rattle.std.proofs.lemmas.Result.{IfErr-weaker}
use Rattle.container_core.proofs.whole.begin.Goals as goal

pub returns-clause-fault : goal.returns-clause-fault
returns-clause-fault c =
    IfErr-weaker c.begin_within.result _ _ (λ fault alike. alike c.args.bytes.now (omega arith) (take_all (length c.args.bytes.now) c.args.bytes.now (omega arith)))
    c.begin_within.ensures.fault
