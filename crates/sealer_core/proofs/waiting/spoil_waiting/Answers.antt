use Rattle.std.proofs.Common.{Err, refl}
use Rattle.std.proofs.KnownBytes.{Keeps-refl}
use Rattle.container_core.specs.declared.fault.SealFault.TheVariants.{OutOfMemory}
use Rattle.sealer_core.specs.Group.{IsKeyed}
use Rattle.sealer_core.specs.Sealing.{operations_of}
use Rattle.sealer_core.proofs.Keyed.{keyed_filled}
use Rattle.sealer_core.proofs.Waits.{however, spoil_ends, spoil_outcome}
use Rattle.sealer_core.proofs.waiting.spoil_waiting.Goals as goal

pub returns-clause-keyed : goal.returns-clause-keyed
returns-clause-keyed g c =
    let context = c.args.context.now in
    however _ _ _ _ _ _ _ _ _ _ c.begin_waiting.ensures.allowed c.begin_waiting.ensures.fresh refl
    (IsKeyed context.key.now context.ledger.now.terms.range (operations_of c.end_output.new.seats)) (Err OutOfMemory) c.end_output.result
    (λ state held n r. keyed_filled context.key.now context.ledger.now.terms.range _ c.args.spent.number n context.options.now.shape.now state held
    (operations_of c.args.seats.now) (operations_of c.end_output.new.seats) c.end_output.result _ r c.requires.waits c.requires.keyed c.end_output.ensures.settled)
    c.end_output.ensures.closed

pub returns-clause-outcome : goal.returns-clause-outcome
returns-clause-outcome g c = spoil_outcome OutOfMemory c.args.spent.number c.end_output.result c.end_output.ensures.outcome

pub returns-clause-given_up : goal.returns-clause-given_up
returns-clause-given_up g c =
    spoil_ends _ _ _ _ _ _ _ _ _ _ c.begin_waiting.ensures.allowed c.begin_waiting.ensures.fresh refl OutOfMemory c.args.spent.number c.end_output.result (Keeps-refl _) refl
    c.end_output.ensures.outcome c.end_output.ensures.closed
