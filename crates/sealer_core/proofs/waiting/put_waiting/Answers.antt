use Rattle.std.proofs.Common.{Err, Ok}
use Rattle.container_core.specs.declared.fault.SealFault.TheVariants.{Write}
use Rattle.sealer_core.specs.Group.{IsKeyed}
use Rattle.sealer_core.specs.Sealing.{operations_of}
use Rattle.sealer_core.proofs.Keyed.{keyed_filled}
use Rattle.sealer_core.proofs.Waits.{however, of_sealing, put_ends, put_fails}
use Rattle.sealer_core.proofs.waiting.put_waiting.Goals as goal

pub fill_bytes-requires : goal.fill_bytes-requires
fill_bytes-requires g c =
    let (plain, is) = c.requires.whole in record { may = rw is (c.begin_waiting.ensures.admits plain) }

pub returns-in-Ok-clause-keyed : goal.returns-in-Ok-clause-keyed
returns-in-Ok-clause-keyed g c =
    let context = c.args.context.now in
    however _ _ _ _ _ _ _ _ _ _ c.begin_waiting.ensures.allowed c.begin_waiting.ensures.fresh c.in-Ok.ensures.rest
    (IsKeyed context.key.now context.ledger.now.terms.range (operations_of c.end_output.new.seats)) (Ok c.args.long) c.end_output.result
    (λ state held n r. keyed_filled context.key.now context.ledger.now.terms.range _ c.args.spent.number n context.options.now.shape.now state held
    (operations_of c.args.seats.now) (operations_of c.end_output.new.seats) c.end_output.result _ r c.requires.waits c.requires.keyed c.end_output.ensures.settled)
    c.end_output.ensures.closed

pub returns-in-Ok-clause-outcome : goal.returns-in-Ok-clause-outcome
returns-in-Ok-clause-outcome g c = of_sealing (Ok c.args.long) c.args.spent.number c.end_output.result (λ is. cc) c.end_output.ensures.outcome

pub returns-in-Ok-clause-put : goal.returns-in-Ok-clause-put
returns-in-Ok-clause-put g c =
    put_ends _ _ _ _ _ _ _ _ _ _ c.begin_waiting.ensures.allowed c.begin_waiting.ensures.fresh c.in-Ok.ensures.rest _ _ _ _ c.in-Ok.ensures.ok
    c.in-Ok.ensures.count c.end_output.ensures.outcome c.end_output.ensures.closed

pub returns-in-Err-clause-keyed : goal.returns-in-Err-clause-keyed
returns-in-Err-clause-keyed g c =
    let context = c.args.context.now in
    however _ _ _ _ _ _ _ _ _ _ c.begin_waiting.ensures.allowed c.begin_waiting.ensures.fresh c.in-Err.ensures.rest
    (IsKeyed context.key.now context.ledger.now.terms.range (operations_of c.end_output-in-Err.new.seats)) (Err Write) c.end_output-in-Err.result
    (λ state held n r. keyed_filled context.key.now context.ledger.now.terms.range _ c.args.spent.number n context.options.now.shape.now state held
    (operations_of c.args.seats.now) (operations_of c.end_output-in-Err.new.seats) c.end_output-in-Err.result _ r c.requires.waits c.requires.keyed
    c.end_output-in-Err.ensures.settled)
    c.end_output-in-Err.ensures.closed

pub returns-in-Err-clause-outcome : goal.returns-in-Err-clause-outcome
returns-in-Err-clause-outcome g c = of_sealing (Err Write) c.args.spent.number c.end_output-in-Err.result (λ is. cc) c.end_output-in-Err.ensures.outcome

pub returns-in-Err-clause-put : goal.returns-in-Err-clause-put
returns-in-Err-clause-put g c =
    put_fails _ _ _ _ _ _ _ _ _ _ c.begin_waiting.ensures.allowed c.begin_waiting.ensures.fresh c.in-Err.ensures.rest _ _ _ _ c.in-Err.ensures.err
    c.in-Err.ensures.count c.end_output-in-Err.ensures.outcome c.end_output-in-Err.ensures.closed
