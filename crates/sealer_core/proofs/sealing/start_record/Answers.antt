use Rattle.sealer_core.proofs.Started.{starts}
use Rattle.sealer_core.proofs.sealing.start_record.Goals as goal

pub returns-clause-started : goal.returns-clause-started
returns-clause-started g c =
    starts c.args.key.now c.args.ledger.now.terms.range _ _ _ c.no_number_without_a_key.ensures.none
    (g.met.F.Outputs.sound c.args.outputs.now) c.requires.unstarted c.start.ensures.started
