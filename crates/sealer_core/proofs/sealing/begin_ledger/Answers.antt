use Rattle.sealer_core.proofs.sealing.begin_ledger.Goals as goal

pub returns-in-Ok-open-clause-reserved : goal.returns-in-Ok-open-clause-reserved
returns-in-Ok-open-clause-reserved g c = rw (c.in-Ok-open.ensures.opened) c.in-Ok.ensures.reserved
