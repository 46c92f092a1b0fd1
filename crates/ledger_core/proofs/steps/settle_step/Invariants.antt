use Rattle.ledger_core.proofs.steps.settle_step.Given as goal

abbrev pub ghosts-seal_step : goal.ghosts-seal_step
ghosts-seal_step a = record { number = a.number }

abbrev pub ghosts-waste_step : goal.ghosts-waste_step
ghosts-waste_step a = record { number = a.number }
