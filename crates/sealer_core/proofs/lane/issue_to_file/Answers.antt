use Rattle.sealer_core.proofs.lane.issue_to_file.Goals as goal

pub returns-in-Err-clause-refused : goal.returns-in-Err-clause-refused
returns-in-Err-clause-refused c = (c.in-Err.fault, c.fault_of.ensures.fault, c.in-Err.ensures.refused)
