use Rattle.std.proofs.Common.{rules, inl, inr}
use Rattle.sealer_core.specs.Complaints.{complaint}
use Rattle.sealer_core.proofs.Complaining.{all_of, is_complaint, nothing_of}
use Rattle.sealer_core.proofs.trouble.complain.Goals as goal

pub print-requires : goal.print-requires
print-requires g c = record { text = inr (inl (complaint c.args.fault, is_complaint c.args.fault, search rules)) }

pub returns-in-Ok-print : goal.returns-in-Ok-print
returns-in-Ok-print g c = (complaint c.args.fault, is_complaint c.args.fault, all_of _ _ _ (search rules))

pub returns : goal.returns
returns g c = (complaint c.args.fault, is_complaint c.args.fault, search rules)

pub returns-in_default : goal.returns-in_default
returns-in_default g c = (complaint c.args.fault, is_complaint c.args.fault, nothing_of _ _)
