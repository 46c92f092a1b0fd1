use Rattle.std.proofs.Common.{rules, inl}
use Rattle.command_core.proofs.Telling.{untold, broken, told_more}
use Rattle.command_core.proofs.commands.tell.Goals as goal

pub returns-then-status-eq-UNTOLD : goal.returns-then-status-eq-UNTOLD
returns-then-status-eq-UNTOLD g c = λ told first count t. untold _ told _ _ _ _ _ t

pub returns-in_default : goal.returns-in_default
returns-in_default g c = λ told first count t. untold _ told _ _ _ _ _ t

pub returns-in-Ok-print : goal.returns-in-Ok-print
returns-in-Ok-print g c = λ told first count t. told_more _ _ told _ _ _ _ _ _ _ c.if-status-eq-UNTOLD.false
    (search rules) (search rules) (search rules) t

pub returns : goal.returns
returns g c = λ told first count t. broken _ told _ _ _ _ _ _ _ c.if-status-eq-UNTOLD.false (search rules)
    (search rules) (search rules) t

pub print-requires : goal.print-requires
print-requires g c = record { text = inl (c.args.name.now, c.args.outcome, search rules) }
