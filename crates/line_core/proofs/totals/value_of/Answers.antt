use Rattle.std.proofs.Common.{sym, ◌∙◌}
use Rattle.line_core.proofs.Numbers.{value_of-number, value_of-other}
use Rattle.line_core.proofs.totals.value_of.Goals as goal

pub returns-in-Ok : goal.returns-in-Ok
returns-in-Ok c =
    let parses = c.in-Ok.ensures.value.0 in
    parses.1 ∙ sym (value_of-number c.args.digits.now parses.0)

pub returns-in-Err : goal.returns-in-Err
returns-in-Err c = sym (value_of-other c.args.digits.now c.in-Err.ensures.value.0)
