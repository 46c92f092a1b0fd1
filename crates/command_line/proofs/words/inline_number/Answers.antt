use Rattle.std.proofs.Common.{None, Some, ap, sym, ◌∙◌}
use Rattle.command_line.specs.Words.{stands_for}
use Rattle.command_line.proofs.Written.{value_within}
use Rattle.command_line.proofs.words.inline_number.Goals as goal

pub returns-in_default-clause-number : goal.returns-in_default-clause-number
returns-in_default-clause-number c =
    sym (value_within c.args.processors c.args.most c.args.word.now None c.in_default.ensures.cases)

pub returns-in-Some-stands_for-clause-number : goal.returns-in-Some-stands_for-clause-number
returns-in-Some-stands_for-clause-number c =
    let parts = value_within c.args.processors c.args.most c.args.word.now (Some (c.in-Some.name, c.in-Some.value)) c.in-Some.ensures.cases in
    c.in-Some-stands_for.ensures ∙ ap (λ takes. stands_for c.args.processors takes c.in-Some.value.now) c.shorthand_of.ensures ∙ sym parts.0

pub returns-in-None-clause-number : goal.returns-in-None-clause-number
returns-in-None-clause-number c =
    let parts = value_within c.args.processors c.args.most c.args.word.now (Some (c.in-Some.name, c.in-Some.value)) c.in-Some.ensures.cases in
    c.in-None.ensures ∙ ap (λ takes. stands_for c.args.processors takes c.in-Some.value.now) c.shorthand_of.ensures ∙ sym parts.0
