use Rattle.std.specs.Fmt.{decimal}
use Rattle.journal_core.proofs.Numbers.{no_space}
use Rattle.journal_core.proofs.line.number_then.Goals as goal

pub returns-in_err-word-clause-complete : goal.returns-in_err-word-clause-complete
returns-in_err-word-clause-complete c = λ n rest small is. absurd (c.in_err-word.ensures.complete (decimal n) rest (no_space n small) is)

pub returns-in_err-n-clause-complete : goal.returns-in_err-n-clause-complete
returns-in_err-n-clause-complete c = λ n rest small is.
    let words = c.in_ok-word.ensures.complete (decimal n) rest (no_space n small) is in
    let none = c.in_err-n.ensures.complete n small words.0 in absurd (cc)

pub returns-clause-complete : goal.returns-clause-complete
returns-clause-complete c = λ n rest small is.
    let words = c.in_ok-word.ensures.complete (decimal n) rest (no_space n small) is in
    let same = c.in_ok-n.ensures.complete n small words.0 in ((cc), words.1)
