use Rattle.std.proofs.Common.{lit<}
use Rattle.std.proofs.lemmas.Str.Pattern.{split_after}
use Rattle.journal_core.proofs.line.word_then.Goals as goal

pub returns-clause-complete : goal.returns-clause-complete
returns-clause-complete c = λ word rest spaceless is. split_after 32 c.args.text.now word rest _ c.split_once.ensures.cases (lit< tt) is spaceless
