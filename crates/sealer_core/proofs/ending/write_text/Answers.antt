use Rattle.std.proofs.Common.{rules, inr}
use Rattle.sealer_core.proofs.Journals.{journal_lacks}
use Rattle.sealer_core.proofs.ending.write_text.Goals as goal

pub print-requires : goal.print-requires
print-requires g c = record { text = inr (inr (c.args.journal.now.terms, c.args.journal.now.history, search rules)) }

pub returns-in_default-clause-short : goal.returns-in_default-clause-short
returns-in_default-clause-short g c = journal_lacks _ _ _

pub returns-clause-ok : goal.returns-clause-ok
returns-clause-ok _ _ = tt
