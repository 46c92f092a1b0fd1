use Rattle.journal_core.proofs.Replies.{one_reply, some_reply}
use Rattle.journal_core.proofs.laws.one_reply_fits.Goals as goal

pub returns-clause-one : goal.returns-clause-one
returns-clause-one c = one_reply

pub returns-clause-some : goal.returns-clause-some
returns-clause-some c = some_reply
