use Rattle.std.proofs.Common.{arith}
use Rattle.journal_core.proofs.Reading.{verdict_rest, verdict_wrong}
use Rattle.journal_core.proofs.progress.Progress.verdict.Goals as goal

pub returns-in-Sound : goal.returns-in-Sound
returns-in-Sound c = λ bytes read. verdict_rest c.args.self.now _ bytes c.in-Sound.is c.if-self-gt0.true (omega (arith, c.args.self.now.in_range)) read

pub returns-in-Wrong : goal.returns-in-Wrong
returns-in-Wrong c = λ bytes read. verdict_wrong c.args.self.now _ bytes c.in-Wrong.is read
