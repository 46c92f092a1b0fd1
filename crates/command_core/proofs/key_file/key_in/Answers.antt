use Rattle.command_core.proofs.KeyFiles.{too_few}
use Rattle.command_core.proofs.key_file.key_in.Goals as goal

pub returns-then-bytes-lt-DIGITS-clause-none : goal.returns-then-bytes-lt-DIGITS-clause-none
returns-then-bytes-lt-DIGITS-clause-none c = λ key text. too_few _ key c.if-bytes-lt-DIGITS.true text
