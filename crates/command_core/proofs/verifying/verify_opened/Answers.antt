use Rattle.std.proofs.Common.{true}
use Rattle.command_core.proofs.Puts.{read_by_verifying}
use Rattle.command_core.proofs.Files.{checked_good, checked_shown, unchecked}
use Rattle.command_core.proofs.verifying.verify_opened.Goals as goal

pub returns-in-Ok-clause-adds : goal.returns-in-Ok-clause-adds
returns-in-Ok-clause-adds g c = λ before tells. checked_shown _ _ _ _ _ _ _ _ _ _ _ _ _ c.in-Ok.ensures.good
    c.in-Ok.ensures.header c.of.ensures c.requires.open.fresh c.in-Ok.ensures.read c.close.ensures.closed tells

pub returns-in-Ok-2-clause-adds : goal.returns-in-Ok-2-clause-adds
returns-in-Ok-2-clause-adds g c = λ before tells. checked_good _ _ _ _ _ _ _ _ _ _ _ c.in-Ok.ensures.good
    c.requires.open.fresh c.in-Ok.ensures.read c.close.ensures.closed tells

pub returns-in-Err-clause-adds : goal.returns-in-Err-clause-adds
returns-in-Err-clause-adds g c = λ before tells. unchecked _ _ _ _ _ _ _ _ _ _ _ _ c.in-Err.ensures.exact
    (read_by_verifying _ c.in-Err.fault c.in-Err.is (c.in-Err.ensures.verifying true)) c.requires.open.fresh
    c.check_labelled-checked.ensures.read c.close.ensures.closed tells
