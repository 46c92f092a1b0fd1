use Rattle.std.proofs.Common.{ap, false, refl, sym, ◌∙◌, true}
use Rattle.io_core.specs.Streams.{counted}
use Rattle.command_core.specs.declared.line.FileOutcome.TheVariants.{Failed}
use Rattle.command_core.specs.Work.{reading_failed}
use Rattle.command_core.proofs.Puts.{read_by_verifying}
use Rattle.command_core.proofs.Files.{count_back, fault_fits, headed_of, if_known, not_repeated, refused_read, restored_twice, unfilled_twice, was_again}
use Rattle.command_core.proofs.opening.open_again.Goals as goal

pub returns-in-Err-clause-adds : goal.returns-in-Err-clause-adds
returns-in-Err-clause-adds g c = λ before tells. refused_read _ _ _ _ _ _ _ _ _ c.in-Err.ensures.exact tells

pub returns-in-Err-again-clause-adds : goal.returns-in-Err-again-clause-adds
returns-in-Err-again-clause-adds g c = λ before tells. not_repeated _ _ _ _ _ _ _ _ _ _
    (headed_of _ _ _ _ _ _ c.in-Ok.ensures.header c.in-Ok.ensures.good) c.in-Err-again.ensures.refused tells

pub put_again-requires-clause-read : goal.put_again-requires-clause-read
put_again-requires-clause-read g c κs within =
    was_again _ _ _ _ _ _ _ _ _ _ (headed_of _ _ _ _ _ _ c.in-Ok.ensures.header c.in-Ok.ensures.good)
    c.in-Ok-again.ensures.again c.requires.open.read.1

pub returns-in-Err-clause-read : goal.returns-in-Err-clause-read
returns-in-Err-clause-read g c = if_known _ (c.check_labelled.ensures.read
    ∙ ap (λ b. counted b (g.F.Reader.Source.failures c.args.reader.now))
    (read_by_verifying _ c.in-Err.fault c.in-Err.is (c.in-Err.ensures.verifying true)))

pub returns-in-Ok-put_again-clause-adds : goal.returns-in-Ok-put_again-clause-adds
returns-in-Ok-put_again-clause-adds g c = λ before tells.
    restored_twice _ _ _ _ _ _ _ _ _ _ _ _ _ (headed_of _ _ _ _ _ _ c.in-Ok.ensures.header c.in-Ok.ensures.good)
    c.in-Ok.ensures.label c.in-Ok-put_again.ensures.put c.in-Ok-again.ensures.again tells

pub returns-in-Ok-put_again-clause-read : goal.returns-in-Ok-put_again-clause-read
returns-in-Ok-put_again-clause-read g c = count_back _ false _ _ _ _ _ _ _ c.in-Ok-put_again.ensures.put c.in-Ok-again.ensures.count
    c.in-Ok-put_again.ensures.read c.in-Ok.ensures.read refl

pub returns-in-Err-put_again-clause-fits : goal.returns-in-Err-put_again-clause-fits
returns-in-Err-put_again-clause-fits g c = λ to named. fault_fits _ _ _ _ c.fault_of_output.ensures named

pub returns-in-Err-put_again-clause-adds : goal.returns-in-Err-put_again-clause-adds
returns-in-Err-put_again-clause-adds g c = λ before tells. unfilled_twice _ _ _ _ _ _ _ _ _ _ _ _ _ _ c.fault_of_output.ensures
    (headed_of _ _ _ _ _ _ c.in-Ok.ensures.header c.in-Ok.ensures.good) c.in-Err-put_again.ensures.put c.in-Ok-again.ensures.again tells

pub returns-in-Err-put_again-clause-read : goal.returns-in-Err-put_again-clause-read
returns-in-Err-put_again-clause-read g c = count_back _ _ _ _ _ _ _ _ _ c.in-Err-put_again.ensures.put c.in-Ok-again.ensures.count
    c.in-Err-put_again.ensures.read c.in-Ok.ensures.read (sym (ap (λ f. reading_failed (Failed f)) c.fault_of_output.ensures))
