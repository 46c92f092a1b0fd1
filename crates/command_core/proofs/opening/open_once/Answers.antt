use Rattle.std.proofs.Common.{[], Some, ap, sym, ◌∙◌}
use Rattle.command_core.specs.declared.line.FileOutcome.TheVariants.{Failed}
use Rattle.command_core.specs.Work.{reading_failed}
use Rattle.io_core.specs.Streams.{counted}
use Rattle.command_core.proofs.Puts.{read_by_opening}
use Rattle.command_core.proofs.Files.{fault_fits, if_known, refused_read, restored_once, unfilled_once, was_read}
use Rattle.command_core.proofs.opening.open_once.Goals as goal

pub returns-in-Err-clause-adds : goal.returns-in-Err-clause-adds
returns-in-Err-clause-adds g c = λ name before tells. refused_read _ _ _ _ _ _ _ _ _ c.in-Err.ensures.exact tells

pub put_plain-requires-clause-read : goal.put_plain-requires-clause-read
put_plain-requires-clause-read g c =
    let (name, o) = c.requires.open in
    let (before, tells) = o.read in was_read name _ _ _ _ _ before _ c.in-Ok.ensures.plaintext tells

pub returns-in-Ok-put_plain-clause-adds : goal.returns-in-Ok-put_plain-clause-adds
returns-in-Ok-put_plain-clause-adds g c = λ name before tells.
    restored_once _ _ _ _ _ _ _ _ _ _ _ c.in-Ok.ensures.plaintext c.len.ensures c.in-Ok-put_plain.ensures.put tells

pub returns-clause-fits : goal.returns-clause-fits
returns-clause-fits g c = λ to name named. fault_fits _ _ _ _ c.fault_of_output.ensures named

pub returns-clause-adds : goal.returns-clause-adds
returns-clause-adds g c = λ name before tells. unfilled_once _ _ _ _ _ _ _ _ _ _ _ _ c.fault_of_output.ensures c.in-Ok.ensures.plaintext
    c.in-Err-put_plain.ensures.put tells

pub returns-in-Err-clause-read : goal.returns-in-Err-clause-read
returns-in-Err-clause-read g c = if_known _ (c.read_labelled.ensures.read
    ∙ ap (λ b. counted b (g.F.Reader.Source.failures c.args.reader.now))
    (read_by_opening (Some []) [] _ c.in-Err.fault c.in-Err.is (c.in-Err.ensures.opening (Some []) [] tt)))

pub returns-clause-read : goal.returns-clause-read
returns-clause-read g c = if_known _ (c.in-Ok.ensures.read ∙ ap (λ b. counted b (g.F.Reader.Source.failures c.args.reader.now))
    (sym (ap (λ f. reading_failed (Failed f)) c.fault_of_output.ensures ∙ c.in-Err-put_plain.ensures.read)))
