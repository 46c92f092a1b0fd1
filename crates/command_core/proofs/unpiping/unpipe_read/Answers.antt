use Rattle.std.proofs.Common.{ap, true, sym, ◌∙◌}
use Rattle.io_core.specs.Streams.{counted}
use Rattle.command_core.proofs.Puts.{may_fill_again, read_by_verifying}
use Rattle.command_core.proofs.Files.{headed_of, if_known, was_again}
use Rattle.command_core.proofs.Unpipings.{alone_again, kept_again, lost_unpiped, may_stream, new_still, opened_unpiped, refused_unpiped, stopped_unpiped}
use Rattle.command_core.proofs.unpiping.unpipe_read.Goals as goal

pub returns-in-Err-clause-run : goal.returns-in-Err-clause-run
returns-in-Err-clause-run g c = λ before tells.
    refused_unpiped _ _ _ _ _ _ _ _ _ _ _ (c.in-Err.ensures.verifying true) c.in-Err.ensures.exact tells

pub returns-in-Err-clause-read : goal.returns-in-Err-clause-read
returns-in-Err-clause-read g c = if_known _ (c.check_labelled.ensures.read
    ∙ ap (λ b. counted b (g.F.Reader.Source.failures c.args.reader.now))
    (read_by_verifying _ c.in-Err.fault c.in-Err.is (c.in-Err.ensures.verifying true)))

pub returns-in-Err-again-clause-run : goal.returns-in-Err-again-clause-run
returns-in-Err-again-clause-run g c = λ before tells. rw (c.in-Err-again.ensures.taken, c.in-Err-again.ensures.failures)
    (lost_unpiped _ _ _ _ _ _ _ _ _ _ _ _ (headed_of _ _ _ _ _ _ c.in-Ok.ensures.header c.in-Ok.ensures.good)
    c.in-Err-again.ensures.refused tells)

pub allow_checked-requires : goal.allow_checked-requires
allow_checked-requires g c = record {
  may = may_stream _ _ _ _ _ (new_still _ _ _ _ _ c.requires.new c.in-Ok-again.ensures.again)
      (was_again _ _ _ _ _ _ _ _ _ _ (headed_of _ _ _ _ _ _ c.in-Ok.ensures.header c.in-Ok.ensures.good)
      c.in-Ok-again.ensures.again c.requires.open.read.1);
}

pub fill_again-requires-clause-may : goal.fill_again-requires-clause-may
fill_again-requires-clause-may g c κs within = may_fill_again _ _ _ _ _ _ _ _ _
    (may_stream _ _ _ _ _ (new_still _ _ _ _ _ c.requires.new c.in-Ok-again.ensures.again)
    (was_again _ _ _ _ _ _ _ _ _ _ (headed_of _ _ _ _ _ _ c.in-Ok.ensures.header c.in-Ok.ensures.good)
    c.in-Ok-again.ensures.again c.requires.open.read.1)) c.allow_checked.ensures.allowed c.allow_checked.ensures.fresh

pub returns-in-Ok-fill_again-clause-alone : goal.returns-in-Ok-fill_again-clause-alone
returns-in-Ok-fill_again-clause-alone g c = rw c.in-Ok-fill_again.ensures.rest
    (alone_again _ _ _ _ _ _ (new_still _ _ _ _ _ c.requires.new c.in-Ok-again.ensures.again) c.allow_checked.ensures.allowed)

pub returns-in-Err-fill_again-clause-alone : goal.returns-in-Err-fill_again-clause-alone
returns-in-Err-fill_again-clause-alone g c = rw c.in-Err-fill_again.ensures.rest
    (alone_again _ _ _ _ _ _ (new_still _ _ _ _ _ c.requires.new c.in-Ok-again.ensures.again) c.allow_checked.ensures.allowed)

pub returns-in-Ok-fill_again-clause-run : goal.returns-in-Ok-fill_again-clause-run
returns-in-Ok-fill_again-clause-run g c = λ before tells.
    let kept = kept_again _ _ _ _ _ _ _ _ _ _ _ _ _ _ c.in-Ok-again.ensures.taken c.in-Ok-again.ensures.failures c.requires.fresh
    c.in-Ok-again.ensures.again c.allow_checked.ensures.allowed c.allow_checked.ensures.fresh c.allow_checked.ensures.kept in
    rw (c.in-Ok-fill_again.ensures.rest, sym kept.0, sym kept.1)
    (opened_unpiped _ _ _ _ _ _ _ _ _ _ _ _ _ _ _ _ _ _ _ _ (headed_of _ _ _ _ _ _ c.in-Ok.ensures.header c.in-Ok.ensures.good)
    c.in-Ok.ensures.label c.allow_checked.ensures.allowed c.in-Ok-fill_again.ensures.written c.in-Ok-again.ensures.again tells)

pub returns-in-Err-fill_again-clause-run : goal.returns-in-Err-fill_again-clause-run
returns-in-Err-fill_again-clause-run g c = λ before tells.
    let kept = kept_again _ _ _ _ _ _ _ _ _ _ _ _ _ _ c.in-Ok-again.ensures.taken c.in-Ok-again.ensures.failures c.requires.fresh
    c.in-Ok-again.ensures.again c.allow_checked.ensures.allowed c.allow_checked.ensures.fresh c.allow_checked.ensures.kept in
    rw (c.in-Err-fill_again.ensures.rest, c.fault_again.ensures, sym kept.0, sym kept.1)
    (stopped_unpiped _ _ _ _ _ _ _ _ _ _ _ _ _ _ _ _ _ _ _ _ (headed_of _ _ _ _ _ _ c.in-Ok.ensures.header c.in-Ok.ensures.good)
    c.allow_checked.ensures.allowed c.in-Err-fill_again.ensures.written c.in-Ok-again.ensures.again tells)
