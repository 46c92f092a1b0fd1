use Rattle.std.proofs.Common.{rules, [], OnErr, subst, sym, ap, ap₂, ◌∙◌}
use Rattle.io_core.specs.Streams.{counted}
use Rattle.std.proofs.lemmas.Result.{IfOk-at_ok, IfErr-at_err}
use Rattle.opening_core.proofs.TwiceLemmas.{again-front, again-other, again-stopped, again-written, found-other, found-same, may-behind}
use Rattle.opening_core.specs.Engine.{open_read_failed, open_write_failed}
use Rattle.opening_core.specs.Windows.{HasBegun, HasSent}
use Rattle.opening_core.proofs.TakingLemmas.{no_write-unwritten}
use Rattle.opening_core.proofs.twice.write_again.Goals as goal

pub returns-then-ne : goal.returns-then-ne
returns-then-ne g c =
    again-other c.args.key.now c.in-Ok.again c.args.header.now c.args.max_bytes _ _ _ _ _ _ c.in-Ok.ensures.front c.in-Ok.ensures.header
    (found-other c.bytes.result.now c.bytes-2.result.now c.in-Ok.again c.args.header.now c.bytes.ensures.bytes c.bytes-2.ensures.bytes (search rules))
    c.in-Ok.ensures.count

pub returns-in-Ok-default : goal.returns-in-Ok-default
returns-in-Ok-default g c =
    again-written c.args.key.now c.in-Ok.again c.args.header.now c.args.max_bytes c.in-Ok-default.n _ _ _ _ _ _ _ _ _
    (found-same c.bytes.result.now c.bytes-2.result.now c.in-Ok.again c.args.header.now c.bytes.ensures.bytes c.bytes-2.ensures.bytes (search rules))
    c.in-Ok.ensures.front c.in-Ok.ensures.header
    (IfOk-at_ok _ c.in-Ok-default.is-0 c.write_body.ensures.written)
    (c.write_body.ensures.read ∙ ap (λ r. counted (open_read_failed r) (g.R.Source.failures c.open_front.new.reader)) c.in-Ok-default.is-0 ∙ c.in-Ok.ensures.count)
    (c.write_body.ensures.write ∙ ap (λ r. counted (open_write_failed r) (g.W.Output.failures c.args.writer)) c.in-Ok-default.is-0)

pub returns-in-Err-default : goal.returns-in-Err-default
returns-in-Err-default g c =
    again-stopped c.args.key.now c.in-Ok.again c.args.header.now c.args.max_bytes c.in-Err-default.fault c.stop_at-in-Err-default.result _ _ _ _ _ _ _ _ _
    (found-same c.bytes.result.now c.bytes-2.result.now c.in-Ok.again c.args.header.now c.bytes.ensures.bytes c.bytes-2.ensures.bytes (search rules))
    c.in-Ok.ensures.front c.in-Ok.ensures.header (subst (λ r. OnErr r (HasBegun c.args.key.now c.in-Ok.again c.args.max_bytes (g.R.Source.left c.open_front.new.reader) (g.W.Output.taken c.args.writer) (g.W.Output.taken c.write_body.result.1))) c.in-Err-default.is-0 c.write_body.ensures.begun)
    (subst (λ r. OnErr r (HasSent c.args.key.now c.in-Ok.again [] (g.R.Source.left c.open_front.new.reader) (g.W.Output.taken c.args.writer) (g.W.Output.taken c.write_body.result.1))) c.in-Err-default.is-0 c.write_body.ensures.sent)
    (IfErr-at_err _ c.in-Err-default.is-0 c.write_body.ensures.refused)
    c.stop_at-in-Err-default.ensures.changed c.stop_at-in-Err-default.ensures.broken c.stop_at-in-Err-default.ensures.checked_before
    (c.write_body.ensures.read ∙ ap (λ r. counted (open_read_failed r) (g.R.Source.failures c.open_front.new.reader)) c.in-Err-default.is-0
    ∙ ap₂ counted (sym c.stop_at-in-Err-default.ensures.read) c.in-Ok.ensures.count)
    (c.write_body.ensures.write ∙ ap (λ r. counted (open_write_failed r) (g.W.Output.failures c.args.writer)) c.in-Err-default.is-0
    ∙ ap (λ b. counted b (g.W.Output.failures c.args.writer)) (sym c.stop_at-in-Err-default.ensures.write))

pub write_body-requires-clause-may : goal.write_body-requires-clause-may
write_body-requires-clause-may g c κs within =
    may-behind c.args.key.now c.in-Ok.again c.args.header.now c.args.max_bytes _ _ _ _
    (found-same c.bytes.result.now c.bytes-2.result.now c.in-Ok.again c.args.header.now c.bytes.ensures.bytes c.bytes-2.ensures.bytes (search rules))
    c.requires.may c.in-Ok.ensures.header

pub returns-in-Err : goal.returns-in-Err
returns-in-Err g c =
    again-front c.args.key.now c.args.header.now c.args.max_bytes c.in-Err.fault c.stop_at.result _ _ _ _ _ _ c.in-Err.ensures.reads.fault
    c.stop_at.ensures.changed c.stop_at.ensures.broken c.stop_at.ensures.checked_before
    (c.in-Err.ensures.reads.read ∙ ap (λ b. counted b (g.R.Source.failures c.args.reader.now)) (sym c.stop_at.ensures.read))
    (c.stop_at.ensures.write ∙ no_write-unwritten c.in-Err.fault c.in-Err.ensures.no_write)
