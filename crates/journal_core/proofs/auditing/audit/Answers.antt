use Rattle.std.proofs.Common.{IfSome, subst, ◌∙◌}
use Rattle.journal_core.specs.declared.verdict.Verdict.TheVariants.{Legal as IsLegal}
use Rattle.journal_core.specs.History.{tally_of}
use Rattle.journal_core.specs.Text.{journal_text}
use Rattle.journal_core.specs.Verdict.{IsVerdict}
use Rattle.io_core.specs.Streams.{LacksSome}
use Rattle.journal_core.proofs.Inputs.{not_whole}
use Rattle.journal_core.proofs.Unique.{same_verdict, legal_verdict}
use Rattle.journal_core.proofs.auditing.audit.Goals as goal

pub returns-in-Ok-write_all-clause-round_trip : goal.returns-in-Ok-write_all-clause-round_trip
returns-in-Ok-write_all-clause-round_trip g c = λ terms history lawful legal is.
    same_verdict (journal_text terms history) _ (IsLegal (tally_of history)) (subst (λ left. IfSome left (λ input. IsVerdict input c.in_ok-verdict.verdict)) is c.in_ok-verdict.ensures.verdict) (legal_verdict terms history lawful legal)

pub returns-clause-not_whole : goal.returns-clause-not_whole
returns-clause-not_whole g c = λ _.
    not_whole (g.R.Source.left c.args.reader.now) (g.W.Sink.taken c.args.writer.now) (g.W.Sink.taken c.write_all.new.sink) c.in_ok-verdict.verdict
    c.in_ok-verdict.ensures.verdict
    (subst (λ l. LacksSome (g.W.Sink.taken c.args.writer.now) (g.W.Sink.taken c.write_all.new.sink) l) (c.as_bytes.ensures.value ∙ c.in-Ok.ensures.ok) c.in-Err.ensures.short)
