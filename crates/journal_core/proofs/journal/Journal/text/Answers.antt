use Rattle.std.proofs.Common.{◌∙◌, ap}
use Rattle.journal_core.specs.Journal.{JournalView}
use Rattle.journal_core.proofs.Texts.{text_step, text_whole}
use Rattle.journal_core.proofs.journal.Journal.text.Goals as goal

pub loop-entry-preserved : goal.loop-entry-preserved
loop-entry-preserved c = text_step c.args.self.now.terms _ _ _ _ _ c.loop-entry-test.true c.loop-entry.invariant c.in_ok-push_line.ensures

pub returns : goal.returns
returns c =
    text_whole c.args.self.now.terms c.deref-entry-items.result.now c.args.self.now.history _ _ c.loop-entry-test.false c.loop-entry.invariant
    (c.deref-entry-items.ensures.value ∙ ap (λ (j : JournalView). j.history) c.self.view_is)
