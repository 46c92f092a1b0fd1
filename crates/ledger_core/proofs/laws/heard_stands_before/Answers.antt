use Rattle.std.proofs.Common.{◌∷◌, [], ◌++◌, ◌∙◌, List, ap}
use Rattle.journal_core.specs.declared.entry.Entry.{Entry}
use Rattle.journal_core.specs.History.{entry}
use Rattle.journal_core.proofs.Histories.{begins_more}
use Rattle.ledger_core.specs.Shared.{SeatView}
use Rattle.ledger_core.proofs.laws.heard_stands_before.Goals as goal

pub returns : goal.returns
returns c = λ shown old new event heard does.
    let b = begins_more shown old.seen does.0 heard in
    (b.0, ap (λ (v : SeatView). v.seen) does.1 ∙ ap (λ (l : List Entry). l ++ entry old.number event ∷ []) b.1)
