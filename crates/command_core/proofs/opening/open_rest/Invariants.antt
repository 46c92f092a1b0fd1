-- The files so far were opened, and nothing is in hand.
use Rattle.std.proofs.Common.{Option}
use Rattle.folder_core.specs.Record.{RunRecord}
use Rattle.folder_core.specs.Changes.{IsIdle}
use Rattle.command_core.specs.Files.{HaveOpened}
use Rattle.command_core.specs.Turns.{Printed, printed}
use Rattle.command_core.proofs.opening.open_rest.Given as goal

abbrev pub invariant-files : goal.invariant-files
invariant-files g l = IsIdle (g.F.Outputs.rest l.folder) × ((old : Printed) (before : Option RunRecord)
    → HaveOpened l.context.key.now l.context.options.now l.next l.initial.status old
    (printed (g.L.Report.taken l.initial.lines) (g.L.Report.failures l.initial.lines)) before (g.F.Outputs.rest l.initial.folder)
    → HaveOpened l.context.key.now l.context.options.now l.number l.status old
    (printed (g.L.Report.taken l.lines) (g.L.Report.failures l.lines)) before (g.F.Outputs.rest l.folder))
