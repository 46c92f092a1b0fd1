-- The files so far were opened.
use Rattle.command_core.specs.Files.{HaveOpened}
use Rattle.command_core.specs.Turns.{printed}
use Rattle.command_core.proofs.opening.open_all.Given as goal

abbrev pub invariant-files : goal.invariant-files
invariant-files g l =
    HaveOpened l.key l.options l.number l.status (printed (g.L.Report.taken l.initial.lines) (g.L.Report.failures l.initial.lines))
    (printed (g.L.Report.taken l.lines) (g.L.Report.failures l.lines)) (g.F.Outputs.rest l.initial.folder) (g.F.Outputs.rest l.folder)
