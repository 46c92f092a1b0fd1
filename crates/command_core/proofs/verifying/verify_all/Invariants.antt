-- The files so far were verified.
use Rattle.command_core.specs.Files.{HaveVerified}
use Rattle.command_core.specs.Turns.{printed}
use Rattle.command_core.proofs.verifying.verify_all.Given as goal

abbrev pub invariant-files : goal.invariant-files
invariant-files g l =
    HaveVerified l.key l.options l.number l.status (printed (g.L.Report.taken l.initial.lines) (g.L.Report.failures l.initial.lines))
    (printed (g.L.Report.taken l.lines) (g.L.Report.failures l.lines)) (g.F.Outputs.rest l.initial.folder) (g.F.Outputs.rest l.folder)
