-- The files so far have their lines.
use Rattle.std.proofs.Common.{ℕ, List, Option, ◌++◌, map, take}
use Rattle.sealer_core.specs.Group.{refused_lines}
use Rattle.command_core.specs.Lines.{FileLine}
use Rattle.command_core.specs.Work.{AreTold}
use Rattle.sealer_core.proofs.group.refuse_group.Given as goal

abbrev pub invariant-loop-name : goal.invariant-loop-name
invariant-loop-name g l = (before : List FileLine) (first : Option (List ℕ)) (count : Option ℕ)
    → AreTold l.start before first (g.L.Report.taken l.initial.lines) count (g.L.Report.failures l.initial.lines)
    → AreTold l.status (before ++ refused_lines (map (λ name. name.now) (take l.name-index l.names))) first (g.L.Report.taken l.lines) count (g.L.Report.failures l.lines)
