use Rattle.std.proofs.Common.{ℕ, List, ◌++◌, subst, map, Bor}
use Rattle.std.proofs.lemmas.List.{take_all}
use Rattle.sealer_core.specs.Group.{refused_lines}
use Rattle.command_core.specs.Lines.{FileLine}
use Rattle.command_core.specs.Work.{AreTold}
use Rattle.sealer_core.proofs.Groups.{refused_more}
use Rattle.command_core.proofs.Telling.{names-step}
use Rattle.sealer_core.proofs.group.refuse_group.Goals as goal

pub loop-name-preserved : goal.loop-name-preserved
loop-name-preserved g c = λ before first count t.
    subst (λ (l : List FileLine). AreTold c.tell-status.result l first (g.L.Report.taken c.tell-status.new.lines) count (g.L.Report.failures c.tell-status.new.lines))
    (refused_more _ _ _ before (names-step _ _ _ c.loop-name-test.true)) (c.tell-status.ensures _ first count (c.loop-name.invariant before first count t))

pub returns : goal.returns
returns g c = λ before first count t.
    subst (λ (f : List (Bor (List ℕ))). AreTold c.loop-name.status (before ++ refused_lines (map (λ (name : Bor (List ℕ)). name.now) f)) first (g.L.Report.taken c.loop-name.lines) count
    (g.L.Report.failures c.loop-name.lines)) (take_all c.loop-name.name-index c.args.names.now c.loop-name-test.false) (c.loop-name.invariant before first count t)
