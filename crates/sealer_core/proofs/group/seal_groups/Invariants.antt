-- The files so far were sealed.
use Rattle.std.proofs.Common.{◌≡◌, ◌≤◌, ◌-◌, [], length, map, take}
use Rattle.command_core.specs.Turns.{printed}
use Rattle.sealer_core.specs.Group.{AreKeyed, AreOwing, under_in}
use Rattle.sealer_core.specs.Sealing.{AreSealed, operations_of}
use Rattle.sealer_core.proofs.group.seal_groups.Given as goal

abbrev pub invariant-loop-done : goal.invariant-loop-done
invariant-loop-done g l = record {
  owing : AreOwing l.context.ledger.now l.seats [];
  keyed : AreKeyed l.context l.seats (g.F.Outputs.rest l.folder);
  count : length l.seats ≡ length l.initial.seats;
  within : l.done ≤ length l.context.options.now.files.now;
  sealed : AreSealed (under_in l.context) (map (λ name. name.now) (take l.done l.context.options.now.files.now)) (operations_of l.seats) l.status
      (printed (g.L.Report.taken l.initial.lines) (g.L.Report.failures l.initial.lines)) (printed (g.L.Report.taken l.lines) (g.L.Report.failures l.lines))
      (g.F.Outputs.rest l.initial.folder) (g.F.Outputs.rest l.folder);
}

abbrev pub decreases-loop-done : goal.decreases-loop-done
decreases-loop-done g l = length l.context.options.now.files.now - l.done
