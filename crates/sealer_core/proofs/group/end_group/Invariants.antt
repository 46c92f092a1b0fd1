-- The files so far have their lines, and what came for the others waits.
use Rattle.std.proofs.Common.{◌≤◌, ℕ, List, [], length, All, Option, flat_map}
use Rattle.folder_core.specs.Record.{RunRecord}
use Rattle.command_core.specs.Lines.{FileLine}
use Rattle.command_core.specs.Turns.{printed}
use Rattle.sealer_core.specs.Group.{AreEndingIn, AreGrantedOnce, AreKeyed, AreOwing, IsContainerUnder, IsPrepared, group_view, read_of, under_in}
use Rattle.sealer_core.specs.Sealing.{operations_of}
use Rattle.sealer_core.proofs.Groups.{AreEnding}
use Rattle.sealer_core.proofs.group.end_group.Given as goal

abbrev pub invariant-loop-file : goal.invariant-loop-file
invariant-loop-file g l = record {
  owing : AreOwing l.context.ledger.now l.seats l.outcomes.items;
  prepared : All IsPrepared l.files.items;
  few : length l.outcomes.items ≤ length (flat_map read_of l.files.items);
  containers : All (IsContainerUnder l.context.key.now l.context.options.now.shape.now) l.outcomes.items;
  once : AreGrantedOnce (operations_of l.seats);
  keyed : AreKeyed l.context l.seats (g.F.Outputs.rest l.folder);
  waits : (before : Option RunRecord) × (lines : List FileLine) × (voids : List ℕ)
      × AreEndingIn g.F.Handle.Place.at (under_in l.context) lines voids l.files.items l.outcomes.items before (g.F.Outputs.rest l.folder);
  ending : AreEnding (λ lines voids. (before : Option RunRecord)
      → AreEndingIn g.F.Handle.Place.at (under_in l.context) [] [] l.initial.files.items l.initial.outcomes.items before (g.F.Outputs.rest l.initial.folder)
      → AreEndingIn g.F.Handle.Place.at (under_in l.context) lines voids l.files.items l.outcomes.items before (g.F.Outputs.rest l.folder))
      l.initial.files.items l.files.items
      (group_view l.initial.outcomes.items (operations_of l.initial.seats) l.start (printed (g.L.Report.taken l.initial.lines) (g.L.Report.failures l.initial.lines)))
      (group_view l.outcomes.items (operations_of l.seats) l.status (printed (g.L.Report.taken l.lines) (g.L.Report.failures l.lines)));
}

abbrev pub decreases-loop-file : goal.decreases-loop-file
decreases-loop-file g l = length l.files.items
