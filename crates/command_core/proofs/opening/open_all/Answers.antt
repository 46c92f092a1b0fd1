use Rattle.std.proofs.Common.{arith, ap, length, map}
use Rattle.std.proofs.lemmas.List.{take_all}
use Rattle.command_core.proofs.Files.{open_file}
use Rattle.command_core.proofs.Telling.{names-step}
use Rattle.command_core.proofs.Turns.{added_more, idle_added, none_added, same_names}
use Rattle.command_core.proofs.opening.open_all.Goals.{in-Ok+else-count-gt1, in-Err}
use Rattle.command_core.proofs.opening.open_all.Goals as goal

pub files-init : goal.files-init
files-init g c = none_added _ _ _ _

pub files-preserved : goal.files-preserved
files-preserved g c = elim c.match-begin.branch [
  | in-Ok+else-count-gt1 w ↦ added_more _ _ _ _ _ _ _ _ _ _ _ _ _ c.files.invariant
      (rw w.outcome-is w.open_opened-outcome.ensures.fits)
      (rw (w.outcome-is, w.folder-is) (w.open_opened-outcome.ensures.adds _ w.in-Ok.ensures.opened))
      (c.tell-status.ensures _ _ _ c.files.invariant.told) (names-step _ _ _ c.files-test.true)
  | in-Err w ↦ added_more _ _ _ _ _ _ _ _ _ _ _ _ _ c.files.invariant
      (rw w.outcome-is w.in-Err.ensures.fits) (rw (w.outcome-is, w.folder-is) (w.in-Err.ensures.adds _))
      (c.tell-status.ensures _ _ _ c.files.invariant.told) (names-step _ _ _ c.files-test.true)
]

pub returns-then-count-gt1-clause-status : goal.returns-then-count-gt1-clause-status
returns-then-count-gt1-clause-status g c = (c.open_beside.ensures _ _ _ c.files.invariant c.in-Ok.ensures.opened).told.range

pub returns-then-count-gt1-clause-files : goal.returns-then-count-gt1-clause-files
returns-then-count-gt1-clause-files g c =
    let files = c.args.options.now.files.now in
    same_names _ _ _ _ _ _ _ _ _ (ap (map (λ name. name.now)) (take_all (length files) files (omega arith)))
    (c.open_beside.ensures _ _ _ c.files.invariant c.in-Ok.ensures.opened)

pub begin-requires : goal.begin-requires
begin-requires g c = record { idle = idle_added _ _ _ _ _ _ _ _ c.files.invariant c.requires.idle }

pub open_beside-requires-clause-open : goal.open_beside-requires-clause-open
open_beside-requires-clause-open g c κs within = open_file _ _ _ _ _ c.in-Ok.ensures.opened
    (idle_added _ _ _ _ _ _ _ _ c.files.invariant c.requires.idle) c.in-Ok.ensures.count

pub open_opened-outcome-requires-clause-open : goal.open_opened-outcome-requires-clause-open
open_opened-outcome-requires-clause-open g c κs within = open_file _ _ _ _ _ c.in-Ok.ensures.opened
    (idle_added _ _ _ _ _ _ _ _ c.files.invariant c.requires.idle) c.in-Ok.ensures.count

pub returns-then-count-gt1-clause-idle : goal.returns-then-count-gt1-clause-idle
returns-then-count-gt1-clause-idle g c =
    idle_added _ _ _ _ _ _ _ _ (c.open_beside.ensures _ _ _ c.files.invariant c.in-Ok.ensures.opened) c.requires.idle

pub returns-clause-idle : goal.returns-clause-idle
returns-clause-idle g c = idle_added _ _ _ _ _ _ _ _ c.files.invariant c.requires.idle
