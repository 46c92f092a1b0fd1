use Rattle.folder_core.proofs.Streams.{alone}
use Rattle.std.proofs.Common.{sym}
use Rattle.command_core.proofs.Files.{closed_restored, idle_over}
use Rattle.command_core.proofs.opening.open_opened.Goals as goal

pub returns-clause-adds : goal.returns-clause-adds
returns-clause-adds g c = λ before tells. rw (sym c.in-Some.ensures.name)
    (closed_restored _ _ _ _ _ _ _ _ _ _ _ _ _ c.open_read-outcome.ensures.adds c.open_read-outcome.ensures.read
    c.requires.open.fresh tells c.close.ensures.closed)

pub close-requires : goal.close-requires
close-requires g c = record {
  idle = alone _ (idle_over _ _ _ _ _ _ c.requires.open.read.1 c.open_read-outcome.ensures.adds c.requires.open.idle);
}
