use Rattle.command_core.proofs.Files.{idle_over}
use Rattle.command_core.proofs.Turns.{added_more}
use Rattle.command_core.proofs.opening.open_from.Goals as goal

pub returns : goal.returns
returns g c = λ old before start so-far tells.
    c.open_rest.ensures old before (added_more _ _ _ _ _ _ _ _ _ _ _ _ _ so-far c.open_opened-outcome.ensures.fits
    (c.open_opened-outcome.ensures.adds start tells) (c.tell-status.ensures _ _ _ so-far.told) c.requires.name.1)

pub open_rest-requires-clause-idle : goal.open_rest-requires-clause-idle
open_rest-requires-clause-idle g c κs within =
    idle_over _ _ _ _ _ _ c.requires.open.read.1 c.open_opened-outcome.ensures.adds c.requires.open.idle
