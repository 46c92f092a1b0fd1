use Rattle.command_core.proofs.Files.{idle_over}
use Rattle.command_core.proofs.Turns.{added_more}
use Rattle.command_core.proofs.verifying.verify_from.Goals as goal

pub returns : goal.returns
returns g c = λ old before start so-far tells.
    c.verify_rest.ensures old before (added_more _ _ _ _ _ _ _ _ _ _ _ _ _ so-far c.verify_opened-outcome.ensures.fits
    (c.verify_opened-outcome.ensures.adds start tells) (c.tell-status.ensures _ _ _ so-far.told) c.requires.name.1)

pub verify_rest-requires-clause-idle : goal.verify_rest-requires-clause-idle
verify_rest-requires-clause-idle g c κs within =
    idle_over _ _ _ _ _ _ c.requires.open.read.1 c.verify_opened-outcome.ensures.adds c.requires.open.idle
