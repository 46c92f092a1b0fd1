use Rattle.std.proofs.Common.{arith}
use Rattle.command_core.proofs.Puts.{idle_grows}
use Rattle.command_core.proofs.Telling.{names-step}
use Rattle.command_core.proofs.Turns.{added_more}
use Rattle.command_core.proofs.opening.open_rest.Goals as goal

pub files-preserved : goal.files-preserved
files-preserved g c = (
  idle_grows _ _ _ c.open_file-outcome.ensures.adds c.files.invariant.0,
  (λ old before begun.
      let so-far = c.files.invariant.1 old before begun in
      added_more _ _ _ _ _ _ _ _ _ _ _ _ _ so-far c.open_file-outcome.ensures.fits
      c.open_file-outcome.ensures.adds (c.tell-status.ensures _ _ _ so-far.told)
      (names-step _ _ _ (omega (arith, c.files-test.true)))),
)
