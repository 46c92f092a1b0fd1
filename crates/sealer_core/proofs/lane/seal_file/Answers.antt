use Rattle.std.proofs.Common.{[], refl, ◌∙◌}
use Rattle.sealer_core.specs.Group.{under_in}
use Rattle.sealer_core.proofs.Keyed.{keyed_after, keyed_tells, keyed_tells_bytes}
use Rattle.sealer_core.proofs.Owing.{adds_failure}
use Rattle.sealer_core.proofs.SealedFile.{file_sealed, nothing_added, unread_added}
use Rattle.sealer_core.proofs.lane.seal_file.Goals as goal

-- memory was refused

pub returns-in_default-clause-adds : goal.returns-in_default-clause-adds
returns-in_default-clause-adds g c = (
  [],
  nothing_added (under_in c.args.context.now) c.args.name.now _,
  λ lines voids a. adds_failure lines voids _ _ a _,
)

-- it can't be opened

pub returns-in_default-open-clause-keyed : goal.returns-in_default-open-clause-keyed
returns-in_default-open-clause-keyed g c = keyed_after _ _ _ _ _ _ (λ n. refl) c.requires.keyed c.in_default-open.ensures.unopened

pub returns-in_default-open-clause-adds : goal.returns-in_default-open-clause-adds
returns-in_default-open-clause-adds g c = (
  [],
  unread_added (under_in c.args.context.now) c.args.name.now _ _ c.in_default-open.ensures.unopened,
  λ lines voids a. adds_failure lines voids _ _ a _,
)

-- it is read

pub put_sealed-outcome-requires-clause-keyed : goal.put_sealed-outcome-requires-clause-keyed
put_sealed-outcome-requires-clause-keyed g c κs within = keyed_tells_bytes _ _ _ _ _ _ _ c.requires.keyed c.in-Ok-open.ensures.opened

pub returns-clause-keyed : goal.returns-clause-keyed
returns-clause-keyed g c = keyed_tells _ _ _ _ _ _ _ c.put_sealed-outcome.ensures.keyed c.close.ensures.closed

pub returns-clause-adds : goal.returns-clause-adds
returns-clause-adds g c =
    let (void, grew, accounts) = rw (c.as_str.ensures.value ∙ c.in-Ok.ensures.ok) at c.put_sealed-outcome.ensures.puts in (
      void,
      file_sealed (under_in c.args.context.now) c.args.name.now _ _ void _ _ _ _ _ _ c.in-Ok-open.ensures.opened c.in-Ok-open.ensures.count
          grew c.put_sealed-outcome.ensures.read c.close.ensures.closed,
      λ lines voids a. accounts c.args.name.now lines voids a,
    )
