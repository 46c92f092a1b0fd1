use Rattle.std.proofs.Common.{◌∙◌, ap, refl}
use Rattle.sealer_core.specs.Group.{under_in}
use Rattle.sealer_core.proofs.Preparing.{not_created, was_created}
use Rattle.sealer_core.proofs.prepare.prepare_file.Goals as goal
use Rattle.sealer_core.proofs.prepare.prepare_file.Goals.{in-Ok-create, in-Err}

pub returns-clause-waits : goal.returns-clause-waits
returns-clause-waits g c =
    let named = c.as_str.ensures.value ∙ c.in-Ok.ensures.ok in
    elim c.match-create.branch [
      | in-Ok-create w ↦ rw w.prepared-is (rw w.jobs-is (was_created g.F.Handle.Place.at (under_in c.args.context.now) c.args.name _ _ _ _ _ _ _ _ _ _ named
          c.in-Ok-open.ensures.opened c.in-Ok-open.ensures.count c.close.ensures.closed w.read_job-prepared.result w.in-Ok-create.output w.read_job-prepared.ensures.name
          w.in-Ok-create.ensures.created w.in-Ok-create.ensures.place w.read_job-prepared.ensures.input
          (ap g.F.Reader.Source.failures w.reader-is ∙ w.read_job-prepared.ensures.count)))
      | in-Err w ↦ rw w.prepared-is (rw w.jobs-is (not_created g.F.Handle.Place.at (under_in c.args.context.now) c.args.name _ _ _ _ _ _ _ _ _ _ named
          c.in-Ok-open.ensures.opened c.in-Ok-open.ensures.count c.close.ensures.closed w.fault_of_create.result w.in-Err.fault w.fault_of_create.ensures
          w.in-Err.ensures.refused (ap g.F.Reader.Source.failures w.reader-is) refl))
    ]
