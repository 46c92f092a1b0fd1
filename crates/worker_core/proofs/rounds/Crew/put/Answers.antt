use Rattle.std.proofs.Common.{length, ap, sym, ◌∙◌, arith}
use Rattle.worker_core.specs.Pieces.{all_made}
use Rattle.worker_core.specs.Crew.{CrewView}
use Rattle.worker_core.proofs.Making.{crew_sizes, crew_same, emptied_crew, emptied_made, emptied_length}
use Rattle.worker_core.proofs.rounds.Crew.put.Goals as goal

pub put_from-requires-clause-sizes : goal.put_from-requires-clause-sizes
put_from-requires-clause-sizes c =
    let size = ap (λ (v : CrewView). v.size) c.self.view_is in
    crew_sizes c.self.inside.room c.self.inside.size c.self.inside.benches.items c.args.places.now.size (c.requires.size ∙ sym size) c.self.invariant.2

pub invariant_of-self : goal.invariant_of-self
invariant_of-self c =
    let (some, few, each) = c.self.invariant in
    let benches = c.put_from.ensures.benches in
    let long = ap length benches ∙ emptied_length c.self.inside.benches.items in
    (omega arith, omega arith, crew_same _ _ _ _ benches (emptied_crew c.self.inside.room c.self.inside.size c.self.inside.benches.items each))

pub returns-clause-idle : goal.returns-clause-idle
returns-clause-idle c = ap all_made c.put_from.ensures.benches ∙ emptied_made c.self.inside.benches.items

pub returns-clause-workers : goal.returns-clause-workers
returns-clause-workers c =
    ap length c.put_from.ensures.benches ∙ emptied_length c.self.inside.benches.items ∙ ap (λ (v : CrewView). v.workers) c.self.view_is
