use Rattle.std.proofs.Common.{ap, ◌∙◌, arith}
use Rattle.worker_core.specs.Crew.{CrewView}
use Rattle.worker_core.proofs.Making.{all_ready, worked_crew, worked_pieces, worked_length}
use Rattle.worker_core.proofs.rounds.Crew.make.Goals as goal

pub make_on-requires-clause-ready : goal.make_on-requires-clause-ready
make_on-requires-clause-ready g c κs within =
    let made = ap (λ (v : CrewView). v.made) c.self.view_is ∙ c.requires.idle in
    let room = ap (λ (v : CrewView). v.room) c.self.view_is in
    let size = ap (λ (v : CrewView). v.size) c.self.view_is in
    all_ready c.args.round.now c.self.inside.room c.self.inside.size c.self.inside.benches.items c.self.invariant.2 made
    (omega (arith, c.requires.room)) (omega (arith, c.requires.size))

pub invariant_of-self : goal.invariant_of-self
invariant_of-self g c =
    let made = ap (λ (v : CrewView). v.made) c.self.view_is ∙ c.requires.idle in
    let same = worked_length _ _ _ c.make_on.ensures.worked in
    let (some, few, each) = c.self.invariant in
    (omega arith, omega arith, worked_crew c.args.round.now c.self.inside.room c.self.inside.size _ _ c.make_on.ensures.worked each made)

pub returns-clause-made : goal.returns-clause-made
returns-clause-made g c = record {
  pieces = worked_pieces _ _ _ c.make_on.ensures.worked;
  all = c.make_on.ensures.made.each;
}

pub returns-clause-workers : goal.returns-clause-workers
returns-clause-workers g c = worked_length _ _ _ c.make_on.ensures.worked ∙ ap (λ (v : CrewView). v.workers) c.self.view_is
