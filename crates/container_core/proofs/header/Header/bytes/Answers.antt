use Rattle.std.proofs.Common.{◌≤◌, List, ℕ, subst}
use Rattle.std.specs.Prelude.{slice_index}
use Rattle.container_core.proofs.HeaderLemmas.{size_in-bounds}
use Rattle.container_core.proofs.header.Header.bytes.Goals as goal

pub returns-clause-size : goal.returns-clause-size
returns-clause-size c = size_in-bounds c.args.self.now
    (subst (λ (b : List ℕ). 12 ≤ slice_index b 9) c.self.view_is c.self.invariant.least)
    (subst (λ (b : List ℕ). slice_index b 9 ≤ 20) c.self.view_is c.self.invariant.most)
