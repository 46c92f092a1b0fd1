use Rattle.container_core.specs.Container.{size_in}
use Rattle.std.proofs.Common.{ℕ, ◌^◌, ap, ◌∙◌, rules}
use Rattle.container_core.proofs.header.Header.chunk.Goals as goal

pub returns-clause-value : goal.returns-clause-value
unfolding size_in
returns-clause-value c = c.power.ensures.value ∙ ap (λ (e : ℕ). 2 ^ e) (search rules)
