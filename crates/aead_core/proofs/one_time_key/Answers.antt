use Rattle.std.proofs.Common.{ap, ◌∙◌, take, List, ℕ}
use Rattle.aead_core.specs.Aead.{one_time_key}
use Rattle.aead_core.proofs.one_time_key.Goals as goal

pub returns : goal.returns
unfolding one_time_key
returns c = c.first_half.ensures ∙ ap (λ (b : List ℕ). take 32 b) c.block.ensures
