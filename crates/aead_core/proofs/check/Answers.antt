use Rattle.std.proofs.Common.{sym, ◌∙◌}
use Rattle.aead_core.proofs.check.Goals as goal

pub returns : goal.returns
returns c = (
  λ yes. c.same.ensures.0 yes ∙ c.tag_of.ensures,
  λ right. c.same.ensures.1 (right ∙ sym c.tag_of.ensures),
)
