use Rattle.aead_core.specs.Aead.{tag_of}
use Rattle.aead_core.proofs.tag_of.Goals as goal

pub returns : goal.returns
unfolding tag_of
returns c = c.finish.ensures _ (c.absorb.ensures _ _ c.begin-mac.ensures)
