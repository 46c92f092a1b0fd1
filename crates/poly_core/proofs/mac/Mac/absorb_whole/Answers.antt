use Rattle.std.proofs.Common.{refl, ap, ◌∙◌}
use Rattle.poly_core.specs.Absorbed.{Progress}
use Rattle.poly_core.proofs.AbsorbedLemmas.{Absorbed-whole}
use Rattle.poly_core.proofs.mac.Mac.absorb_whole.Goals as goal

pub returns-clause-absorbed : goal.returns-clause-absorbed
returns-clause-absorbed c = λ key message held.
    let before = rw (← c.self.view_is) at held in
    let none = ap (λ (p : Progress). p.rest) c.self.view_is ∙ c.requires.none_begun in
    Absorbed-whole _ _ key message c.args.blocks.now before none c.requires.whole refl refl
    (λ whole sum. c.absorb_blocks-self-inside.ensures.sum message whole sum)
    none
