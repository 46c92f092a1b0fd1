use Rattle.std.proofs.Common.{List, ℕ, [], ◌++◌, subst}
use Rattle.poly_core.specs.Absorbed.{Absorbed}
use Rattle.poly_core.specs.Poly1305.{pad16}
use Rattle.aead_core.proofs.begin.Goals as goal

pub returns : goal.returns
returns c =
    let key = c.one_time_key.result in
    let aad = c.args.aad.now in
    subst (λ (k : List ℕ). Absorbed c.pad.new.self k (aad ++ pad16 aad)) c.one_time_key.ensures
    (c.pad.ensures key _ (c.absorb.ensures key [] c.new-front.ensures))
