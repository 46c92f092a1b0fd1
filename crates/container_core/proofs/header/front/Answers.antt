use Rattle.std.proofs.Common.{rules, ◌≡◌, ℕ, List, ◌∷◌, ◌++◌, length, ap, ◌∙◌}
use Rattle.container_core.proofs.HeaderLemmas.{seven, seven_of, length-hint_of}
use Rattle.container_core.proofs.header.front.Goals as goal

pub returns : goal.returns
returns c =
    let named : length c.args.prefix ≡ 7 = search rules in
    let hinted : length c.hint.result ≡ 7 = ap (λ (l : List ℕ). length l) c.hint.ensures ∙ length-hint_of c.args.key.now in
    ap (λ (xs : List ℕ). 83 ∷ 84 ∷ 82 ∷ 77 ∷ 83 ∷ 69 ∷ 65 ∷ 76 ∷ c.args.version ∷ c.args.exponent ∷ (xs ++ seven_of c.hint.result)) (seven c.args.prefix named)
    ∙ ap (λ (ys : List ℕ). 83 ∷ 84 ∷ 82 ∷ 77 ∷ 83 ∷ 69 ∷ 65 ∷ 76 ∷ c.args.version ∷ c.args.exponent ∷ (c.args.prefix ++ ys)) (seven c.hint.result hinted ∙ c.hint.ensures)
