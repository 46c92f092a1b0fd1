use Rattle.std.proofs.Common.{rules, ◌≡◌, ℕ, List, [], ◌∷◌, ◌++◌, length, Option, Some, None, ap, sym, ◌∙◌, append_assoc}
use Rattle.std.proofs.lemmas.List.{append-nil}
use Rattle.container_core.specs.Container.{header_of, front_of, label_bytes, version_of}
use Rattle.container_core.proofs.header.Header.of.Goals as goal

pub returns-in-None : goal.returns-in-None
unfolding header_of
returns-in-None c =
    let none : c.args.shape.now.label ≡ None = search rules in
    record {
      header = c.append.ensures ∙ ap (λ (l : List ℕ). l ++ c.front.result) c.new-image.ensures
          ∙ c.front.ensures ∙ ap (λ (e : ℕ). front_of c.args.key.now 1 e c.args.prefix) c.exponent.ensures.value
          ∙ sym (append-nil (front_of c.args.key.now 1 c.args.shape.now.exponent c.args.prefix))
          ∙ ap (λ (l : Option (List ℕ)). front_of c.args.key.now (version_of l) c.args.shape.now.exponent c.args.prefix ++ label_bytes l) (sym none);
    }

pub returns-in-Some : goal.returns-in-Some
unfolding header_of
returns-in-Some c =
    let label = c.in-Some.label.now in
    let some : c.args.shape.now.label ≡ Some label = sym c.in-Some.ensures.value in
    let front = front_of c.args.key.now 2 c.args.shape.now.exponent c.args.prefix in
    let begins : c.append-in-Some.new.self ≡ front =
    c.append-in-Some.ensures ∙ ap (λ (l : List ℕ). l ++ c.front-in-Some.result) c.new-image-in-Some.ensures
    ∙ c.front-in-Some.ensures ∙ ap (λ (e : ℕ). front_of c.args.key.now 2 e c.args.prefix) c.exponent-in-Some.ensures.value in
    record {
      header = c.append-in-Some-3.ensures
          ∙ ap (λ (l : List ℕ). l ++ label) c.append-in-Some-2.ensures
          ∙ append_assoc c.append-in-Some.new.self (length label ∷ []) label
          ∙ ap (λ (l : List ℕ). l ++ (length label ∷ label)) begins
          ∙ ap (λ (l : Option (List ℕ)). front_of c.args.key.now (version_of l) c.args.shape.now.exponent c.args.prefix ++ label_bytes l) (sym some);
    }
