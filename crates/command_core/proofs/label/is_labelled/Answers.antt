use Rattle.std.proofs.Common.{rules, ◌≡◌, ◌∙◌, sym, ap, true, false, List, ℕ, drop, Some}
use Rattle.container_core.specs.Container.{is_two, label_in}
use Rattle.command_core.proofs.Labels.{two-taken, label-taken, no_label}
use Rattle.command_core.proofs.label.is_labelled.Goals as goal

pub returns-then-begins_as_two : goal.returns-then-begins_as_two
returns-then-begins_as_two c = λ input is enough.
    let begins : is_two c.args.header.now ≡ true = search rules in
    let two : is_two input ≡ true = sym (two-taken input) ∙ ap is_two (sym is) ∙ begins in
    let named : label_in input ≡ Some (drop 25 c.args.header.now) =
    label-taken input two ∙ ap (λ (l : List ℕ). Some (drop 25 l)) (sym is) in
    rw (c.in-Some.is, named) (search rules)

pub returns-else-begins_as_two : goal.returns-else-begins_as_two
returns-else-begins_as_two c = λ input is enough.
    let begins : is_two c.args.header.now ≡ false = search rules in
    let one : is_two input ≡ false = sym (two-taken input) ∙ ap is_two (sym is) ∙ begins in
    rw (c.in-Some.is, no_label input one) (search rules)
