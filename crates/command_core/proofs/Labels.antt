-- The label of an input, by its header alone.
use Rattle.std.proofs.Common.{◌≡◌, ℕ, true, false, List, ◌∷◌, [], ◌++◌, get_or, take, drop, Some, None, sym, ap, ◌∙◌}
use Rattle.std.proofs.Common.{arith}
use Rattle.std.specs.Str.{bytes_eq}
use Rattle.std.proofs.lemmas.List.{take-take, drop-take}
use Rattle.container_core.specs.Container.{magic, header_length, is_two, label_in}
use Rattle.container_core.proofs.HeaderLemmas.{length-two, label-one, label-two, least-length}

pub two-taken : (input : List ℕ) → is_two (take (header_length input) input) ≡ is_two input
unfolding is_two
two-taken input =
    let least = least-length input in
    ap (λ (l : List ℕ). bytes_eq l (magic ++ 2 ∷ [])) (take-take 9 (header_length input) input (omega (arith, least)))

pub label-taken : (input : List ℕ) → is_two input ≡ true
    → label_in input ≡ Some (drop 25 (take (header_length input) input))
label-taken input two =
    label-two input two
    ∙ ap (λ (l : List ℕ). Some l) (sym (ap (λ (n : ℕ). drop 25 (take n input)) (length-two input two)
    ∙ drop-take 25 (get_or input 24 0) input))

pub no_label : (input : List ℕ) → is_two input ≡ false → label_in input ≡ None
no_label input one = label-one input one
