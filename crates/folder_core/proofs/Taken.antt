-- What the output in hand took is what it may hold.
use Rattle.std.proofs.Common.{◌≡◌, ℕ, List, Option, subst}
use Rattle.std.specs.Prelude.{option_map}
use Rattle.std.proofs.Math.Logic.{∥∥₁_map}
use Rattle.output_core.specs.Bounds.{IsWithin}
use Rattle.folder_core.specs.Record.{IsSoundWith, RunRecord, bound_in}

pub hand_within : (rest named : Option RunRecord) (taken : Option (List ℕ)) → rest ≡ named → ∥ IsSoundWith rest taken ∥₁
    → ∥ IsWithin (option_map bound_in named) taken ∥₁
hand_within rest named taken same sound =
    ∥∥₁_map sound (λ both. subst (λ r. IsWithin (option_map bound_in r) taken) same both.1)
