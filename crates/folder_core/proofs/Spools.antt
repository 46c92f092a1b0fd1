-- What a failed read of a spooled input leaves.
use Rattle.std.proofs.Common.{◌≡◌, ℕ, List, ◌++◌, Option, None, Some, ap, ◌∙◌}
use Rattle.io_core.specs.Streams.{Keeps}
use Rattle.folder_core.specs.Spooling.{joined}

pub joined_kept : (held left left' : Option (List ℕ)) (all : List ℕ) → Keeps left left' → joined held left ≡ Some all
    → joined held left' ≡ Some all
joined_kept None left left' all keeps is = absurd (cc)
joined_kept (Some kept) None left' all keeps is = absurd (cc)
joined_kept (Some kept) (Some old) None all keeps is = absurd keeps
joined_kept (Some kept) (Some old) (Some new) all keeps is = ap (λ l. Some (kept ++ l)) keeps ∙ is
