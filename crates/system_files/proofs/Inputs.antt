-- What holds of a second reading, which isn't tied to the first.
use Rattle.std.proofs.Common.{Result, Ok, Err, OnOk}
use Rattle.std.specs.Bool.{⊤}

pub at_ok : {T E : Type 0} (r : Result T E) → OnOk r ⊤
at_ok (Ok x) = tt
at_ok (Err e) = tt
