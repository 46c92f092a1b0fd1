use Rattle.std.proofs.Common.{◌≡◌, ◌++◌, ◌∷◌, flat_map, length}
use Rattle.line_core.specs.Json.{escaped}
use Rattle.line_core.proofs.json.push_string.Given as goal

abbrev pub invariant-bytes : goal.invariant-bytes
invariant-bytes l = l.to.items ++ flat_map escaped l.rest ≡ l.fn.to.items ++ 34 ∷ flat_map escaped l.fn.text

abbrev pub decreases-bytes : goal.decreases-bytes
decreases-bytes l = length l.rest
