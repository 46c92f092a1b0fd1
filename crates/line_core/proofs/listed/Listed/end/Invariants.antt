use Rattle.std.proofs.Common.{◌≡◌, ◌++◌, map}
use Rattle.line_core.specs.Listed.{found_of, listings, missing_of, outputs_of, said}
use Rattle.line_core.proofs.listed.Listed.end.Given as goal

abbrev pub invariant-outputs : goal.invariant-outputs
invariant-outputs l = map said l.found.items ++ missing_of (listings l.name-iterator) ≡ found_of l.fn.self ++ missing_of (outputs_of l.fn.self)
