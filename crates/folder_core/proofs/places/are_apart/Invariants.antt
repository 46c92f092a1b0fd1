use Rattle.std.proofs.Common.{map}
use Rattle.folder_core.proofs.Names.{FoundUpTo}
use Rattle.folder_core.proofs.places.are_apart.Given as goal

abbrev pub invariant-files : goal.invariant-files
invariant-files l = FoundUpTo (map (λ file. file.now) l.files) l.file-index l.names
