use Rattle.std.proofs.Common.{◌≡◌, map, string_bytes, take}
use Rattle.folder_core.specs.Trees.{places}
use Rattle.folder_core.proofs.trees.places_of.Given as goal

abbrev pub invariant-files : goal.invariant-files
invariant-files l = map string_bytes l.found.items ≡ places (take l.file-index (map (λ file. file.now) l.files))
