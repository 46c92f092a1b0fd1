use Rattle.std.proofs.Common.{map, string_bytes}
use Rattle.folder_core.proofs.Distinct.{SeenUpTo}
use Rattle.folder_core.proofs.trees.are_distinct.Given as goal

abbrev pub invariant-texts : goal.invariant-texts
invariant-texts l = SeenUpTo (map string_bytes l.texts) l.text-index l.seen
