use Rattle.std.proofs.Common.{length, string_bytes}
use denote.Text.{Utf8}
use denote.Shadow.{shadow}
use Rattle.folder_core.proofs.Parts.{IsReadUpTo}
use Rattle.folder_core.proofs.trees.push_place.Given as goal

abbrev pub invariant-parts : goal.invariant-parts
invariant-parts l = shadow (Utf8 l.rest) × IsReadUpTo l.path l.rest (string_bytes l.fn.to) (string_bytes l.to)

abbrev pub decreases-parts : goal.decreases-parts
decreases-parts l = length l.rest
