use Rattle.std.proofs.Common.{◌≡◌, ◌++◌, length, map}
use denote.Text.{Utf8}
use denote.Shadow.{shadow}
use Rattle.std.specs.List.{All}
use Rattle.command_line.specs.Names.{each_ended, IsName}
use Rattle.command_line.proofs.names.names_in.Given as goal

abbrev pub invariant-names : goal.invariant-names
invariant-names l = shadow (Utf8 l.rest)
    × All (IsName l.separator) (map (λ name. name.now) l.names.items)
    × (l.text ≡ each_ended l.separator (map (λ name. name.now) l.names.items) ++ l.rest)

abbrev pub decreases-names : goal.decreases-names
decreases-names l = length l.rest
