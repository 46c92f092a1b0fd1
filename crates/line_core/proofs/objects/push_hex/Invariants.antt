use Rattle.std.proofs.Common.{◌≡◌, ◌++◌, codes, flat_map, length}
use Rattle.line_core.specs.Labels.{hex_digits}
use Rattle.line_core.proofs.objects.push_hex.Given as goal

abbrev pub invariant-bytes : goal.invariant-bytes
invariant-bytes l =
    l.to.items ++ flat_map hex_digits l.rest ≡ l.fn.to.items ++ codes ",\"label_hex\":\"" ++ flat_map hex_digits l.fn.label

abbrev pub decreases-bytes : goal.decreases-bytes
decreases-bytes l = length l.rest
