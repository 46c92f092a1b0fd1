use Rattle.std.proofs.Common.{◌≡◌, ◌++◌, length}
use Rattle.line_core.specs.Labels.{read_label}
use Rattle.line_core.proofs.objects.label_bytes.Given as goal

abbrev pub invariant-bytes : goal.invariant-bytes
invariant-bytes l = l.label.items ++ read_label l.rest ≡ read_label l.fn.shown

abbrev pub decreases-bytes : goal.decreases-bytes
decreases-bytes l = length l.rest
