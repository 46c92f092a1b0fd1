use Rattle.std.proofs.Common.{◌≡◌, ◌≤◌, true, length, get_or, arith}
use Rattle.line_core.proofs.Shown.{read_label-byte, read_label-escape}
use Rattle.line_core.proofs.objects.first_in.Goals as goal

pub returns-then-is_escape-clause-some : goal.returns-then-is_escape-clause-some
returns-then-is_escape-clause-some c =
    let s = c.args.shown.now in
    let is : (4 ≤ length s) × (get_or s 0 0 ≡ 92) × (get_or s 1 0 ≡ 120) = c.is_escape.ensures.0 c.if-is_escape.true in
    rw (c.hex_value.ensures.value, c.hex_value-then-is_escape.ensures.value) (read_label-escape s is.0 is.1 is.2)

pub returns-in-len1-up-clause-some : goal.returns-in-len1-up-clause-some
returns-in-len1-up-clause-some c =
    read_label-byte c.args.shown.now (omega arith) (λ long first second.
    let is : c.is_escape.result ≡ true = c.is_escape.ensures.1 (long, first, second) in
    cc)
