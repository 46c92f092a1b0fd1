use Rattle.std.proofs.Common.{rules, string_bytes, subst, sym, [], ◌≡◌}
use Rattle.folder_core.proofs.Shown.{IsQuotedUpTo, begun, one_more, at_the_end}
use Rattle.folder_core.proofs.quotes.quote.Goals as goal

pub bytes-init : goal.bytes-init
bytes-init c =
    let none : string_bytes c.new-text.result ≡ [] = search rules in
    subst (λ done. IsQuotedUpTo done c.args.name.now c.args.name.now) (sym none) (begun c.args.name.now)

pub returns-in_default : goal.returns-in_default
returns-in_default c =
    at_the_end (string_bytes c.bytes.text) (string_bytes c.push_text.new.to) c.bytes.rest.now _ c.args.name.now c.bytes.invariant
    c.cut.ensures.front c.in_ok-push_text.ensures (search rules)

pub bytes-preserved : goal.bytes-preserved
bytes-preserved c =
    one_more (string_bytes c.bytes.text) (string_bytes c.push_text.new.to) (string_bytes c.push_byte.new.to) c.bytes.rest.now _ c.in-Some.more.now c.args.name.now c.in-Some.byte c.bytes.invariant
    c.cut.ensures.front c.in_ok-push_text.ensures c.in_ok-push_byte.ensures (search rules) (search rules) (search rules)
