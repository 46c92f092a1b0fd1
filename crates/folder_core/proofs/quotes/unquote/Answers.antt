use Rattle.std.proofs.Common.{rules, ◌≡◌, ◌∙◌, [], sym, subst, string_bytes}
use Rattle.std.specs.Str.Iter.{chars_rest}
use Rattle.folder_core.specs.declared.quotes.Escape.TheVariants.{Outside}
use Rattle.folder_core.proofs.Read.{IsReadUpTo, begun, one_more, stopped, ended}
use Rattle.folder_core.proofs.quotes.unquote.Goals as goal

pub loop-c-init : goal.loop-c-init
loop-c-init c =
    let none : string_bytes c.new-name.result ≡ [] = search rules in
    let whole : chars_rest c.into_iter-c-iterator.result ≡ c.args.text.now = search rules in
    subst (λ name. IsReadUpTo name (chars_rest c.into_iter-c-iterator.result) Outside c.args.text.now) (sym none)
    (subst (λ rest. IsReadUpTo [] rest Outside c.args.text.now) (sym whole) (begun c.args.text.now c.utf8.text))

pub returns-in_default : goal.returns-in_default
returns-in_default c =
    sym (stopped (string_bytes c.loop-c.name) _ _ c.args.text.now c.loop-c.escape c.in-Some.c c.loop-c.invariant c.in-Some.ensures.steps.0 (search rules))

pub loop-c-preserved : goal.loop-c-preserved
loop-c-preserved c =
    one_more (string_bytes c.loop-c.name) _ _ _ c.args.text.now c.loop-c.escape c.in-Some-read_on.next c.in-Some.c c.in-Some-read_on.read c.loop-c.invariant
    c.in-Some.ensures.steps.0 (search rules) c.in_ok-push_some.ensures

pub returns : goal.returns
returns c = c.ended.ensures ∙ sym (ended (string_bytes c.loop-c.name) _ c.args.text.now c.loop-c.escape c.loop-c.invariant c.in-None.ensures.steps.0.0)
