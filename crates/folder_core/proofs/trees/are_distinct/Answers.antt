use Rattle.std.proofs.Common.{[], ◌<◌, ◌≡◌, map, length, get_or, string_bytes, sym, subst, rules, arith, ap, ◌∙◌}
use Rattle.std.proofs.lemmas.List.{length-map, get_or-map}
use Rattle.folder_core.proofs.Distinct.{SeenUpTo, none_seen, one_seen, seen_before, all_seen}
use Rattle.folder_core.proofs.trees.are_distinct.Goals as goal

pub texts-init : goal.texts-init
texts-init c = none_seen (map string_bytes c.args.texts.now) c.new-seen.result c.new-seen.ensures.empty

pub returns-then-not-branch-clause-no : goal.returns-then-not-branch-clause-no
returns-then-not-branch-clause-no c = λ _.
    let inside : c.texts.text-index < length (map string_bytes c.args.texts.now) = omega (arith, c.texts-test.true, length-map c.args.texts.now string_bytes) in
    let is : get_or (map string_bytes c.args.texts.now) c.texts.text-index [] ≡ c.as_str.result.now =
    get_or-map string_bytes c.args.texts.now c.texts.text-index _ [] c.texts-test.true ∙ ap string_bytes (sym c.text-item.is) ∙ sym c.as_str.ensures.value in
    seen_before (map string_bytes c.args.texts.now) c.texts.text-index c.texts.seen c.as_str.result inside c.texts.invariant is (search rules)

pub texts-preserved : goal.texts-preserved
texts-preserved c =
    let inside : c.texts.text-index < length (map string_bytes c.args.texts.now) = omega (arith, c.texts-test.true, length-map c.args.texts.now string_bytes) in
    let is : get_or (map string_bytes c.args.texts.now) c.texts.text-index [] ≡ c.as_str.result.now =
    get_or-map string_bytes c.args.texts.now c.texts.text-index _ [] c.texts-test.true ∙ ap string_bytes (sym c.text-item.is) ∙ sym c.as_str.ensures.value in
    one_seen (map string_bytes c.args.texts.now) c.texts.text-index c.texts.seen c.insert.new.self c.as_str.result inside c.texts.invariant is (search rules) (search rules)

pub returns-clause-yes : goal.returns-clause-yes
returns-clause-yes c = λ _.
    let long : c.texts.text-index ≡ length (map string_bytes c.args.texts.now) = omega (arith, length-map c.args.texts.now string_bytes) in
    all_seen (map string_bytes c.args.texts.now) c.texts.seen (subst (λ count. SeenUpTo (map string_bytes c.args.texts.now) count c.texts.seen) long c.texts.invariant)
