use Rattle.std.proofs.Common.{string_bytes, rules}
use Rattle.folder_core.proofs.Parts.{end_named, end_nothing, end_up, one_read, up_read}
use Rattle.folder_core.proofs.trees.push_place.Goals as goal

pub returns-then-eq-clause-none : goal.returns-then-eq-clause-none
returns-then-eq-clause-none c = λ _.
    up_read c.args.path.now c.parts.rest.now c.in-Some.part.now c.in-Some.more.now (string_bytes c.args.to.now) (string_bytes c.parts.to) c.parts.invariant.1
    c.in-Some.ensures.whole c.in-Some.ensures.apart (search rules)

pub parts-preserved : goal.parts-preserved
parts-preserved c = (
  search rules,
  one_read c.args.path.now c.parts.rest.now c.in-Some.part.now c.in-Some.more.now (string_bytes c.args.to.now) (string_bytes c.parts.to) (string_bytes c.push_part.new.to)
      c.parts.invariant.1 c.in-Some.ensures.whole c.in-Some.ensures.apart (search rules) (search rules),
)

pub returns-in_ok-push_part-in_default-rest-clause-placed : goal.returns-in_ok-push_part-in_default-rest-clause-placed
returns-in_ok-push_part-in_default-rest-clause-placed c = λ _.
    end_named c.args.path.now c.parts.rest.now (string_bytes c.args.to.now) (string_bytes c.parts.to) (string_bytes c.push_part-in_default-rest.new.to) c.parts.invariant.1
    (search rules) (search rules) (search rules) (search rules) (search rules)

pub returns-in-empty-clause-none : goal.returns-in-empty-clause-none
returns-in-empty-clause-none c = λ _.
    end_nothing c.args.path.now c.parts.rest.now (string_bytes c.args.to.now) (string_bytes c.parts.to) c.parts.invariant.1 (search rules) (search rules)

pub returns-in-empty-2-clause-none : goal.returns-in-empty-2-clause-none
returns-in-empty-2-clause-none c = λ _.
    end_nothing c.args.path.now c.parts.rest.now (string_bytes c.args.to.now) (string_bytes c.parts.to) c.parts.invariant.1 (search rules) (search rules)

pub returns-in-empty-3-clause-none : goal.returns-in-empty-3-clause-none
returns-in-empty-3-clause-none c = λ _.
    end_up c.args.path.now c.parts.rest.now (string_bytes c.args.to.now) (string_bytes c.parts.to) c.parts.invariant.1 (search rules) (search rules)
