use Rattle.std.proofs.Common.{◌*◌, rules, arith}
use Rattle.container_core.proofs.CutLemmas.{cut-full, cut-none, cut-rest, no-plain}
use Rattle.container_core.proofs.PartsLemmas.{container_length-grows}
use Rattle.container_core.proofs.cutting.plain_of.Goals.{then-rest-tag, else-rest-tag+then-rest-tag-2, else-rest-tag+else-rest-tag-2}
use Rattle.container_core.proofs.cutting.plain_of.Goals as goal

pub returns-then-full-gt0-clause-some : goal.returns-then-full-gt0-clause-some
returns-then-full-gt0-clause-some c = cut-full c.args.size c.args.body (search rules) c.if-rest-eq0.true c.if-full-gt0.true

pub returns-then-full-eq0-clause-some : goal.returns-then-full-eq0-clause-some
returns-then-full-eq0-clause-some c =
    elim c.if-rest-tag.branch [
      | then-rest-tag w ↦ cut-rest c.args.size c.args.body (search rules) w.if-rest-tag.true
      | else-rest-tag+then-rest-tag-2 w ↦ cut-none c.args.size c.args.body w.if-rest-tag-2.true (search rules)
      | else-rest-tag+else-rest-tag-2 w ↦ absurd (search rules)
    ]

pub returns-then-full-gt0-clause-within : goal.returns-then-full-gt0-clause-within
returns-then-full-gt0-clause-within c =
    let is = returns-then-full-gt0-clause-some c in
    container_length-grows 0 c.args.size (4294967295 * c.args.size) _ (search rules) (omega (arith, is, c.requires.body))

pub returns-then-full-eq0-clause-within : goal.returns-then-full-eq0-clause-within
returns-then-full-eq0-clause-within c =
    let is = returns-then-full-eq0-clause-some c in
    container_length-grows 0 c.args.size (4294967295 * c.args.size) _ (search rules) (omega (arith, is, c.requires.body))

pub returns-else-full-eq0-clause-none : goal.returns-else-full-eq0-clause-none
returns-else-full-eq0-clause-none c = λ n. no-plain c.args.size c.args.body n (search rules) (search rules) (search rules) (search rules)
