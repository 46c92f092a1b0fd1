use Rattle.std.proofs.Common.{rules, ◌++◌, ◌<◌, length, take}
use Rattle.std.proofs.KnownBytes.{Appends-trans}
use Rattle.io_core.proofs.WriteLemmas.{written_more, lacks_rest, on_err}
use Rattle.output_core.proofs.BoundLemmas.{admits_others, admits_same}
use Rattle.output_core.proofs.output.put_all.Goals as goal

pub rest-preserved : goal.rest-preserved
rest-preserved g c =
    let (done, split, appended, count, bound, may) = c.rest.invariant in
    let rest = c.rest.rest.now in
    let n = c.in_ok-n.n in (
      done ++ take n rest,
      written_more _ done rest n split,
      Appends-trans _ _ _ _ _ appended c.in_ok-n.ensures.bytes,
      search rules,
      search rules,
      admits_same _ _ _ _ c.in_ok-n.ensures.same (admits_others _ _ _ rest n may
          c.in_ok-n.ensures.bytes),
    )

pub returns-in_err-n-clause-short : goal.returns-in_err-n-clause-short
returns-in_err-n-clause-short g c =
    let (done, split, appended, count, bound, may) = c.rest.invariant in
    let rest = c.rest.rest.now in
    let some : 0 < length rest = search rules in
    on_err _ _ (lacks_rest _ _ _ _ done rest split some appended c.in_err-n.ensures.bytes)
