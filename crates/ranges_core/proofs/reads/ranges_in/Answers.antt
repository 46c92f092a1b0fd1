use Rattle.std.proofs.Common.{◌≡◌, ◌∷◌, true, subst, arith, rules}
use Rattle.std.specs.List.{list_all}
use Rattle.std.proofs.lemmas.Bool.{and_parts}
use Rattle.ranges_core.specs.Reads.{is_range_row}
use Rattle.ranges_core.proofs.Runs.{range_more}
use Rattle.ranges_core.proofs.reads.ranges_in.Goals as goal

pub loop-row-preserved : goal.loop-row-preserved
loop-row-preserved c =
    let inv = c.loop-row.invariant in
    let it = range_more c.loop-row.ranges.items c.push.new.self.items c.loop-row.rest.now c.in-Some.more.now c.in-Some.row.now c.loop-row.end c.in-Some-Some.lo c.in-Some-Some.size _ (search rules) (search rules) (search rules) (search rules) (omega arith) (omega arith) inv.1 inv.2 inv.3 in
    let rest : c.loop-row.rest.now ≡ c.in-Some.row.now ∷ c.in-Some.more.now = search rules in
    (omega arith, it.0, it.1, it.2, λ all. (and_parts _ _ (subst (λ l. list_all is_range_row l ≡ true) rest (inv.4 all))).1)
