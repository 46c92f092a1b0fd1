use Rattle.std.proofs.Common.{arith, rules}
use Rattle.ranges_core.specs.Reads.{is_for}
use Rattle.ranges_core.proofs.Runs.{next_row}
use Rattle.ranges_core.proofs.rows.end_for.Goals as goal

pub returns-in_err-end : goal.returns-in_err-end
returns-in_err-end c of_taken adjacent low =
    let inv = c.loop-row.invariant in
    let so_far = inv.1 of_taken adjacent in
    let it = next_row (is_for c.args.key.now c.args.device) c.loop-row.rest.now c.in-Some.more.now c.in-Some.row.now c.loop-row.end 4294967296 (search rules) (search rules) so_far.0 so_far.1 (omega (arith, so_far.2, low)) in
    let some = c.end_after.ensures.none it.test it.lo it.some it.low in
    absurd (search rules)
