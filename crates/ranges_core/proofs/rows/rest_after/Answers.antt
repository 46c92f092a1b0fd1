use Rattle.std.proofs.Common.{rules}
use Rattle.ranges_core.specs.Reads.{is_for}
use Rattle.ranges_core.proofs.Runs.{run_more}
use Rattle.ranges_core.proofs.rows.rest_after.Goals as goal

pub loop-row-preserved : goal.loop-row-preserved
loop-row-preserved c =
    let inv = c.loop-row.invariant in
    let s = c.in_ok-end.ensures.some in
    let it = run_more (is_for c.in_ok-key.key.now c.in_ok-device.device) c.args.taken.now inv.1 c.loop-row.rest.now c.in-Some.more.now c.in-Some.row.now c.loop-row.end c.in_ok-end.end
    inv.2 (search rules) inv.3 (search rules) inv.4 inv.5 s.0 s.1 s.2 in
    (s.3, it.0, it.1, it.2, it.3, it.4)
