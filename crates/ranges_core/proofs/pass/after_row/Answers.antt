use Rattle.std.proofs.Common.{◌≡◌, ◌∷◌, rules}
use Rattle.ranges_core.proofs.Passes.{takes}
use Rattle.ranges_core.proofs.pass.after_row.Goals as goal

pub returns-then-is_for-clause-takes : goal.returns-then-is_for-clause-takes
returns-then-is_for-clause-takes c more h =
    let s = c.in_ok-next.ensures.some in
    let split : c.loop-mark.left.now ≡ c.in-Some.mark.now ∷ c.in-Some.more.now = search rules in
    c.loop-mark.invariant.1 (c.args.row.now ∷ more) (rw split (takes c.loop-mark.last c.in_ok-next.next c.in-Some.mark.now c.args.row.now c.in-Some.more.now more c.in_ok-key.key.now c.in_ok-device.device
    (search rules) (search rules) (search rules) s.0 s.1 s.2 (rw split at h)))
