use Rattle.std.proofs.Common.{rules}
use Rattle.worker_core.proofs.Making.{bench_more, made_more}
use Rattle.worker_core.proofs.rounds.benches_of.Goals as goal

pub loop-n-preserved : goal.loop-n-preserved
loop-n-preserved c =
    let before = c.loop-n.invariant in
    let b = c.in_ok-new.field-0 in
    let new = c.in_ok-new.ensures in
    record {
      count = search rules;
      each = bench_more c.args.room c.args.size c.loop-n.benches.items c.push.new.self.items b new.size new.spare new.made c.in_ok-push.ensures.items before.each;
      made = made_more c.loop-n.benches.items c.push.new.self.items b new.made c.in_ok-push.ensures.items before.made;
    }
