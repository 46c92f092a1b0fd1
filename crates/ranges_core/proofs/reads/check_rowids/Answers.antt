use Rattle.std.proofs.Common.{rules}
use Rattle.sqlite.specs.Held.{state}
use Rattle.ranges_core.proofs.Shown.{rowids_read}
use Rattle.ranges_core.proofs.reads.check_rowids.Goals as goal

pub returns-clause-ok : goal.returns-clause-ok
returns-clause-ok g c clean = (
  c.in-Ok.ensures.shown clean,
  λ lawful. rowids_read ((state g.S.Store c.args.conn.now).now.trees 0) c.in-Ok.ids.items lawful (c.in-Ok.ensures.read clean) (rw c.as_slice.ensures.value at (c.do_ids_rise.ensures (search rules))),
)
