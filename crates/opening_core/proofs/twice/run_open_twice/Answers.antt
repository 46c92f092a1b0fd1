use Rattle.std.specs.Prelude.{false}
use Rattle.std.proofs.KnownBytes.{Keeps-trans}
use Rattle.opening_core.proofs.TwiceLemmas.{counts-next, counts-reading, may-know, twice-done}
use Rattle.opening_core.specs.Twice.{broken_by_read}
use Rattle.opening_core.proofs.twice.run_open_twice.Goals as goal

pub write_again-done-requires-clause-may : goal.write_again-done-requires-clause-may
write_again-done-requires-clause-may g c κs within =
    may-know c.args.key.now c.in-Ok-checked.header c.args.max_bytes _ _ _ _ _ _ _ c.requires.may c.in-Ok.ensures.left
    (Keeps-trans _ _ _ c.begin.ensures.same c.end.ensures.same) c.in-Ok-begin.ensures.left c.in-Ok-checked.ensures.length

pub returns : goal.returns
returns g c =
    twice-done _ c.in-Ok-checked.header _ _ _ _ _ _ _ _ _ _ _ _ _ _ _ _ _ c.in-Ok.ensures.left
    (Keeps-trans _ _ _ c.begin.ensures.same c.end.ensures.same) c.in-Ok-begin.ensures.left c.in-Ok-checked.ensures.header
    c.in-Ok-checked.ensures.length c.write_again-done.ensures
    (counts-next _ _ _ _
    (counts-reading false _ _ _ _ c.in-Ok.ensures.begun c.in-Ok-checked.ensures.reads.read c.end.ensures.count)
    (counts-reading (broken_by_read c.write_again-done.result.0) _ _ _ _ c.in-Ok-begin.ensures.begun c.write_again-done.ensures.read c.end-2.ensures.count))
