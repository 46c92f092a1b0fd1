use Rattle.std.proofs.Common.{arith, rules}
use Rattle.sealer_core.specs.Group.{under_in}
use Rattle.sealer_core.proofs.Groups.{prepared_names, prepared_read, prepared_all}
use Rattle.command_core.proofs.Telling.{names-step}
use Rattle.sealer_core.proofs.Preparing.{none_prepared, one_more_prepared}
use Rattle.sealer_core.proofs.prepare.prepare_group.Goals as goal

pub loop-name-init : goal.loop-name-init
loop-name-init g c = record {
  count = search rules;
  room = search rules;
  names = search rules;
  prepared = search rules;
  waits = none_prepared g.F.Handle.Place.at (under_in c.args.context.now) _ _ _ (search rules) (search rules);
  idle = c.requires.idle;
  short = search rules;
  read = search rules;
}

pub loop-name-preserved : goal.loop-name-preserved
loop-name-preserved g c =
    let i = c.loop-name.invariant in
    let p = c.prepare_file.ensures in
    let b = c.push_back_reserved.ensures in
    let len = b.len in
    let capacity = b.capacity in
    let count = i.count in
    let room = i.room in
    record {
      count = omega arith;
      room = omega arith;
      names = prepared_names _ _ _ b.items _ _ _ i.names p.name (names-step _ _ _ c.loop-name-test.true);
      prepared = prepared_all _ _ _ b.items i.prepared p.prepared;
      waits = one_more_prepared g.F.Handle.Place.at (under_in c.args.context.now) _ _ _ _ _ _ _ _ b.items i.waits p.waits;
      idle = p.idle;
      short = p.short;
      read = prepared_read _ _ _ b.items _ _ i.read p.read;
    }
