use Rattle.std.proofs.Common.{◌≡◌, [], rules}
use Rattle.sealer_core.specs.Group.{IsContainerUnder, IsPrepared, under_in}
use Rattle.sealer_core.proofs.Groups.{ending_none, ending_more, few_left, none_left, ending_all, rest_all}
use Rattle.sealer_core.proofs.Owing.{owing_as}
use Rattle.sealer_core.proofs.Keyed.{idle_keyed}
use Rattle.sealer_core.proofs.Sessions.{containers_left}
use Rattle.sealer_core.proofs.FileEnds.{all_end, first_new, one_more_ends}
use Rattle.sealer_core.proofs.group.end_group.Goals as goal

pub loop-file-init : goal.loop-file-init
loop-file-init g c = record {
  owing = c.requires.owing;
  prepared = c.requires.prepared;
  few = c.requires.few;
  containers = c.requires.containers;
  once = c.requires.once;
  keyed = c.requires.keyed;
  waits = (c.requires.waits.0, [], [], c.requires.waits.1);
  ending = ending_none _ _ _ (λ before are. are);
}

pub end_file-outcome-requires-clause-waits : goal.end_file-outcome-requires-clause-waits
end_file-outcome-requires-clause-waits g c =
    let i = c.loop-file.invariant in
    first_new g.F.Handle.Place.at (under_in c.args.context.now) _ _ c.in-Some.file _ _ _ _ _ c.in-Some.ensures.items
    (idle_keyed c.args.context.now.key.now c.args.context.now.ledger.now.terms.range _ _ i.keyed) i.waits.3

pub loop-file-preserved : goal.loop-file-preserved
loop-file-preserved g c =
    let i = c.loop-file.invariant in
    let idle = idle_keyed c.args.context.now.key.now c.args.context.now.ledger.now.terms.range _ _ i.keyed in
    let e = c.end_file-outcome.ensures in record {
      owing = e.owing;
      prepared = rest_all IsPrepared _ _ c.in-Some.file c.in-Some.ensures.items i.prepared;
      containers = containers_left (IsContainerUnder c.args.context.now.key.now c.args.context.now.options.now.shape.now) c.in-Some.file _ _ e.next i.containers;
      once = e.once;
      keyed = e.keyed;
      few = few_left _ _ c.in-Some.file _ _ c.in-Some.ensures.items e.next i.few;
      waits = (
        i.waits.0,
        _,
        _,
        one_more_ends g.F.Handle.Place.at (under_in c.args.context.now) i.waits.1 i.waits.2 c.in-Some.file _ _ _ _ _ i.waits.0 _ _ c.in-Some.ensures.items e.next idle i.waits.3 e.end,
      );
      ending = ending_more _ _ _ _ _ c.in-Some.file _ _ _ _ _ _ c.in-Some.ensures.items c.name-name.ensures i.ending e.outcome c.tell-status.ensures e.accounts
          (λ before are. one_more_ends g.F.Handle.Place.at (under_in c.args.context.now) _ _ c.in-Some.file _ _ _ _ _ before _ _ c.in-Some.ensures.items e.next idle
          (i.ending.ended.done before are) e.end);
    }

pub returns-clause-owing : goal.returns-clause-owing
returns-clause-owing g c =
    let none : c.loop-file.files.items ≡ [] = search rules in
    owing_as _ _ _ _ (none_left c.loop-file.files.items _ none c.loop-file.invariant.few) c.loop-file.invariant.owing

pub returns-clause-ended : goal.returns-clause-ended
returns-clause-ended g c =
    let none : c.loop-file.files.items ≡ [] = search rules in
    ending_all _ _ _ c.loop-file.files.items _ _ none c.loop-file.invariant.few
    (λ lines voids done before are. all_end g.F.Handle.Place.at (under_in c.args.context.now) lines voids c.loop-file.files.items _ before _ none (done before are))
    c.loop-file.invariant.ending
