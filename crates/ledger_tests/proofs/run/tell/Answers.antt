use Rattle.std.proofs.Common.{◌<◌, length, arith}
use Rattle.ledger_tests.proofs.Pairs.{all_after_two}
use Rattle.ledger_tests.proofs.run.tell.Goals as goal

pub returns : goal.returns
returns c =
    let s = c.split_at_mut-front.ensures in
    let order = c.requires.order in
    let within = c.requires.inside in
    let front = s.front_len in
    let back = s.back_len in
    let inside : c.args.first < length c.split_at_mut-front.result.0.now = omega arith in
    let some : 0 < length c.split_at_mut-front.result.1.now = omega arith in
    all_after_two _ _ _ _ c.args.first c.index-front-first.result c.index-back-0.result c.in_order.new.first c.in_order.new.second c.requires.all s.value inside some
    c.index-front-first.is c.index-back-0.is c.in_order.ensures.first c.in_order.ensures.second
