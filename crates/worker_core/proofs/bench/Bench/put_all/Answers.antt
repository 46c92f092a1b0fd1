use Rattle.std.proofs.Common.{map, vec_len, sym, ◌∙◌}
use Rattle.worker_core.specs.Rooms.{shown}
use Rattle.worker_core.proofs.PlaceLemmas.{placed_put, emptied_put, below_put}
use Rattle.worker_core.proofs.bench.Bench.put_all.Goals as goal

pub loop-preserved : goal.loop-preserved
loop-preserved c =
    let was = c.loop.invariant in
    let put = c.loop-test.ensures.put in
    let old = c.loop.self in
    let new = c.put_last.new.self in
    let before = map shown c.loop.places.items in
    let after = map shown c.put_last.new.places.items in
    record {
      numbers =
          below_put (vec_len c.loop.places) (vec_len c.put_last.new.places) old new before after put
          (sym c.put_last.ensures.count) was.numbers;
      room = rw put.size c.put_last.ensures.room;
      bench = emptied_put old new before after put ∙ was.bench;
      places = placed_put old new before after put ∙ was.places;
      count = c.put_last.ensures.count ∙ was.count;
    }
