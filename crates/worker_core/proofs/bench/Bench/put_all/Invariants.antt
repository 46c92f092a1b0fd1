use Rattle.std.proofs.Common.{◌≡◌, ◌<◌, length, map, All, vec_len}
use Rattle.worker_core.specs.Pieces.{emptied}
use Rattle.worker_core.specs.Rooms.{shown, HasRoom, placed}
use Rattle.worker_core.proofs.bench.Bench.put_all.Given as goal

abbrev pub invariant-loop : goal.invariant-loop
invariant-loop l = record {
  numbers : All (λ p. p.number < vec_len l.places) l.self.made;
  room : All (HasRoom l.self.size) l.places.items;
  bench : emptied l.self ≡ emptied l.initial.self;
  places : placed l.self.made (map shown l.places.items)
      ≡ placed l.initial.self.made (map shown l.initial.places.items);
  count : vec_len l.places ≡ vec_len l.initial.places;
}

abbrev pub decreases-loop : goal.decreases-loop
decreases-loop l = length l.self.made
