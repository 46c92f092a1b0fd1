use Rattle.std.proofs.Common.{◌≡◌, ◌<◌, ◌≤◌, length, map, get_or, set, vec_len, sym, ap, ◌∙◌, arith}
use Rattle.std.proofs.lemmas.List.{length-map}
use Rattle.std.proofs.lemmas.List.Edits.{map_over_more}
use Rattle.worker_core.specs.Pieces.{IsPiece, emptied}
use Rattle.worker_core.specs.Rooms.{shown, placed}
use Rattle.worker_core.proofs.PlaceLemmas.{bench_holds, bench_next, taken_next, taken_all, below_all}
use Rattle.worker_core.proofs.places.Places.take.Goals as goal

pub put_all-requires-clause-numbers : goal.put_all-requires-clause-numbers
put_all-requires-clause-numbers c =
    let old = c.args.benches.now in
    let i = c.loop-i.i in
    let b = c.index-benches-i.result in
    let was = c.loop-i.invariant in
    let at : i < length old = c.loop-i-test.true in
    let room : length c.args.round.now.values ≤ vec_len c.loop-i.self-inside.pieces =
    omega (arith, was.places, c.requires.room, c.loop-i.self-inside.pieces.ok.0) in
    let pieces = bench_holds (IsPiece c.args.round.now) old i b at c.requires.pieces in
    rw (bench_next old c.loop-i.benches i b at was.benches)
    (below_all c.args.round.now (vec_len c.loop-i.self-inside.pieces) (get_or old i b).made room pieces)

pub put_all-requires-clause-room : goal.put_all-requires-clause-room
put_all-requires-clause-room c =
    let old = c.args.benches.now in
    let i = c.loop-i.i in
    let b = c.index-benches-i.result in
    let was = c.loop-i.invariant in
    let at : i < length old = c.loop-i-test.true in
    let size = bench_next old c.loop-i.benches i b at was.benches in
    rw (size, c.requires.sizes i b at, ← was.size) was.room

pub loop-i-preserved : goal.loop-i-preserved
loop-i-preserved c =
    let old = c.args.benches.now in
    let i = c.loop-i.i in
    let b = c.index-benches-i.result in
    let was = c.loop-i.invariant in
    let at : i < length old = c.loop-i-test.true in
    let next = bench_next old c.loop-i.benches i b at was.benches in
    let before = map shown c.loop-i.self-inside.pieces.items in
    let after = map shown c.put_all.new.places.items in
    let long : length c.args.round.now.values ≤ length before =
    omega (arith, length-map c.loop-i.self-inside.pieces.items shown, was.places, c.requires.room) in
    let gave : after ≡ placed (get_or old i b).made before = c.put_all.ensures.places
    ∙ ap (λ v. placed v.made before) next in
    record {
      size = was.size;
      count = was.count;
      places = omega (
        arith,
        c.put_all.new.places.ok.0,
        c.loop-i.self-inside.pieces.ok.0,
        was.places,
        c.put_all.ensures.count,
      );
      room = rw (was.size, ← c.requires.sizes i b at, ← next) c.put_all.ensures.room;
      benches =
          ap (λ now. set c.loop-i.benches i now)
          (c.put_all.ensures.bench ∙ ap (λ was. emptied was) (sym c.index-benches-i.is))
          ∙ map_over_more emptied old c.loop-i.benches i b at was.benches c.index-benches-i.is;
      taken = taken_next c.args.round.now old i b before after at c.requires.pieces long gave was.taken;
    }

pub returns-clause-values : goal.returns-clause-values
returns-clause-values c =
    let old = c.args.benches.now in
    let was = c.loop-i.invariant in
    let end : c.loop-i.i ≡ length old = omega arith in
    let values = map shown c.loop-i.self-inside.pieces.items in
    let long : length c.args.round.now.values ≤ length values =
    omega (arith, length-map c.loop-i.self-inside.pieces.items shown, was.places, c.requires.room) in
    rw was.count (taken_all c.args.round.now old values long (λ x below. rw (← end) (was.taken x below)))
