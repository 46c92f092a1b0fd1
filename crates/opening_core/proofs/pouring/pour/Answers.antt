use Rattle.std.proofs.Common.{rules, ◌≡◌, ◌+◌, ◌<◌, length, drop, get_or, Some, None, subst}
use Rattle.output_core.specs.Bounds.{Admits}
use Rattle.output_core.proofs.BoundLemmas.{admits_front, admits_rest, admits_same}
use Rattle.worker_core.specs.Answer.{joined}
use Rattle.opening_core.proofs.PourLemmas.{joined-rest, joined-skip, poured-front, poured-more, poured-none}
use Rattle.opening_core.proofs.pouring.pour.Goals.{in-Some+in-Ok, in_default}
use Rattle.opening_core.proofs.pouring.pour.Goals as goal

pub put_all-requires : goal.put_all-requires
put_all-requires g c =
    let values = c.args.places.now.values in
    let n = c.pouring.number in
    let below : n < length values = search rules in
    let is : Some c.in-Some.bytes.now ≡ get_or values n None = search rules in
    record {
      may = admits_front _ _ _ _ c.pouring.invariant.may (joined (drop (n + 1) values), joined-rest values n c.in-Some.bytes.now below is);
    }

pub returns-in-Err-clause-err : goal.returns-in-Err-clause-err
returns-in-Err-clause-err g c =
    let values = c.args.places.now.values in
    let n = c.pouring.number in
    let below : n < length values = search rules in
    let is : Some c.in-Some.bytes.now ≡ get_or values n None = search rules in
    poured-front values n c.in-Some.bytes.now _ _ _ below is c.pouring.invariant.appended c.in-Err.ensures.err

pub pouring-preserved : goal.pouring-preserved
pouring-preserved g c =
    let values = c.args.places.now.values in
    let n = c.pouring.number in
    let below : n < length values = search rules in
    let before = c.pouring.invariant in
    elim c.match-piece.branch [
      | in-Some+in-Ok w ↦
          let bytes = w.in-Some.bytes.now in
          let is : Some bytes ≡ get_or values n None = search rules in
          let sink : c.match-piece.sink ≡ w.put_all.new.output = search rules in
          record {
            appended = rw sink (poured-more values n bytes _ _ _ below is before.appended w.in-Ok.ensures.ok);
            failures = search rules;
            bound = search rules;
            may = rw sink (admits_same _ _ _ _ w.in-Ok.ensures.same (admits_rest _ _ _ bytes _
                (subst (Admits (g.W.Output.bound c.pouring.sink) (g.W.Output.taken c.pouring.sink)) (joined-rest values n bytes below is) before.may) w.in-Ok.ensures.ok));
          }
      | in_default w ↦
          let is : None ≡ get_or values n None = search rules in
          let sink : c.match-piece.sink ≡ c.pouring.sink = search rules in
          record {
            appended = rw sink (poured-none values n _ _ below is before.appended);
            failures = search rules;
            bound = search rules;
            may = rw sink (subst (Admits (g.W.Output.bound c.pouring.sink) (g.W.Output.taken c.pouring.sink)) (joined-skip values n below is) before.may);
          }
    ]
