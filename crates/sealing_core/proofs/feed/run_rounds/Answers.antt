use Rattle.std.proofs.Common.{arith, refl, ◌≤◌, ap, ◌∙◌, length, deque_capacity}
use Rattle.sealing_core.proofs.ChunkLemmas.{written_at, written_none}
use Rattle.sealing_core.proofs.MayLemmas.{may_behind}
use Rattle.sealing_core.proofs.RoundLemmas.{handed_as, way_read, way_step}
use Rattle.sealing_core.proofs.feed.run_rounds.Goals as goal
use Rattle.sealing_core.proofs.feed.run_rounds.Goals.{then-is_open+in_default, else-is_open+else-is_empty}

pub loop-init : goal.loop-init
loop-init g c = record {
  jobs = c.requires.into.0;
  pieces = c.requires.from.0;
  parts = (refl, refl);
  way = c.requires.way;
  handed = c.requires.handed;
  spare = c.requires.spare;
  room = c.requires.room;
  written = written_at _ _ _ _ _ _ _ _ _ c.requires.fresh (written_none _ _ _ _ _ _);
  bound = refl;
  failures = refl;
  refusals = refl;
}

pub write_or_take_back-requires-clause-may : goal.write_or_take_back-requires-clause-may
write_or_take_back-requires-clause-may g c =
    let was = c.loop.invariant in
    may_behind _ _ _ _ _ _ _ _ _ _ was.bound c.requires.may was.written

pub loop-preserved-in-Ok-true : goal.loop-preserved-in-Ok-true
loop-preserved-in-Ok-true g c =
    let was = c.loop.invariant in
    let t = c.in-Ok-true.ensures in
    let sizes = c.room_bytes-room.ensures.value in
    record {
      jobs = was.jobs;
      pieces = t.from.0;
      parts = (was.parts.0, t.from.1 ∙ was.parts.1);
      way = way_step _ _ _ _ _ c.args.context.now.plan _ _ _ _ _ _ _ (λ put order. t.order put _ order) was.way;
      handed = was.handed;
      room = (let r = was.room.0 in let s = t.room in omega arith, was.room.1, let r = was.room.2 in let p = t.places in omega arith);
      spare = λ k d less. t.spare k d less ∙ sizes;
      written = t.written _ was.written;
      bound = t.same ∙ was.bound;
      failures = was.failures;
      refusals = t.count ∙ was.refusals;
    }

pub returns-then-is_empty-clause-all : goal.returns-then-is_empty-clause-all
returns-then-is_empty-clause-all g c = λ _.
    let was = c.loop.invariant in
    let t = c.in-Ok-false.ensures in (
      way_step _ _ _ _ _ c.args.context.now.plan _ _ _ _ _ _ _ (λ put order. t.order put _ order) was.way,
      was.handed,
      c.is_open.ensures.closed c.if-is_open.false,
      c.is_empty.ensures c.if-is_empty.true,
    )

pub loop-preserved-in-Some-take_spare : goal.loop-preserved-in-Some-take_spare
loop-preserved-in-Some-take_spare g c =
    let was = c.loop.invariant in
    let t = c.in-Ok-false.ensures in
    let r = c.in-Ok.ensures in
    let h = c.hand_over.ensures in
    let unmet = c.is_open.ensures.going c.if-is_open.true in
    let sizes = c.room_bytes-room.ensures.value in
    let less = was.handed.0 unmet.0 in
    let most = r.few.1 in
    let few : length c.read.new.self.held.items ≤ c.args.context.now.plan.group = omega arith in
    let place = c.in-Some-take_spare.ensures.buffer.1 in
    record {
      jobs = h.into.0;
      pieces = t.from.0;
      parts = (h.into.1 ∙ was.parts.0, t.from.1 ∙ was.parts.1);
      way = h.way _ _ few (λ over. let same = ap (λ ts. length ts) (r.over over) in omega arith)
          (way_read _ _ _ _ _ _ c.args.context.now.plan _ _ _ _ _ unmet.0 (λ put hand. r.hand put hand) (way_step _ _ _ _ _ c.args.context.now.plan _ _ _ _ _ _ _ (λ put order. t.order put _ order) was.way));
      handed = h.handed few;
      room = (
        let a = was.room.0 in let b = t.room in let e = h.same.2 in omega arith,
        let a = was.room.1 in let b = r.capacity in let e = h.same.3 in omega arith,
        let a = h.room in let b = c.len.ensures.0 in let e = c.len-then-is_open.ensures in omega arith,
      );
      spare = λ k d less. c.take_spare.ensures.spare k d less ∙ sizes;
      written = written_at _ _ _ _ _ _ _ _ _ h.same.0 (t.written _ was.written);
      bound = t.same ∙ was.bound;
      failures = r.count ∙ was.failures;
      refusals = t.count ∙ was.refusals;
    }

pub loop-preserved : goal.loop-preserved
loop-preserved g c =
    let was = c.loop.invariant in
    let t = c.in-Ok-false.ensures in
    let b = c.seal_or_rest-looks.ensures in
    let sizes = c.room_bytes-room.ensures.value in
    record {
      jobs = b.into.0;
      pieces = t.from.0;
      parts = (b.into.1 ∙ was.parts.0, t.from.1 ∙ was.parts.1);
      way = b.way _ c.args.context.now.plan _ (way_step _ _ _ _ _ c.args.context.now.plan _ _ _ _ _ _ _ (λ put order. t.order put _ order) was.way);
      handed = handed_as c.args.context.now.plan.group c.loop.round c.seal_or_rest-looks.new.round b.same.3 b.same.4 was.handed;
      room = (
        let a = was.room.0 in let e = t.room in let f = b.same.1 in omega arith,
        let a = was.room.1 in let e = ap (λ v. deque_capacity v) b.same.4 in omega arith,
        let a = was.room.2 in let e = ap (λ v. length v.items) b.same.4 in let f = b.same.2 in let p = t.places in omega arith,
      );
      spare = elim c.if-is_open.branch [
        | then-is_open+in_default w ↦ rw w.spare-is (λ k d less. w.take_spare.ensures.spare k d less ∙ sizes)
        | else-is_open+else-is_empty w ↦ rw w.spare-is (λ k d less. t.spare k d less ∙ sizes)
      ];
      written = written_at _ _ _ _ _ _ _ _ _ b.same.0 (t.written _ was.written);
      bound = t.same ∙ was.bound;
      failures = was.failures;
      refusals = t.count ∙ was.refusals;
    }
