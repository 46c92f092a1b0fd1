use Rattle.std.proofs.Common.{◌<◌, length, drop, ap}
use Rattle.piece_core.proofs.RoomLemmas.{begins_in, inside_of, part_by_number}
use Rattle.piece_core.proofs.room.Room.part.Goals as goal

pub begin_at-begin-requires : goal.begin_at-begin-requires
begin_at-begin-requires c =
    let r = c.self.inside in
    let at : c.args.number < r.count = inside_of r.size r.count c.args.number _ (drop r.front r.whole.items) c.self.invariant.0 (ap (λ v. length v.parts) c.self.view_is) c.requires in
    rw c.as_slice-whole.ensures.value (begins_in r.front r.size r.count c.args.number (length r.whole.items) at c.self.invariant.1)

pub cut_at-requires : goal.cut_at-requires
cut_at-requires c =
    let r = c.self.inside in
    let at : c.args.number < r.count = inside_of r.size r.count c.args.number _ (drop r.front r.whole.items) c.self.invariant.0 (ap (λ v. length v.parts) c.self.view_is) c.requires in
    rw (c.begin_at-begin.ensures, c.as_slice-whole.ensures.value) (begins_in r.front r.size r.count c.args.number (length r.whole.items) at c.self.invariant.1)

pub returns : goal.returns
returns c =
    let r = c.self.inside in
    let n = c.args.number in
    let at : n < r.count = inside_of r.size r.count n _ (drop r.front r.whole.items) c.self.invariant.0 (ap (λ v. length v.parts) c.self.view_is) c.requires in
    rw (← c.self.view_is, part_by_number r.front r.size r.count r.whole.items n c.self.invariant.0 at c.self.invariant.2, ← c.as_slice-whole.ensures.value, ← c.begin_at-begin.ensures)
    c.cut_at.ensures
