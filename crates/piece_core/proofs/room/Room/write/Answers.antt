use Rattle.std.proofs.Common.{◌≡◌, ◌+◌, ◌-◌, ◌<◌, ◌≤◌, ◌++◌, ◌∙◌, [], length, get_or, set, take, drop, ap, sym}
use Rattle.container_core.specs.Chunks.{parts}
use Rattle.piece_core.proofs.RoomLemmas.{begins_in, inside_of, part_fits, length-written, write_part}
use Rattle.piece_core.proofs.room.Room.write.Goals as goal

pub begin_at-begin-requires : goal.begin_at-begin-requires
begin_at-begin-requires c =
    let r = c.self.inside in
    let at : c.args.number < r.count = inside_of r.size r.count c.args.number _ (drop r.front r.whole.items) c.self.invariant.0 (ap (λ v. length v.parts) c.self.view_is) c.requires.inside in
    rw c.as_slice.ensures.value (begins_in r.front r.size r.count c.args.number (length r.whole.items) at c.self.invariant.1)

pub write_at-requires : goal.write_at-requires
write_at-requires c =
    let r = c.self.inside in
    let n = c.args.number in
    let at : n < r.count = inside_of r.size r.count n _ (drop r.front r.whole.items) c.self.invariant.0 (ap (λ v. length v.parts) c.self.view_is) c.requires.inside in
    let fits = part_fits r.front r.size r.count r.whole.items n (length c.args.bytes.now) c.self.invariant.0 at c.self.invariant.1 c.self.invariant.2
    (c.requires.fits ∙ sym (ap (λ v. length (get_or v.parts n [])) c.self.view_is)) in
    rw c.begin_at-begin.ensures fits.1

pub invariant_of-self : goal.invariant_of-self
invariant_of-self c =
    let r = c.self.inside in
    let n = c.args.number in
    let at : n < r.count = inside_of r.size r.count n _ (drop r.front r.whole.items) c.self.invariant.0 (ap (λ v. length v.parts) c.self.view_is) c.requires.inside in
    let fits = part_fits r.front r.size r.count r.whole.items n (length c.args.bytes.now) c.self.invariant.0 at c.self.invariant.1 c.self.invariant.2
    (c.requires.fits ∙ sym (ap (λ v. length (get_or v.parts n [])) c.self.view_is)) in
    let within : c.begin_at-begin.result + length c.args.bytes.now ≤ length r.whole.items = rw c.begin_at-begin.ensures fits.1 in
    let same : length c.write_at.new.whole.items ≡ length r.whole.items =
    ap (λ l. length l) c.write_at.ensures ∙ length-written c.begin_at-begin.result r.whole.items c.args.bytes.now within in
    rw same c.self.invariant

pub returns-clause-parts : goal.returns-clause-parts
returns-clause-parts c =
    let r = c.self.inside in
    let n = c.args.number in
    let bytes = c.args.bytes.now in
    let at : n < r.count = inside_of r.size r.count n _ (drop r.front r.whole.items) c.self.invariant.0 (ap (λ v. length v.parts) c.self.view_is) c.requires.inside in
    let fits = part_fits r.front r.size r.count r.whole.items n (length bytes) c.self.invariant.0 at c.self.invariant.1 c.self.invariant.2
    (c.requires.fits ∙ sym (ap (λ v. length (get_or v.parts n [])) c.self.view_is)) in
    ap (λ w. parts r.size (r.count - 1) (drop r.front w))
    (c.write_at.ensures ∙ ap (λ b. take b r.whole.items ++ (bytes ++ drop (b + length bytes) r.whole.items)) c.begin_at-begin.ensures)
    ∙ write_part r.front r.size r.count r.whole.items n bytes c.self.invariant.0 at c.self.invariant.1 c.self.invariant.2 fits.0
    ∙ ap (λ v. set v.parts n bytes) c.self.view_is
