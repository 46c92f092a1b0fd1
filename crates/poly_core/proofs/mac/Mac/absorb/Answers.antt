use Rattle.std.proofs.Common.{ℕ, ◌+◌, ◌-◌, ◌*◌, ◌/◌, arith, length}
use Rattle.poly_core.proofs.AbsorbedLemmas.{three_parts}
use Rattle.poly_core.proofs.mac.Mac.absorb.Goals as goal

pub returns-then-front-bytes : goal.returns-then-front-bytes
returns-then-front-bytes c = λ key message held.
    let bytes = c.args.bytes.now in
    let front : ℕ = c.min-front.result in
    let end : ℕ = front + (length bytes - front) / 16 * 16 in
    let begun = c.take_in.ensures.absorbed key message held in
    let blocks = c.absorb_whole.ensures.absorbed key _ begun in
    let whole = c.take_in-then-front-bytes.ensures.absorbed key _ blocks in
    rw (three_parts message bytes front end (omega arith) (omega arith)) at whole
