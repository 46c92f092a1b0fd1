use Rattle.std.proofs.Common.{arith}
use Rattle.worker_core.proofs.ValueLemmas.{length-round, get_or-round}
use Rattle.worker_core.proofs.round.Round.make.Goals as goal

pub part_at-part-requires-clause-number : goal.part_at-part-requires-clause-number
part_at-part-requires-clause-number c =
    let r = c.self.inside in
    rw (length-round r.task r.key.now r.header.now r.first r.last r.cut r.body.now c.args.self.now
    c.self.invariant c.self.view_is)
    c.requires.number

pub is_last-last-requires : goal.is_last-last-requires
is_last-last-requires c =
    let r = c.self.inside in
    rw (
      c.count.ensures.count,
      length-round r.task r.key.now r.header.now r.first r.last r.cut r.body.now c.args.self.now
          c.self.invariant c.self.view_is,
    )
    c.requires.number

pub overflow_add-self-inside : goal.overflow_add-self-inside
overflow_add-self-inside c =
    let r = c.self.inside in
    let count =
    length-round r.task r.key.now r.header.now r.first r.last r.cut r.body.now c.args.self.now
    c.self.invariant c.self.view_is in
    omega (arith, c.requires.number, c.self.invariant.numbers)

pub returns-clause-made : goal.returns-clause-made
returns-clause-made c =
    let r = c.self.inside in
    let value =
    get_or-round r.task r.key.now r.header.now r.first r.last r.cut r.body.now c.args.self.now c.args.number
    c.self.invariant c.self.view_is c.requires.number in
    rw (value, ← c.count.ensures.count, ← c.is_last-last.ensures, ← c.part_at-part.ensures.part) c.make_value.ensures.made

pub returns-clause-refused : goal.returns-clause-refused
returns-clause-refused c =
    let r = c.self.inside in
    let value =
    get_or-round r.task r.key.now r.header.now r.first r.last r.cut r.body.now c.args.self.now c.args.number
    c.self.invariant c.self.view_is c.requires.number in
    rw (value, ← c.count.ensures.count, ← c.is_last-last.ensures, ← c.part_at-part.ensures.part) c.make_value.ensures.refused
