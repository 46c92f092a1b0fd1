use Rattle.std.proofs.Common.{rules, tests}
use Rattle.ranges_core.proofs.Runs.{fits}
use Rattle.ranges_core.proofs.rows.is_bad_owner.Goals as goal

pub returns-in-Some-Some-2 : goal.returns-in-Some-Some-2
returns-in-Some-Some-2 c of_marks of_taken bad lists hold =
    let key = c.in-Some-Some.key.now in
    let device = c.in-Some-Some.device in
    let it = fits c.args.marks.now c.args.taken.now lists key device hold (search rules) in
    let end = c.end_for.ensures of_taken it.adjacent it.low in
    let next = c.next_for.ensures of_marks _ it.next in
    search (rules, tests)

pub returns-in_default-2-2 : goal.returns-in_default-2-2
returns-in_default-2-2 c of_marks of_taken bad lists hold =
    let key = c.in-Some-Some.key.now in
    let device = c.in-Some-Some.device in
    let it = fits c.args.marks.now c.args.taken.now lists key device hold (search rules) in
    let end = c.end_for.ensures of_taken it.adjacent it.low in
    let next = c.next_for.ensures of_marks _ it.next in
    search rules
