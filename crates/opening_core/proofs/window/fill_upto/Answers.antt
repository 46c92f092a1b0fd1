use Rattle.std.proofs.Common.{rules, ◌++◌, arith, ◌∙◌}
use Rattle.std.proofs.KnownBytes.{Consumes-kept}
use Rattle.opening_core.proofs.ReadLemmas.{still_held, read_length, read_more}
use Rattle.opening_core.proofs.window.fill_upto.Goals as goal

pub returns-in-Err-clause-err : goal.returns-in-Err-clause-err
returns-in-Err-clause-err g c =
    let before = c.filling.invariant in
    let (w, x, y) = before.within in
    let n = read_length c.args.held c.filling.filled c.args.bytes.now.items c.filling.bytes.items before.read (search rules) (search rules) before.held in
    (before.read, Consumes-kept _ _ _ _ before.consumed c.in-Err.ensures.err, omega arith)

pub returns-in-Err-clause-kept : goal.returns-in-Err-clause-kept
returns-in-Err-clause-kept g c =
    let before = c.filling.invariant in
    still_held c.args.held c.filling.filled _ _ before.within.0 c.read_behind.ensures.kept ∙ before.kept

pub returns-in-Ok-eq0-clause-kept : goal.returns-in-Ok-eq0-clause-kept
returns-in-Ok-eq0-clause-kept g c =
    let before = c.filling.invariant in
    still_held c.args.held c.filling.filled _ _ before.within.0 c.read_behind.ensures.kept ∙ before.kept

pub filling-preserved : goal.filling-preserved
filling-preserved g c =
    let before = c.filling.invariant in
    let read = c.in-Ok.ensures.read in
    let more = read_more _ _ _ c.args.held c.filling.filled c.in-Ok.n c.args.bytes.now.items c.filling.bytes.items c.read_behind.new.bytes.items before.read read.0
    before.consumed before.held read.1 read.2 in
    record {
      read = before.read ++ read.0;
      consumed = more.0;
      held = more.1;
      kept = still_held c.args.held c.filling.filled _ _ before.within.0 c.read_behind.ensures.kept ∙ before.kept;
      fits = before.fits;
      within = (omega (arith, before.within.0), c.in-Ok.ensures.within.0, c.in-Ok.ensures.within.1);
      room = omega (arith, before.room, c.read_behind.ensures.room);
      count = search rules;
    }
