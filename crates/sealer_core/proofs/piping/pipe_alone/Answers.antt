use Rattle.std.proofs.Common.{List, ap, length, sym, subst}
use Rattle.journal_core.specs.declared.entry.Entry.{Entry}
use Rattle.sealer_core.specs.Group.{piped_under}
use Rattle.sealer_core.specs.Piping.{IsPiped, pipe_view}
use Rattle.sealer_core.proofs.Owing.{one_mine}
use Rattle.sealer_core.proofs.piping.pipe_alone.Goals as goal

pub returns-clause-piped : goal.returns-clause-piped
returns-clause-piped g c =
    subst (λ (operations : List Entry). IsPiped (piped_under c.args.context.now) (g.W.Handle.Place.at c.args.output)
    (pipe_view (g.R.Source.left c.args.reader.now) (g.R.Source.failures c.args.reader.now) (g.W.Outputs.taken c.args.writer.now) (g.W.Outputs.failures c.args.writer.now)
    (g.W.Outputs.rest c.args.writer.now))
    (pipe_view (g.R.Source.left c.pipe_next.new.reader) (g.R.Source.failures c.pipe_next.new.reader) (g.W.Outputs.taken c.pipe_next.new.writer)
    (g.W.Outputs.failures c.pipe_next.new.writer) (g.W.Outputs.rest c.pipe_next.new.writer))
    operations c.pipe_next.result)
    (sym (one_mine c.args.seats.now c.pipe_next.new.seat (ap length c.requires.unused))) c.pipe_next.ensures.piped
