use Rattle.std.proofs.Common.{◌∙◌, ap, refl, ⊎_elim, subst}
use Rattle.sealer.specs.Pipes.{PipesUnder}
use Rattle.sealer.proofs.Pipes.{of_stream, refused}
use Rattle.sealer.proofs.piping.pipe_in_turn.Goals as goal

pub returns-in-Err : goal.returns-in-Err
returns-in-Err g c = record { pipes = refused _ _ _ _ _ _ _ _ _ refl c.refuse_run.ensures.status }

pub returns : goal.returns
returns g c =
    let (once, ended) = c.pipe_from-status.ensures.run in
    record {
      pipes = ⊎_elim (λ none. refused _ _ _ _ _ _ _ _ _ (ap (λ stream. g.W.Sink.taken stream.writer) none.2) none.0)
          (λ all.
          let (range, history, told, written, line, folds, lawful, witnessed, sealed, journal, is, follows) = all in
          let (was, mid, left, before, after, reserved, lasts, by) = folds in
          subst
          (λ device. PipesUnder c.args.key.now c.args.request.now.shape device (g.R.Source.left c.args.reader.now) (g.W.Sink.taken c.args.writer.now.writer) (g.W.Sink.taken c.pipe_from-status.new.writer.writer)
          c.pipe_from-status.result (g.E.Report.taken c.args.out.now.faults) (g.E.Report.taken c.pipe_from-status.new.out.faults)) reserved.asked.0
          (of_stream _ told written _ _ _ _ _ history _ line _ sealed follows is))
          ended;
    }
