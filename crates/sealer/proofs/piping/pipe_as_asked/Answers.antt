use Rattle.std.proofs.Common.{ℕ, List, Option, inr, subst}
use Rattle.container_core.specs.Shape.{ShapeView}
use Rattle.sealer.specs.Pipes.{PipesUnder}
use Rattle.sealer.proofs.piping.pipe_as_asked.Goals as goal

pub returns : goal.returns
returns g c =
    let of = c.pipe_in_turn-status.ensures.pipes in
    let request = c.in-Ok.request in
    let under = λ (shape : ShapeView) (input : Option (List ℕ)). PipesUnder c.in-Ok-begin_run.begun.key shape request.run.device input (g.O.Write.contents c.args.streams.output.0) (g.O.Write.contents c.pipe_in_turn-status.new.writer.writer.0) c.pipe_in_turn-status.result
    (g.E.Write.contents c.args.streams.errors.0) (g.E.Write.contents c.pipe_in_turn-status.new.out.faults.0) in
    record {
      pipes = inr (
        c.in-Ok-begin_run.begun.key,
        request.run.device,
        c.in-Ok.ensures.run.device,
        subst (λ shape. under shape (g.I.Read.remaining c.args.input)) c.in-Ok.ensures.shape (subst (under request.shape) c.new.ensures.input of),
      );
    }
