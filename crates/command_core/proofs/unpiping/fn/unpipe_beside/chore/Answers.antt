use Rattle.std.proofs.Common.{◌≡◌, rules}
use Rattle.command_core.proofs.unpiping.fn.unpipe_beside.chore.Goals as goal

pub returns : goal.returns
returns g c = record {
  alone = c.unpipe_read.ensures.alone;
  run = λ output before is tells.
      let same : c.in-Some.output ≡ output = search rules in
      rw same at c.unpipe_read.ensures.run before tells;
  read = c.unpipe_read.ensures.read;
}
