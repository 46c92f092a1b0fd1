use Rattle.std.proofs.Common.{arith, length}
use Rattle.container_core.specs.Container.{size_in}
use Rattle.opening_core.proofs.FrontLemmas.{container-few}
use Rattle.opening_core.proofs.SentLemmas.{begun-none, sent-nothing}
use Rattle.opening_core.proofs.windows.open_body.Goals as goal

pub overflow_add-most : goal.overflow_add-most
overflow_add-most g c =
    let few = container-few (length c.args.context.now.header.now) (size_in c.args.context.now.header.now) c.args.context.now.max_bytes c.bytes-image.ensures.size.0 c.args.context.now.most in
    omega (arith, few, c.longest_bytes.ensures, c.requires.front.short)

pub returns-in-Err-clause-begun : goal.returns-in-Err-clause-begun
returns-in-Err-clause-begun g c = λ opening. begun-none c.args.context.now.key.now c.args.context.now.header.now c.args.context.now.max_bytes _ _

pub returns-in-Err-clause-sent : goal.returns-in-Err-clause-sent
returns-in-Err-clause-sent g c = λ opening. sent-nothing c.args.context.now.key.now c.args.context.now.header.now _ _
