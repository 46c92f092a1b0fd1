use Rattle.std.proofs.Common.{rules, length, arith}
use Rattle.container_core.proofs.PartsLemmas.{count-few}
use Rattle.container_core.specs.Chunks.{chunks}
use Rattle.container_core.specs.Container.{size_in}
use Rattle.crew_core.proofs.RoundLemmas.{container-round}
use Rattle.crew_core.proofs.whole.seal_whole.Goals as goal

pub returns-in-Ok-clause-container : goal.returns-in-Ok-clause-container
returns-in-Ok-clause-container g c =
    let key = c.args.key.now in
    let plain = c.args.plain.now in
    let prefix = c.prefix.ensures in
    let sealed = c.in-Ok.ensures in
    container-round key _ plain c.of-header.result _ _ c.args.shape.now (search rules)
    (c.headers_name_their_shape.ensures.size key _ c.args.shape.now) c.bytes.ensures.bytes
    (c.rounds_of_a_stream.ensures.whole key c.of-header.result 0 (chunks (size_in c.of-header.result) plain)) sealed

pub sealed_behind-requires-clause-numbers : goal.sealed_behind-requires-clause-numbers
sealed_behind-requires-clause-numbers g c κs within =
    let few = count-few (size_in c.of-header.result) (length c.args.plain.now) c.bytes.ensures.size.0 c.requires.plain in
    omega (arith, few)
