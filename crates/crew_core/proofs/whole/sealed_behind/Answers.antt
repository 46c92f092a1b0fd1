use Rattle.std.proofs.Common.{◌≡◌, ℕ, length, ap, ◌∙◌, arith}
use Rattle.container_core.specs.Chunks.{chunk_count}
use Rattle.container_core.specs.Container.{size_in}
use Rattle.container_core.proofs.PartsLemmas.{body-count}
use Rattle.crew_core.proofs.whole.sealed_behind.Goals as goal

pub seal_rounds-requires-clause-room : goal.seal_rounds-requires-clause-room
seal_rounds-requires-clause-room g c κs within =
    let size = size_in c.args.header.now in
    let plain = length c.args.plain.now in
    let count : c.count-chunks.result ≡ chunk_count size plain =
    c.count-chunks.ensures.count ∙ ap (λ (s : ℕ). chunk_count s c.of.result.plain) c.of.ensures.size
    ∙ ap (λ (n : ℕ). chunk_count size n) c.of.ensures.plain in
    let body = body-count size plain in
    omega (arith, count, body, c.in_ok-out.ensures.capacity, c.in_ok-out.ensures.len, c.extend_from_slice.ensures.capacity, c.in-Ok.ensures.len)
