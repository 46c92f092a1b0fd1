use Rattle.std.proofs.Common.{◌≡◌, ◌+◌, ◌++◌, Bool, true, false, List, ℕ, length, ap, sym, ◌∙◌}
use Rattle.std.proofs.lemmas.Result.{IfOk-weaker}
use Rattle.container_core.specs.Chunks.{chunk_count, chunks}
use Rattle.container_core.specs.Container.{size_in}
use Rattle.container_core.specs.Stream.{stream_by}
use Rattle.crew_core.proofs.whole.seal_round.Goals as goal

pub returns-clause-begins : goal.returns-clause-begins
returns-clause-begins g c =
    let key = c.args.key.now in
    let header = c.args.header.now in
    let first = c.args.first in
    let plain = c.args.plain.now in
    let size = size_in header in
    IfOk-weaker c.sealed_behind.result _ _
    (λ out is last more some.
    let now : out.items ≡ stream_by key header first false (chunks size plain) = is ∙ ap (λ (b : Bool). stream_by key header first b (chunks size plain)) last in
    let count : length (chunks size plain) ≡ chunk_count size (length plain) = c.chunks_by_number.ensures.count size plain in
    sym (c.rounds_of_a_stream.ensures.whole key header first (chunks size plain ++ more))
    ∙ c.rounds_of_a_stream.ensures.pieces key header first true (chunks size plain) more some
    ∙ ap (λ (s : List ℕ). s ++ stream_by key header (first + length (chunks size plain)) true more) (sym now)
    ∙ ap (λ (n : ℕ). out.items ++ stream_by key header (first + n) true more) count
    ∙ ap (λ (s : List ℕ). out.items ++ s) (c.rounds_of_a_stream.ensures.whole key header (first + chunk_count size (length plain)) more))
    c.sealed_behind.ensures
