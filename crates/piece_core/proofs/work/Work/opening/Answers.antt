use Rattle.std.proofs.Common.{◌≡◌, length, length-take-le, take, arith, ap, ◌∙◌}
use Rattle.container_core.specs.Container.{header_length}
use Rattle.container_core.proofs.PartsLemmas.{most_of-few}
use Rattle.piece_core.proofs.work.Work.opening.Goals as goal

pub invariant_of-result : goal.invariant_of-result
invariant_of-result c =
    let bytes = c.args.container.now in
    let header : length c.bytes.result.now ≡ length (take (header_length bytes) bytes) = ap (λ h. length h) (c.bytes.ensures.bytes ∙ c.in-Ok.ensures.header) in
    let front = length-take-le (header_length bytes) bytes (omega (arith, c.in-Ok.ensures.cut)) in
    let most = most_of-few 4503599626321920 c.in-Ok.cut.size in
    record {
      size = c.in-Ok.ensures.size;
      few = omega (arith, most, c.in-Ok.ensures.few);
      bytes = omega (arith, c.in-Ok.ensures.cut, header, front);
    }
