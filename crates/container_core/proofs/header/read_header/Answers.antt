use Rattle.std.proofs.Common.{◌≡◌, ℕ, List, ◌++◌, length, take, get_or, ap, sym, ◌∙◌, subst, arith, length-take-le, get_or-take}
use Rattle.container_core.specs.Views.{IsHeader}
use Rattle.container_core.specs.Container.{label_in}
use Rattle.container_core.proofs.HeaderLemmas.{good_header, shape-bounds}
use Rattle.container_core.proofs.header.read_header.Goals as goal

pub returns-in-None-clause-enough : goal.returns-in-None-clause-enough
returns-in-None-clause-enough c =
    (good_header c.args.key.now c.args.bytes.now (sym c.fault_of.ensures ∙ c.in-None.is)).whole

pub slice_bounds-append-end : goal.slice_bounds-append-end
slice_bounds-append-end c =
    let good = good_header c.args.key.now c.args.bytes.now (sym c.fault_of.ensures ∙ c.in-None.is) in
    sym (length-take-le c.header_bytes.result c.args.bytes.now (omega (arith, good.whole, c.header_bytes.ensures.value)))

pub invariant_of-result : goal.invariant_of-result
invariant_of-result c =
    let bytes = c.args.bytes.now in
    let good = good_header c.args.key.now bytes (sym c.fault_of.ensures ∙ c.in-None.is) in
    let header = take c.header_bytes.result bytes in
    let is : c.append.new.self ≡ header = c.append.ensures ∙ ap (λ (l : List ℕ). l ++ header) c.new-image.ensures in
    let least = c.header_bytes.ensures.least in
    let same : get_or header 9 0 ≡ get_or bytes 9 0 = get_or-take c.header_bytes.result bytes 9 0 (omega (arith, least)) in
    let bounds = shape-bounds (get_or bytes 9 0) (label_in bytes) good.shape in
    let long : length header ≡ c.header_bytes.result =
    length-take-le c.header_bytes.result bytes (omega (arith, good.whole, c.header_bytes.ensures.value)) in
    let of_header : IsHeader header = record {
      least = omega (arith, same, bounds.0);
      most = omega (arith, same, bounds.1);
      long = omega (arith, long, least);
    } in
    subst (λ (h : List ℕ). IsHeader h) (sym is) of_header
