use Rattle.std.proofs.Common.{◌≡◌, ℕ, ◌+◌, ◌-◌, ◌*◌, ◌<◌, take, drop, min, ap, sym, ◌∙◌, subst, arith}
use Rattle.container_core.specs.Chunks.{chunk_count}
use Rattle.container_core.specs.Views.{CutView}
use Rattle.container_core.proofs.PartsLemmas.{count-below, place-sealed_chunks, place-inside}
use Rattle.container_core.proofs.cutting.Cut.place.Goals as goal

pub overflow_sub-self-inside : goal.overflow_sub-self-inside
overflow_sub-self-inside c =
    let below : c.args.number < chunk_count c.self.inside.size c.self.inside.plain =
    subst (λ (v : CutView). c.args.number < chunk_count v.size v.plain) (sym c.self.view_is) c.requires in
    let fits = count-below c.self.inside.size c.self.inside.plain c.args.number below in
    let same : c.from.result * c.self.inside.size ≡ c.args.number * c.self.inside.size = ap (λ k. k * c.self.inside.size) c.from.ensures in
    omega (arith, fits, same)

pub returns-clause-chunk : goal.returns-clause-chunk
returns-clause-chunk c = λ body long.
    let size = c.args.self.size in
    let plain = c.args.self.plain in
    let sized : c.self.inside.size ≡ size = ap (λ (v : CutView). v.size) c.self.view_is in
    let whole : c.self.inside.plain ≡ plain = ap (λ (v : CutView). v.plain) c.self.view_is in
    let from : c.from.result * c.self.inside.size ≡ c.args.number * size =
    ap (λ k. k * c.self.inside.size) c.from.ensures ∙ ap (λ s. c.args.number * s) sized in
    let begins : c.from-2.result * (c.self.inside.size + 16) ≡ c.args.number * (size + 16) =
    ap (λ k. k * (c.self.inside.size + 16)) c.from-2.ensures ∙ ap (λ s. c.args.number * (s + 16)) sized in
    let bytes : c.min-bytes.result ≡ min size (plain - c.args.number * size) = omega (arith, c.min-bytes.ensures, from, sized, whole) in
    place-sealed_chunks size body plain c.args.number (omega (arith, c.self.invariant.least, sized)) long c.requires
    ∙ ap (λ (k : ℕ). take (k + 16) (drop (c.args.number * (size + 16)) body)) (sym bytes)
    ∙ ap (λ (k : ℕ). take (c.min-bytes.result + 16) (drop k body)) (sym begins)

pub returns-clause-within : goal.returns-clause-within
returns-clause-within c = count-below c.args.self.size c.args.self.plain c.args.number c.requires

pub returns-clause-inside : goal.returns-clause-inside
returns-clause-inside c =
    let size = c.args.self.size in
    let plain = c.args.self.plain in
    let sized : c.self.inside.size ≡ size = ap (λ (v : CutView). v.size) c.self.view_is in
    let whole : c.self.inside.plain ≡ plain = ap (λ (v : CutView). v.plain) c.self.view_is in
    let from : c.from.result * c.self.inside.size ≡ c.args.number * size =
    ap (λ k. k * c.self.inside.size) c.from.ensures ∙ ap (λ s. c.args.number * s) sized in
    let begins : c.from-2.result * (c.self.inside.size + 16) ≡ c.args.number * (size + 16) =
    ap (λ k. k * (c.self.inside.size + 16)) c.from-2.ensures ∙ ap (λ s. c.args.number * (s + 16)) sized in
    let bytes : c.min-bytes.result ≡ min size (plain - c.args.number * size) = omega (arith, c.min-bytes.ensures, from, sized, whole) in
    let inside = place-inside size plain c.args.number (omega (arith, c.self.invariant.least, sized)) c.requires in
    omega (arith, inside, begins, bytes)
