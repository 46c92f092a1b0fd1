use Rattle.std.proofs.Common.{◌≡◌, ℕ, ◌-◌, ◌*◌, List, [], ◌<◌, length, take, drop, min, ap, sym, ◌∙◌, subst, arith}
use Rattle.std.proofs.lemmas.List.{take_min, length-drop}
use Rattle.container_core.specs.Chunks.{chunk_count}
use Rattle.container_core.specs.Views.{CutView}
use Rattle.container_core.proofs.PartsLemmas.{get_or-chunks}
use Rattle.container_core.proofs.cutting.Cut.chunk_of.Goals as goal

pub returns-clause-chunk : goal.returns-clause-chunk
returns-clause-chunk c =
    let plain = c.args.plain.now in
    let size = c.args.self.size in
    let rest = drop (c.args.number * size) plain in
    let left : length rest ≡ length plain - c.args.number * size = length-drop (c.args.number * size) plain in
    let bytes : c.place-bytes.result.1 ≡ min size (length rest) = omega (arith, left, c.place-bytes.ensures.bytes, c.requires.plain) in
    let below : c.args.number < chunk_count size (length plain) = subst (λ (n : ℕ). c.args.number < chunk_count size n) (sym c.requires.plain) c.requires.number in
    let sized : c.self.inside.size ≡ size = ap (λ (v : CutView). v.size) c.self.view_is in
    c.split_at-2.ensures.front
    ∙ ap (λ (l : List ℕ). take c.place-bytes.result.1 l)
    (c.split_at.ensures.back ∙ ap (λ s. drop (c.args.number * s) plain) sized)
    ∙ ap (λ (k : ℕ). take k rest) bytes ∙ take_min size rest
    ∙ sym (get_or-chunks size plain c.args.number [] (omega (arith, c.self.invariant.least, sized)) below)
