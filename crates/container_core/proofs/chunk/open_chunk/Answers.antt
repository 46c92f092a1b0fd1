use Rattle.std.proofs.Common.{rules, ◌≡◌, ◌++◌, Bool, length, Some, None, if◌then◌else◌, ap, ◌∙◌}
use Rattle.container_core.proofs.StreamLemmas.{opened_chunk-append, sealed_chunk-opened_chunk}
use Rattle.container_core.proofs.chunk.open_chunk.Goals as goal

pub returns-clause-value : goal.returns-clause-value
returns-clause-value c =
    let sixteen : length c.args.tag.now ≡ 16 = search rules in
    let e = opened_chunk-append c.args.key.now c.args.header.now c.args.number c.args.last c.args.text.now c.args.tag.now sixteen in
    cc

pub returns-clause-was_sealed : goal.returns-clause-was_sealed
returns-clause-was_sealed c = λ accepts.
    sealed_chunk-opened_chunk c.args.key.now c.args.header.now c.args.number c.args.last (c.args.text.now ++ c.args.tag.now)
    c.open_in_place.new.text
    (returns-clause-value c ∙ ap (λ (b : Bool). if b then Some c.open_in_place.new.text else None) accepts)
