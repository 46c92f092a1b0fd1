use Rattle.std.proofs.Common.{arith, refl, ◌≡◌, ◌+◌, ◌++◌, ◌∙◌, ap, sym, take, drop}
use Rattle.sealing_core.proofs.BlockLemmas.{behind_more, left_behind, sealed_here}
use Rattle.container_core.specs.Stream.{sealed_chunk}
use Rattle.sealing_core.proofs.block.seal_at.Goals as goal

pub returns-clause-sealed : goal.returns-clause-sealed
returns-clause-sealed c =
    let at = c.split_at_mut-place.ensures in
    let cut = c.split_at_mut-chunk.ensures in
    sealed_here c.args.to c.args.n _ c.seal_chunk-tag.new.text c.copy_from_slice.new.self c.split_at_mut-room.result.1.now (omega arith) (omega arith) (omega arith)
    ∙ ap (λ room. c.seal_chunk-tag.new.text ++ room) c.copy_from_slice.ensures.after ∙ c.seal_chunk-tag.ensures
    ∙ ap (sealed_chunk c.args.key.now c.args.header.now c.args.number c.args.last) (cut.front ∙ ap (take c.args.n) at.back ∙ c.move_up.ensures.moved)

pub returns-clause-behind : goal.returns-clause-behind
returns-clause-behind c =
    let k = c.args.to + c.args.n + 16 in
    let front = c.split_at_mut-place.result.0.now in
    let tail = c.split_at_mut-room.result.1.now in
    let whole : c.move_up.new.text ≡ front ++ (c.split_at_mut-chunk.result.0.now ++ (c.split_at_mut-room.result.0.now ++ tail)) =
    c.split_at_mut-place.ensures.value
    ∙ ap (λ l. front ++ l) (c.split_at_mut-chunk.ensures.value ∙ ap (λ l. c.split_at_mut-chunk.result.0.now ++ l) c.split_at_mut-room.ensures.value) in
    left_behind c.args.to c.args.n front c.seal_chunk-tag.new.text c.copy_from_slice.new.self tail (omega arith) (omega arith) (omega arith)
    ∙ sym (ap (drop k) whole ∙ left_behind c.args.to c.args.n front _ _ tail (omega arith) (omega arith) (omega arith))
    ∙ behind_more (c.args.to + c.args.n) 16 k c.move_up.new.text c.args.text.now refl c.move_up.ensures.behind
