use Rattle.std.proofs.Common.{arith, ◌≡◌, ◌+◌, ◌*◌, ◌≤◌, ◌∙◌, ℕ, List, false, length, take, ap, sym, subst}
use Rattle.std.proofs.lemmas.List.{take_all, with_items_is}
use Rattle.container_core.specs.Chunks.{chunks}
use Rattle.container_core.specs.Container.{size_in}
use Rattle.container_core.specs.Stream.{stream_by}
use Rattle.sealing_core.specs.Pieces.{block}
use Rattle.sealing_core.proofs.PieceLemmas.{fits_full, part_of}
use Rattle.sealing_core.proofs.piece.make_piece.Goals as goal

numbers : (each mine number : ℕ) → mine ≡ each → each * (number + 1) ≤ 4294967295 → mine * number + each ≤ 4294967295
numbers each mine number e few = subst (λ (n : ℕ). n * number + each ≤ 4294967295) (sym e) (omega arith)

pub overflow_mul-first : goal.overflow_mul-first
overflow_mul-first g c =
    let most = numbers g.N.Naming.each c.args.context.now.plan.each c.args.number c.args.context.now.named.2 c.requires.numbers in
    omega arith

pub seal_block-requires-clause-text : goal.seal_block-requires-clause-text
seal_block-requires-clause-text g c =
    let fits = fits_full g.N.Naming.each g.N.Naming.header _ c.block_bytes-size.result _ c.args.context.now.fits.0 c.args.context.now.named.1 c.block_bytes-size.ensures.value c.requires.buffer in
    let bytes = fits.bytes in
    let same = c.as_mut_slice.ensures.len in
    let long = c.requires.buffer in
    omega arith

pub seal_block-requires-clause-numbers : goal.seal_block-requires-clause-numbers
seal_block-requires-clause-numbers g c =
    let fits = fits_full g.N.Naming.each g.N.Naming.header _ c.block_bytes-size.result _ c.args.context.now.fits.0 c.args.context.now.named.1 c.block_bytes-size.ensures.value c.requires.buffer in
    let count = fits.count in
    let most = numbers g.N.Naming.each c.args.context.now.plan.each c.args.number c.args.context.now.named.2 c.requires.numbers in
    omega arith

pub returns-clause-piece : goal.returns-clause-piece
returns-clause-piece g c =
    let fits = fits_full g.N.Naming.each g.N.Naming.header _ c.block_bytes-size.result _ c.args.context.now.fits.0 c.args.context.now.named.1 c.block_bytes-size.ensures.value c.requires.buffer in
    let seal = c.seal_block.ensures in
    let bytes = fits.bytes in
    let sealed = seal.bytes in
    let same = c.as_mut_slice.ensures.len in
    let kept = seal.length in
    let long = c.requires.buffer in
    let items = with_items_is c.args.buffer c.seal_block.new.text (omega arith) in
    let count = ap (λ (l : List ℕ). length l) items in
    let all = take_all c.seal_block.result c.seal_block.new.text (omega arith) in
    let first = ap (λ (n : ℕ). n * c.args.number) c.args.context.now.named.2 in (
      omega arith,
      part_of g.N.Naming.each g.N.Naming.key g.N.Naming.header _ _ g.N.Naming.told c.args.number _ false
          (take (block g.N.Naming.each g.N.Naming.header) c.args.buffer.items) _ c.args.context.now.named.0 c.args.context.now.named.1 first c.requires.text
          (items ∙ sym all ∙ seal.sealed
          ∙ ap (λ (l : List ℕ). stream_by c.args.context.now.key.now c.args.context.now.header.now (c.args.context.now.plan.each * c.args.number) false (chunks (size_in c.args.context.now.header.now) (take c.block_bytes-size.result l))) c.as_mut_slice.ensures.value
          ∙ ap (λ (n : ℕ). stream_by c.args.context.now.key.now c.args.context.now.header.now (c.args.context.now.plan.each * c.args.number) false (chunks (size_in c.args.context.now.header.now) (take n c.args.buffer.items))) c.block_bytes-size.ensures.value),
    )
