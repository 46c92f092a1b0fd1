use Rattle.std.proofs.Common.{arith, refl, ◌≡◌, ◌+◌, ◌-◌, ◌*◌, ◌≤◌, ◌<◌, ◌∙◌, ℕ, List, true, length, take, ap, sym, subst}
use Rattle.std.proofs.lemmas.List.{with_items_is}
use Rattle.container_core.specs.Chunks.{chunks}
use Rattle.container_core.specs.Container.{size_in}
use Rattle.container_core.specs.Stream.{stream_by}
use Rattle.sealing_core.proofs.PieceLemmas.{before_last, fits_last, last_sealed}
use Rattle.sealing_core.proofs.round.Round.seal_last.Goals as goal

numbers : (each mine chunks : ℕ) → mine ≡ each → 0 < chunks → each * chunks ≤ 4294967295 → mine * (chunks - 1) + each ≤ 4294967295
numbers each mine chunks e some few =
    let all = before_last each (chunks - 1) chunks some refl in
    subst (λ (n : ℕ). n * (chunks - 1) + each ≤ 4294967295) (sym e) (omega arith)

pub overflow_mul-first : goal.overflow_mul-first
overflow_mul-first g c =
    let may = c.requires.last c.if-not-self.false in
    let most = numbers g.N.Naming.each c.args.context.now.plan.each c.args.self.now.intake.blocks c.args.context.now.named.2 may.some may.numbers in
    omega arith

pub seal_block-self-requires-clause-filled : goal.seal_block-self-requires-clause-filled
seal_block-self-requires-clause-filled g c =
    let few = (c.requires.last c.if-not-self.false).filled c.if-self.false in
    let most = c.args.context.now.fits.1 in
    omega arith

pub seal_block-self-requires-clause-text : goal.seal_block-self-requires-clause-text
seal_block-self-requires-clause-text g c =
    let may = c.requires.last c.if-not-self.false in
    let fits = fits_last g.N.Naming.each g.N.Naming.header _ _ c.args.context.now.fits.0 c.args.context.now.named.1 (may.filled c.if-self.false) in
    let bytes = fits.bytes in
    let long = may.long in
    let same = c.as_mut_slice.ensures.len in
    omega arith

pub seal_block-self-requires-clause-numbers : goal.seal_block-self-requires-clause-numbers
seal_block-self-requires-clause-numbers g c =
    let may = c.requires.last c.if-not-self.false in
    let fits = fits_last g.N.Naming.each g.N.Naming.header _ _ c.args.context.now.fits.0 c.args.context.now.named.1 (may.filled c.if-self.false) in
    let count = fits.count in
    let most = numbers g.N.Naming.each c.args.context.now.plan.each c.args.self.now.intake.blocks c.args.context.now.named.2 may.some may.numbers in
    omega arith

pub returns-clause-may : goal.returns-clause-may
returns-clause-may g c = λ ended.
    let may = c.requires.last c.if-not-self.false in
    let fits = fits_last g.N.Naming.each g.N.Naming.header _ _ c.args.context.now.fits.0 c.args.context.now.named.1 (may.filled c.if-self.false) in
    let bytes = fits.bytes in
    let long = may.long in
    let same = c.as_mut_slice.ensures.len in
    let kept = c.seal_block-self.ensures.length in
    let is = with_items_is c.args.self.now.last c.seal_block-self.new.text (omega arith) in
    let count = ap (λ (l : List ℕ). length l) is in
    let sealed = c.seal_block-self.ensures.bytes in
    record {
      some = may.some;
      numbers = may.numbers;
      long = omega arith;
      filled = λ p. cc;
      within = omega arith;
    }

pub returns-clause-last : goal.returns-clause-last
returns-clause-last g c = λ number is was.
    let may = c.requires.last c.if-not-self.false in
    let fits = fits_last g.N.Naming.each g.N.Naming.header _ _ c.args.context.now.fits.0 c.args.context.now.named.1 (may.filled c.if-self.false) in
    let bytes = fits.bytes in
    let long = may.long in
    let same = c.as_mut_slice.ensures.len in
    let kept = c.seal_block-self.ensures.length in
    let items = with_items_is c.args.self.now.last c.seal_block-self.new.text (omega arith) in
    let sealed = c.seal_block-self.ensures.bytes in
    let at : c.args.self.now.intake.blocks - 1 ≡ number = omega arith in
    let first = ap (λ (n : ℕ). n * (c.args.self.now.intake.blocks - 1)) c.args.context.now.named.2 ∙ ap (λ (n : ℕ). g.N.Naming.each * n) at in
    last_sealed g.N.Naming.each g.N.Naming.key g.N.Naming.header _ _ g.N.Naming.told number _ c.seal_block-self.result c.args.self.now _ c.seal_block-self.new.text
    c.args.context.now.named.0 c.args.context.now.named.1 first c.if-self.false refl refl (omega arith) items (omega arith)
    (c.seal_block-self.ensures.sealed
    ∙ ap (λ (l : List ℕ). stream_by c.args.context.now.key.now c.args.context.now.header.now (c.args.context.now.plan.each * (c.args.self.now.intake.blocks - 1)) true (chunks (size_in c.args.context.now.header.now) (take c.args.self.now.filled l))) c.as_mut_slice.ensures.value)
    was
