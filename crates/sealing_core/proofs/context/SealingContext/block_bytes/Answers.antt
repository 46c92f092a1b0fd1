use Rattle.std.proofs.Common.{arith, ◌*◌, ◌<◌, ◌∙◌, ℕ, ap, sym, subst}
use Rattle.container_core.specs.Container.{size_in}
use Rattle.sealing_core.proofs.BlockLemmas.{pos_times}
use Rattle.sealing_core.proofs.context.SealingContext.block_bytes.Goals as goal

pub returns-clause-some : goal.returns-clause-some
returns-clause-some g c =
    let least = c.chunk.ensures.least in
    pos_times c.args.self.now.plan.each c.chunk.result (subst (λ (e : ℕ). 0 < e) (sym c.args.self.now.named.2) c.args.self.now.fits.0) (omega arith)

pub returns-clause-most : goal.returns-clause-most
returns-clause-most g c =
    let is = ap (λ (e : ℕ). e * c.chunk.result) c.args.self.now.named.2
    ∙ ap (λ (s : ℕ). g.N.Naming.each * s) (c.chunk.ensures.value ∙ ap size_in c.args.self.now.named.1) in
    let most = c.args.self.now.fits.1 in
    omega arith
