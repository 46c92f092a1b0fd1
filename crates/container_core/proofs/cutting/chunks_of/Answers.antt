use Rattle.std.proofs.Common.{◌≡◌, ◌-◌, arith}
use Rattle.container_core.proofs.PartsLemmas.{count-few, count-full, count-numbers}
use Rattle.container_core.proofs.cutting.chunks_of.Goals as goal

pub returns-clause-fewer : goal.returns-clause-fewer
returns-clause-fewer c = λ least sealed.
    let few = count-few c.args.size c.args.plain least sealed in
    let full = count-full c.args.size c.args.plain in
    let before : c.saturating_sub.result ≡ c.args.plain - 1 = omega arith in
    rw before (omega (arith, few, full))

pub returns-clause-numbers : goal.returns-clause-numbers
returns-clause-numbers c = λ fits.
    let few = count-numbers c.args.size c.args.plain c.requires.size fits in
    let full = count-full c.args.size c.args.plain in
    let before : c.saturating_sub.result ≡ c.args.plain - 1 = omega arith in
    rw before (omega (arith, few, full))
