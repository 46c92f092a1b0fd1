use Rattle.std.proofs.Common.{◌≡◌, ℕ, ◌+◌, ◌*◌, ◌-◌, List, length, ap, ◌∙◌, arith}
use Rattle.std.proofs.lemmas.List.{length-drop}
use Rattle.container_core.specs.Chunks.{chunk_count}
use Rattle.container_core.proofs.PartsLemmas.{count-more}
use Rattle.crew_core.proofs.rounds.split_plain.Goals as goal

pub returns-clause-counted : goal.returns-clause-counted
returns-clause-counted c =
    let step = c.args.count * c.args.size in
    let rest = c.args.rest.now in
    let left : length c.split_at.result.1.now ≡ length rest - step = ap (λ (l : List ℕ). length l) c.split_at.ensures.back ∙ length-drop step rest in
    let parted : length rest ≡ step + length c.split_at.result.1.now = omega (arith, left, c.requires.full) in
    ap (λ (n : ℕ). chunk_count c.args.size n) parted
    ∙ count-more c.args.size c.args.count (length c.split_at.result.1.now) c.requires.size (omega (arith, left, c.requires.full))
