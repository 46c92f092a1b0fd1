use Rattle.std.proofs.Common.{ℕ, ◌*◌, ◌/◌, ◌-◌, ◌∙◌, arith, length}
use Rattle.chacha_core.proofs.StreamLemmas.{chacha20_done, chacha20_end}
use Rattle.chacha_core.proofs.four.apply_by_four.Goals as goal

pub returns-then-text-groups : goal.returns-then-text-groups
returns-then-text-groups c =
    let old = c.args.text.now in
    let g : ℕ = length old / 256 in
    let a : ℕ = 256 * g in
    chacha20_end c.args.key.now c.args.nonce.now c.args.first (4 * g) a (length c.apply_groups.new.text - a) old
    c.apply_groups.new.text c.apply_rest.new.text (omega arith) (omega arith) c.apply_groups.ensures
    c.apply_rest.ensures

pub returns-else-text-groups : goal.returns-else-text-groups
returns-else-text-groups c =
    c.apply_groups.ensures
    ∙ chacha20_done c.args.key.now c.args.nonce.now c.args.first (256 * (length c.args.text.now / 256)) c.args.text.now
    (omega arith)
