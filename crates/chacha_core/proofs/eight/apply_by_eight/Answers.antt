use Rattle.std.proofs.Common.{ℕ, ◌*◌, ◌/◌, ◌-◌, ◌∙◌, arith, length}
use Rattle.chacha_core.proofs.StreamLemmas.{chacha20_done, chacha20_end}
use Rattle.chacha_core.proofs.eight.apply_by_eight.Goals as goal

pub returns-then-text-groups : goal.returns-then-text-groups
returns-then-text-groups c =
    let old = c.args.text.now in
    let g : ℕ = length old / 512 in
    let a : ℕ = 512 * g in
    chacha20_end c.args.key.now c.args.nonce.now c.args.first (8 * g) a (length c.apply_groups.new.text - a) old
    c.apply_groups.new.text c.apply_by_four.new.text (omega arith) (omega arith) c.apply_groups.ensures
    c.apply_by_four.ensures

pub returns-else-text-groups : goal.returns-else-text-groups
returns-else-text-groups c =
    c.apply_groups.ensures
    ∙ chacha20_done c.args.key.now c.args.nonce.now c.args.first (512 * (length c.args.text.now / 512)) c.args.text.now
    (omega arith)
