use Rattle.std.proofs.Common.{ap, refl, sym, ◌∙◌, List, ℕ, Some}
use Rattle.aead_core.proofs.AeadLemmas.{aead-enciphered, opened-tag_of, opened-wrong}
use Rattle.aead_core.proofs.open_in_place.Goals as goal

pub returns-then-check-clause-plaintext : goal.returns-then-check-clause-plaintext
returns-then-check-clause-plaintext c = λ _.
    aead-enciphered c.args.key.now c.args.nonce.now c.args.aad.now c.args.text.now c.args.tag.now c.encipher.new.text
    c.encipher.ensures (c.if-check.ensures.0 refl)

pub returns-then-check-clause-value : goal.returns-then-check-clause-value
returns-then-check-clause-value c =
    opened-tag_of c.args.key.now c.args.nonce.now c.args.aad.now c.args.text.now c.args.tag.now
    (c.if-check.ensures.0 refl)
    ∙ ap (λ (p : List ℕ). Some p) (sym c.encipher.ensures)

pub returns-else-check-clause-value : goal.returns-else-check-clause-value
returns-else-check-clause-value c =
    opened-wrong c.args.key.now c.args.nonce.now c.args.aad.now c.args.text.now c.args.tag.now
    (λ right. let differs = c.if-check.ensures.1 right in cc)

pub returns-else-check-clause-unchanged : goal.returns-else-check-clause-unchanged
returns-else-check-clause-unchanged c = λ _. refl
