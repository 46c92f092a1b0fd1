use Rattle.std.proofs.Common.{◌≡◌, ℕ, ◌+◌, ◌*◌, ◌/◌, List, ◌++◌, length, refl, ap, ◌∙◌, subst, arith}
use Rattle.chacha_core.specs.ChaCha20.{chacha20, xor_from}
use Rattle.poly_core.specs.Poly1305.{pad16}
use Rattle.poly_core.specs.Absorbed.{Absorbed}
use Rattle.aead_core.specs.Aead.{one_time_key, enciphered, tag_of}
use Rattle.aead_core.proofs.StripLemmas.{EncipheredTo, AbsorbedTo, enciphered_step, absorbed_step, absorbed_none}
use Rattle.aead_core.proofs.StripLemmas.{enciphered_all, absorbed_all}
use Rattle.aead_core.proofs.seal_in_place.Goals as goal

pub strips-init : goal.strips-init
unfolding chacha20 xor_from
strips-init c = (refl, absorbed_none _ c.args.key.now c.args.nonce.now c.args.aad.now c.args.text.now c.begin-mac.ensures)

pub strips-preserved : goal.strips-preserved
strips-preserved c =
    let i = c.strips.i in
    let at : ℕ = 65536 * i in
    let end : ℕ = 65536 * i + 65536 in
    let next : end ≡ 65536 * (i + 1) = omega arith in
    let (done, held) = c.strips.invariant in
    let key = c.args.key.now in
    let nonce = c.args.nonce.now in
    let long = c.strips.auto.text in
    let strip = enciphered_step key nonce c.args.text.now c.strips.text c.seal_strip.new.text at end (omega arith)
    (omega arith) (omega (arith, c.strips-test.true)) done c.seal_strip.ensures.text in
    let taken = absorbed_step c.seal_strip.new.mac key nonce c.args.aad.now c.strips.text c.seal_strip.new.text _ at end
    (omega arith) (omega (arith, long, c.strips-test.true)) c.seal_strip.ensures.text (c.seal_strip.ensures.mac _ _ held) in
    subst (λ (n : ℕ). EncipheredTo key nonce n c.args.text.now c.seal_strip.new.text
    × AbsorbedTo c.seal_strip.new.mac key nonce c.args.aad.now n c.seal_strip.new.text) next (strip, taken)

-- the last strip, which ends where the text does
last : (c : goal.After-finish)
    → (c.seal_strip-2.new.text ≡ enciphered c.args.key.now c.args.nonce.now c.args.text.now)
    × Absorbed c.seal_strip-2.new.mac (one_time_key c.args.key.now c.args.nonce.now)
    ((c.args.aad.now ++ pad16 c.args.aad.now) ++ c.seal_strip-2.new.text)
unfolding enciphered
last c =
    let key = c.args.key.now in
    let nonce = c.args.nonce.now in
    let aad = c.args.aad.now in
    let text = c.args.text.now in
    let new = c.seal_strip-2.new.text in
    let mac = c.seal_strip-2.new.mac in
    let end : ℕ = length c.strips.text in
    let at : ℕ = 65536 * (length text / 65536) in
    let long = c.strips.auto.text in
    let upto : c.strips.i ≡ length text / 65536 = omega (arith, c.strips.auto.i-end, c.strips-test.false) in
    let (done, held) = subst (λ (i : ℕ). EncipheredTo key nonce (65536 * i) text c.strips.text
    × AbsorbedTo c.strips.mac key nonce aad (65536 * i) c.strips.text) upto c.strips.invariant in
    let strip = enciphered_step key nonce text c.strips.text new at end (omega arith) (omega (arith, long))
    (omega (arith, long)) done c.seal_strip-2.ensures.text in
    let taken = absorbed_step mac key nonce aad c.strips.text new _ at end (omega (arith, long)) (omega (arith, long))
    c.seal_strip-2.ensures.text (c.seal_strip-2.ensures.mac _ _ held) in (
      enciphered_all key nonce text new end (omega (arith, long)) strip,
      absorbed_all mac key nonce aad new end (omega (arith, long, c.seal_strip-2.auto.text)) taken,
    )

pub returns-clause-ciphertext : goal.returns-clause-ciphertext
returns-clause-ciphertext c = (last c).0

pub returns-clause-tag : goal.returns-clause-tag
unfolding tag_of
returns-clause-tag c =
    c.finish.ensures (one_time_key c.args.key.now c.args.nonce.now) (last c).1
    ∙ ap (λ (l : List ℕ). tag_of c.args.key.now c.args.nonce.now c.args.aad.now l) (last c).0
