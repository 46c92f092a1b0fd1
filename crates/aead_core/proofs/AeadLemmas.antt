-- The AEAD pair and its opening, in both directions.
use Rattle.std.proofs.Common.{◌≡◌, ℕ, ◌-◌, ◌%◌, List, ◌++◌, length, replicate, Some, None, Bool, true, false}
use Rattle.std.proofs.Common.{if◌then◌else◌, refl, sym, ap, ◌∙◌, arith}
use Rattle.std.proofs.lemmas.List.{length-append, length-replicate}
use Rattle.std.proofs.lemmas.Slice.Eq.{bytes_eq-Decides}
use Rattle.std.specs.Str.{bytes_eq}
use Rattle.chacha_core.proofs.StreamLemmas.{length-chacha20, chacha20-chacha20}
use Rattle.poly_core.specs.Poly1305.{poly1305, pad16}
use Rattle.aead_core.specs.Aead.{enciphered, tag_of, aead, opened}

not_true : (b : Bool) → (b ≡ true → ⊥) → b ≡ false
not_true true differs = absurd (differs refl)
not_true false differs = refl

from_some : (b : Bool) (x p : List ℕ) → (if b then Some x else None) ≡ Some p → (b ≡ true) × (x ≡ p)
from_some true x p e = (refl, cc)
from_some false x p e = cc

pub length-enciphered : (key nonce text : List ℕ) → length (enciphered key nonce text) ≡ length text
unfolding enciphered
length-enciphered key nonce text = length-chacha20 key nonce 1 text

pub length-tag_of : (key nonce aad ciphertext : List ℕ) → length (tag_of key nonce aad ciphertext) ≡ 16
unfolding tag_of poly1305
length-tag_of key nonce aad ciphertext = refl

pub enciphered-enciphered : (key nonce text : List ℕ) → enciphered key nonce (enciphered key nonce text) ≡ text
unfolding enciphered
enciphered-enciphered key nonce text = chacha20-chacha20 key nonce 1 text

-- the right tag opens
pub opened-tag_of : (key nonce aad ciphertext tag : List ℕ) → tag ≡ tag_of key nonce aad ciphertext
    → opened key nonce aad ciphertext tag ≡ Some (enciphered key nonce ciphertext)
unfolding opened
opened-tag_of key nonce aad ciphertext tag right =
    let test = (bytes_eq-Decides tag (tag_of key nonce aad ciphertext)).1 right in
    ap (λ (b : Bool). if b then Some (enciphered key nonce ciphertext) else None) test

pub opened-aead : (key nonce aad plaintext : List ℕ)
    → opened key nonce aad (aead key nonce aad plaintext).0 (aead key nonce aad plaintext).1 ≡ Some plaintext
opened-aead key nonce aad plaintext =
    opened-tag_of key nonce aad (enciphered key nonce plaintext)
    (tag_of key nonce aad (enciphered key nonce plaintext)) refl
    ∙ ap (λ (zs : List ℕ). Some zs) (enciphered-enciphered key nonce plaintext)

-- a wrong tag doesn't open
pub opened-wrong : (key nonce aad ciphertext tag : List ℕ) → (tag ≡ tag_of key nonce aad ciphertext → ⊥)
    → opened key nonce aad ciphertext tag ≡ None
unfolding opened
opened-wrong key nonce aad ciphertext tag wrong =
    let t = tag_of key nonce aad ciphertext in
    let test : bytes_eq tag t ≡ false = not_true (bytes_eq tag t) (λ e. wrong ((bytes_eq-Decides tag t).0 e)) in
    ap (λ (b : Bool). if b then Some (enciphered key nonce ciphertext) else None) test

-- if the tag is right, the decrypted text is the plaintext of the pair
pub aead-enciphered : (key nonce aad ciphertext tag plaintext : List ℕ) → plaintext ≡ enciphered key nonce ciphertext
    → tag ≡ tag_of key nonce aad ciphertext → aead key nonce aad plaintext ≡ (ciphertext, tag)
aead-enciphered key nonce aad ciphertext tag plaintext made right =
    let back : enciphered key nonce plaintext ≡ ciphertext =
    ap (enciphered key nonce) made ∙ enciphered-enciphered key nonce ciphertext in
    ap (λ (c : List ℕ). (c, tag_of key nonce aad c)) back ∙ ap (λ (t : List ℕ). (ciphertext, t)) (sym right)

pub aead-opened : (key nonce aad ciphertext tag plaintext : List ℕ) → opened key nonce aad ciphertext tag
    ≡ Some plaintext
    → aead key nonce aad plaintext ≡ (ciphertext, tag)
unfolding opened
aead-opened key nonce aad ciphertext tag plaintext e =
    let t = tag_of key nonce aad ciphertext in
    let both = from_some (bytes_eq tag t) (enciphered key nonce ciphertext) plaintext e in
    aead-enciphered key nonce aad ciphertext tag plaintext (sym both.1) ((bytes_eq-Decides tag t).0 both.0)

-- the zeros after a text that follows padded bytes
pub pad16-padded : (aad text : List ℕ) → pad16 ((aad ++ pad16 aad) ++ text) ≡ pad16 text
pad16-padded aad text =
    let n : ℕ = (16 - length aad % 16) % 16 in
    let long = length-append (aad ++ pad16 aad) text in
    let front = length-append aad (pad16 aad) in
    let pad : length (pad16 aad) ≡ n = length-replicate {A = ℕ} n 0 in
    let same : (16 - length ((aad ++ pad16 aad) ++ text) % 16) % 16 ≡ (16 - length text % 16) % 16 = omega arith in
    ap (λ k. replicate k 0) same
