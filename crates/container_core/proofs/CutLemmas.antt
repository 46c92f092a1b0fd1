-- A plaintext of n bytes, 0 < n, is some full chunks and a rest of 1 to size bytes. Its body is as many sealed chunks,
-- and the rest with its tag. So the body's length divided by size + 16, with remainder, gives both.
use Rattle.std.proofs.Common.{◌≡◌, inl, inr, ℕ, zero, suc, ◌+◌, ◌-◌, ◌*◌, ◌/◌, ◌%◌, ◌<◌, ◌≤◌, sym, ap, ◌∙◌, arith}
use Rattle.std.proofs.lemmas.Nat.{div-add-mod', div-mul-add}
use Rattle.std.proofs.Math.Nat.{zero-div, eq-or-lt_of_le}
use Rattle.container_core.specs.Chunks.{body_length, chunk_count}

-- `full` full chunks and a rest of 1 to size bytes
pub count-of : (size full rest : ℕ) → rest < size → chunk_count size (full * size + (rest + 1)) ≡ full + 1
unfolding chunk_count
count-of size full rest less =
    let before : full * size + (rest + 1) - 1 ≡ full * size + rest = omega arith in
    ap (λ n. n / size + 1) before ∙ ap (λ q. q + 1) (div-mul-add full size rest less)

pub body-of : (size full rest : ℕ) → rest < size → body_length size (full * size + (rest + 1)) ≡ full * (size + 16) + (rest + 17)
unfolding body_length
body-of size full rest less =
    let count = count-of size full rest less in
    omega (arith, count)

-- no bytes
pub body-none : (size : ℕ) → body_length size 0 ≡ 16
unfolding body_length chunk_count
body-none size = ap (λ q. 0 + 16 * (q + 1)) (zero-div size)

-- a body of some sealed chunks and a rest
pub cut-rest : (size body : ℕ) → 0 < size → 16 < body % (size + 16)
    → body ≡ body_length size (body - 16 * (body / (size + 16) + 1))
cut-rest size body some rest =
    let full = body / (size + 16) in
    let left = body % (size + 16) in
    let whole = div-add-mod' body (size + 16) in
    let less : left < size + 16 = omega (arith) in
    let plain : body - 16 * (full + 1) ≡ full * size + ((left - 17) + 1) = omega (arith, whole, rest) in
    let is = body-of size full (left - 17) (omega (arith, less, rest)) in
    let end : full * (size + 16) + ((left - 17) + 17) ≡ body = omega (arith, whole, rest) in
    sym (ap (body_length size) plain ∙ is ∙ end)

-- or of sealed chunks alone
cut-whole : (size k body : ℕ) → 0 < size → body ≡ (k + 1) * (size + 16) → body ≡ body_length size (body - 16 * (k + 1))
cut-whole size k body some whole =
    let plain : body - 16 * (k + 1) ≡ k * size + ((size - 1) + 1) = omega (arith, whole, some) in
    let is = body-of size k (size - 1) (omega (arith, some)) in
    let end : k * (size + 16) + ((size - 1) + 17) ≡ body = omega (arith, whole, some) in
    sym (ap (body_length size) plain ∙ is ∙ end)

pub cut-full : (size body : ℕ) → 0 < size → body % (size + 16) ≡ 0 → 0 < body / (size + 16)
    → body ≡ body_length size (body - 16 * (body / (size + 16)))
cut-full size body some rest many =
    let full = body / (size + 16) in
    let whole = div-add-mod' body (size + 16) in
    let one : full - 1 + 1 ≡ full = omega (arith, many) in
    let is : body ≡ (full - 1 + 1) * (size + 16) = sym (ap (λ q. q * (size + 16)) one ∙ omega (arith, whole, rest)) in
    cut-whole size (full - 1) body some is ∙ ap (λ q. body_length size (body - 16 * q)) one

-- the body of a nonempty plaintext: full sealed chunks, then 17 to size + 16 bytes
pub tells : (size n : ℕ) → 0 < size → 0 < n
    → (full : ℕ) × (rest : ℕ) × (rest < size) × (body_length size n ≡ full * (size + 16) + (rest + 17))
tells size n some more =
    let whole = div-add-mod' (n - 1) size in
    let full = (n - 1) / size in
    let rest = (n - 1) % size in
    let less : rest < size = omega arith in
    let is : n ≡ full * size + (rest + 1) = omega (arith, whole, more) in
    (full, rest, less, ap (body_length size) is ∙ body-of size full rest less)

-- the body of the empty plaintext: 16 bytes
none-tells : (size body : ℕ) → 0 < size → body ≡ 16 → (body % (size + 16) ≡ 16) × (body / (size + 16) ≡ 0)
none-tells size body some is =
    let whole = div-add-mod' body (size + 16) in
    let at : 0 * (size + 16) + 16 ≡ body = omega (arith, is) in
    let full : body / (size + 16) ≡ 0 = sym (ap (λ b. b / (size + 16)) at) ∙ div-mul-add 0 (size + 16) 16 (omega (arith, some)) in
    let none : body / (size + 16) * (size + 16) ≡ 0 * (size + 16) = ap (λ q. q * (size + 16)) full in
    (omega (arith, whole, is, none), full)

-- the rest of a body, if it is shorter than a full sealed chunk
rest-tells : (size full rest body : ℕ) → rest + 17 < size + 16 → body ≡ full * (size + 16) + (rest + 17)
    → (body % (size + 16) ≡ rest + 17) × (body / (size + 16) ≡ full)
rest-tells size full rest body less is =
    let whole = div-add-mod' body (size + 16) in
    let quotient : body / (size + 16) ≡ full = ap (λ b. b / (size + 16)) is ∙ div-mul-add full (size + 16) (rest + 17) less in
    let same : body / (size + 16) * (size + 16) ≡ full * (size + 16) = ap (λ q. q * (size + 16)) quotient in
    (omega (arith, whole, is, same), quotient)

-- or is one
full-tells : (size full body : ℕ) → 0 < size → body ≡ full * (size + 16) + (size + 16)
    → (body % (size + 16) ≡ 0) × (body / (size + 16) ≡ full + 1)
full-tells size full body some is =
    let whole = div-add-mod' body (size + 16) in
    let at : body ≡ (full + 1) * (size + 16) + 0 = omega (arith, is) in
    let quotient : body / (size + 16) ≡ full + 1 = ap (λ b. b / (size + 16)) at ∙ div-mul-add (full + 1) (size + 16) 0 (omega (arith, some)) in
    let same : body / (size + 16) * (size + 16) ≡ (full + 1) * (size + 16) = ap (λ q. q * (size + 16)) quotient in
    (omega (arith, whole, is, same), quotient)

-- no plaintext has a body with a remainder of at most 16, except 16 bytes alone, and 0 after some sealed chunk
pub no-plain : (size body n : ℕ) → 0 < size → body % (size + 16) ≤ 16 → (body % (size + 16) ≡ 16 → 0 < body / (size + 16))
    → (body % (size + 16) ≡ 0 → body / (size + 16) ≡ 0) → body ≡ body_length size n → ⊥
no-plain size body zero some few one none is =
    let tells = none-tells size body some (is ∙ body-none size) in
    let more = one tells.0 in
    absurd (omega (arith, more, tells.1))
no-plain size body (suc n) some few one none is =
    let split = tells size (suc n) some (omega arith) in
    let most : split.1 + 17 ≤ size + 16 = omega (arith, split.2) in
    elim (eq-or-lt_of_le most) [
      | inl w ↦
          let last : split.0 * (size + 16) + (split.1 + 17) ≡ split.0 * (size + 16) + (size + 16) = ap (λ r. split.0 * (size + 16) + r) w in
          let whole = full-tells size split.0 body some (is ∙ split.3 ∙ last) in
          let no = none whole.0 in absurd (omega (arith, no, whole.1))
      | inr w ↦
          let part = rest-tells size split.0 split.1 body w (is ∙ split.3) in absurd (omega (arith, part.0, few))
    ]

-- the body of the empty plaintext
pub cut-none : (size body : ℕ) → body % (size + 16) ≡ 16 → body / (size + 16) ≡ 0
    → body ≡ body_length size (body - 16 * (body / (size + 16) + 1))
cut-none size body rest full =
    let whole = div-add-mod' body (size + 16) in
    let none : body / (size + 16) * (size + 16) ≡ 0 * (size + 16) = ap (λ q. q * (size + 16)) full in
    let is : body ≡ 16 = omega (arith, whole, rest, none) in
    let plain : body - 16 * (body / (size + 16) + 1) ≡ 0 = omega (arith, is, full) in
    is ∙ sym (ap (body_length size) plain ∙ body-none size)
