-- A file is a key file by its first 67 bytes: a longer one has an end of three bytes or more, which no key file has.
use Rattle.std.proofs.Common.{◌≡◌, ℕ, ◌+◌, ◌<◌, ◌≤◌, List, ◌++◌, length, take, drop, Option, None, Some, IfSome, []}
use Rattle.std.proofs.Common.{◌⊎◌, inl, inr, ⊎_elim, ap, subst, sym, ◌∙◌, arith, append-nil, length-append, length-drop}
use Rattle.std.proofs.lemmas.List.{length-take}
use Rattle.std.proofs.lemmas.Bool.{cases_lt}
use Rattle.hex.proofs.HexLemmas.{decode_sized-ok}
use Rattle.io_core.specs.Streams.{Consumes, IsAtEnd}
use Rattle.command_core.specs.KeyFile.{IsKeyEnd, IsKeyText}

end_short : (end : List ℕ) → IsKeyEnd end → length end ≤ 2
end_short end h = ⊎_elim (λ none. short 0 (ap length none) (omega arith))
    (λ some. ⊎_elim (λ one. short 1 (ap length one) (omega arith)) (λ two. short 2 (ap length two) (omega arith)) some)
    h
  where
    short : (n : ℕ) → length end ≡ n → n ≤ 2 → length end ≤ 2
    short n is small = omega arith

-- fewer than 64 bytes are no key file
pub too_few : (bytes key : List ℕ) → length bytes < 64 → IsKeyText bytes key → ⊥
too_few bytes key few text =
    let digits = decode_sized-ok (take 64 bytes) 32 key text.0 in
    let taken = length-take 64 bytes in
    omega arith

-- 67 bytes or more are no key file
too_many : (bytes key : List ℕ) → 67 ≤ length bytes → IsKeyText bytes key → ⊥
too_many bytes key many text =
    let short = end_short (drop 64 bytes) text.1 in
    let dropped = length-drop 64 bytes in
    omega arith

-- what was read is all of the input, or a prefix of 67 bytes
input_is : (input rest buffer : List ℕ) (n : ℕ) → length buffer ≡ 67 → n ≤ 67 → input ≡ take n buffer ++ rest
    → (n < 67 → rest ≡ [])
    → (input ≡ take n buffer) ⊎ ((67 ≤ length input) × (67 ≤ length (take n buffer)))
input_is input rest buffer n long within split end =
    ⊎_elim (λ less. inl (split ∙ ap (λ r. take n buffer ++ r) (end less) ∙ append-nil (take n buffer)))
    (λ full. inr (more full, whole full)) (cases_lt n 67)
  where
    whole : 67 ≤ n → 67 ≤ length (take n buffer)
    whole full = let taken = length-take n buffer in omega arith

    more : 67 ≤ n → 67 ≤ length input
    more full =
        let front = whole full in
        let joined : length input ≡ length (take n buffer) + length rest =
        ap length split ∙ length-append (take n buffer) rest in
        omega arith

pub key_of_input : (old new : Option (List ℕ)) (buffer key : List ℕ) (n : ℕ) → length buffer ≡ 67 → n ≤ 67
    → Consumes old new (take n buffer)
    → (n < 67 → IsAtEnd new) → IsKeyText (take n buffer) key → IfSome old (λ input. IsKeyText input key)
key_of_input None new buffer key n long within consumed end text = tt
key_of_input (Some input) None buffer key n long within consumed end text = absurd consumed
key_of_input (Some input) (Some rest) buffer key n long within consumed end text =
    ⊎_elim (λ same. subst (λ bytes. IsKeyText bytes key) (sym same) text)
    (λ longer. absurd (too_many (take n buffer) key longer.1 text))
    (input_is input rest buffer n long within consumed end)

pub no_key_of_input : (old new : Option (List ℕ)) (buffer : List ℕ) (n : ℕ) → length buffer ≡ 67 → n ≤ 67
    → Consumes old new (take n buffer)
    → (n < 67 → IsAtEnd new) → ((key : List ℕ) → IsKeyText (take n buffer) key → ⊥)
    → IfSome old (λ input. (key : List ℕ) → IsKeyText input key → ⊥)
no_key_of_input None new buffer n long within consumed end none = tt
no_key_of_input (Some input) None buffer n long within consumed end none = absurd consumed
no_key_of_input (Some input) (Some rest) buffer n long within consumed end none =
    λ key text. ⊎_elim (λ same. none key (subst (λ bytes. IsKeyText bytes key) same text))
    (λ longer. too_many input key longer.0 text) (input_is input rest buffer n long within consumed end)
