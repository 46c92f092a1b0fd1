-- A text encrypted and absorbed strip by strip.
use Rattle.std.proofs.Common.{◌≡◌, ℕ, ◌+◌, ◌-◌, ◌/◌, ◌%◌, ◌≤◌, List, ◌++◌, length, take, drop, sym, ap, ◌∙◌, subst, arith}
use Rattle.std.proofs.Common.{append_assoc, length-take-le}
use Rattle.std.proofs.Math.Seq.{take-add}
use Rattle.std.proofs.lemmas.List.{append-nil, take_at, take_all}
use Rattle.chacha_core.specs.ChaCha20.{chacha20}
use Rattle.chacha_core.proofs.StreamLemmas.{chacha20_step, chacha20_done}
use Rattle.poly_core.specs.Poly1305.{pad16}
use Rattle.poly_core.specs.Absorbed.{Absorbed, Progress}
use Rattle.aead_core.specs.Aead.{one_time_key}

-- the first n bytes of a text are encrypted
abbrev pub EncipheredTo : List ℕ → List ℕ → ℕ → List ℕ → List ℕ → Type 0
EncipheredTo key nonce n old now = now ≡ chacha20 key nonce 1 (take n old) ++ drop n old

-- what is absorbed: the associated data, zeros, and the first n bytes of the text
abbrev pub AbsorbedTo : Progress → List ℕ → List ℕ → List ℕ → ℕ → List ℕ → Type 0
AbsorbedTo mac key nonce aad n text = Absorbed mac (one_time_key key nonce) ((aad ++ pad16 aad) ++ take n text)

-- one more strip, after whole blocks
pub enciphered_step : (key nonce old now new : List ℕ) (at end : ℕ) → at % 64 ≡ 0 → at ≤ end → end ≤ length old
    → EncipheredTo key nonce at old now
    → new ≡ take at now ++ (chacha20 key nonce (1 + at / 64) (take (end - at) (drop at now)) ++ drop end now)
    → EncipheredTo key nonce end old new
enciphered_step key nonce old now new at end whole up fits done made =
    let k : ℕ = end - at in
    let same : at + k ≡ end = omega arith in
    made
    ∙ ap (λ (n : ℕ). take at now ++ (chacha20 key nonce (1 + at / 64) (take k (drop at now)) ++ drop n now)) (sym same)
    ∙ chacha20_step key nonce 1 (at / 64) at k old now (omega arith) (omega arith) done
    ∙ ap (λ (n : ℕ). chacha20 key nonce 1 (take n old) ++ drop n old) same

pub absorbed_step : (mac : Progress) (key nonce aad now new behind : List ℕ) (at end : ℕ) → at ≤ end → at ≤ length now
    → new ≡ take at now ++ behind
    → Absorbed mac (one_time_key key nonce) (((aad ++ pad16 aad) ++ take at now) ++ take (end - at) (drop at new))
    → AbsorbedTo mac key nonce aad end new
absorbed_step mac key nonce aad now new behind at end up fits is held =
    let k : ℕ = end - at in
    let same : at + k ≡ end = omega arith in
    let front : take at new ≡ take at now =
    ap (λ (l : List ℕ). take at l) is ∙ take_at (take at now) behind at (length-take-le at now fits) in
    subst (λ (l : List ℕ). Absorbed mac (one_time_key key nonce) l)
    (append_assoc (aad ++ pad16 aad) (take at now) (take k (drop at new))
    ∙ ap (λ (l : List ℕ). (aad ++ pad16 aad) ++ (l ++ take k (drop at new))) (sym front)
    ∙ ap (λ (l : List ℕ). (aad ++ pad16 aad) ++ l) (sym (take-add at k new))
    ∙ ap (λ (n : ℕ). (aad ++ pad16 aad) ++ take n new) same) held

-- before the first strip
pub absorbed_none : (mac : Progress) (key nonce aad text : List ℕ)
    → Absorbed mac (one_time_key key nonce) (aad ++ pad16 aad) → AbsorbedTo mac key nonce aad 0 text
absorbed_none mac key nonce aad text held =
    subst (λ (l : List ℕ). Absorbed mac (one_time_key key nonce) l) (sym (append-nil (aad ++ pad16 aad))) held

-- after the last strip
pub enciphered_all : (key nonce old now : List ℕ) (n : ℕ) → length old ≤ n → EncipheredTo key nonce n old now
    → now ≡ chacha20 key nonce 1 old
enciphered_all key nonce old now n all done = done ∙ chacha20_done key nonce 1 n old all

pub absorbed_all : (mac : Progress) (key nonce aad text : List ℕ) (n : ℕ) → length text ≤ n
    → AbsorbedTo mac key nonce aad n text
    → Absorbed mac (one_time_key key nonce) ((aad ++ pad16 aad) ++ text)
absorbed_all mac key nonce aad text n all held =
    subst (λ (l : List ℕ). Absorbed mac (one_time_key key nonce) ((aad ++ pad16 aad) ++ l)) (take_all n text all) held
