-- A label's bytes, by the first bytes of what a line shows of it.
use Rattle.std.proofs.Common.{◌≡◌, ℕ, ◌+◌, ◌-◌, ◌*◌, ◌≤◌, true, false, if◌then◌else◌, List, [], ◌∷◌, length, take, drop, get_or, ap, sym, ◌∙◌, arith, eqb-true, length-drop}
use Rattle.std.proofs.lemmas.List.{take_all}
use Rattle.std.proofs.lemmas.Bool.{and_from, and_parts, eq-eqb, false_from_ne_true}
use Rattle.line_core.specs.Labels.{hex_value, is_escape, read_label}

-- the rest of a list, as a slice pattern gives it
rest_is : (n : ℕ) (s : List ℕ) → take (length s - n) (drop n s) ≡ drop n s
rest_is n s = take_all (length s - n) (drop n s) (omega (arith, length-drop n s))

-- the first byte is one that `\xHH` shows
pub read_label-escape : (s : List ℕ) → 4 ≤ length s → get_or s 0 0 ≡ 92 → get_or s 1 0 ≡ 120
    → read_label s ≡ (hex_value (get_or s 2 0) * 16 + hex_value (get_or s 3 0)) ∷ read_label (take (length s - 4) (drop 4 s))
unfolding read_label
read_label-escape [] long e f = absurd (omega arith)
read_label-escape (a ∷ []) long e f = absurd (omega arith)
read_label-escape (a ∷ b ∷ []) long e f = absurd (omega arith)
read_label-escape (a ∷ b ∷ c ∷ []) long e f = absurd (omega arith)
read_label-escape (a ∷ b ∷ c ∷ d ∷ rest) long e f =
    let is : is_escape a b ≡ true = and_from _ _ (eq-eqb a 92 e) (eq-eqb b 120 f) in
    let byte = hex_value c * 16 + hex_value d in
    ap (λ t. if t then byte ∷ read_label rest else a ∷ read_label (b ∷ c ∷ d ∷ rest)) is
    ∙ ap (λ more. byte ∷ read_label more) (sym (rest_is 4 (a ∷ b ∷ c ∷ d ∷ rest)))

-- the first byte is itself
pub read_label-byte : (s : List ℕ) → 1 ≤ length s → (4 ≤ length s → get_or s 0 0 ≡ 92 → get_or s 1 0 ≡ 120 → ⊥)
    → read_label s ≡ get_or s 0 0 ∷ read_label (take (length s - 1) (drop 1 s))
unfolding read_label
read_label-byte [] long not_both = absurd (omega arith)
read_label-byte (a ∷ []) long not_both = ap (λ more. a ∷ read_label more) (sym (rest_is 1 (a ∷ [])))
read_label-byte (a ∷ b ∷ []) long not_both = ap (λ more. a ∷ read_label more) (sym (rest_is 1 (a ∷ b ∷ [])))
read_label-byte (a ∷ b ∷ c ∷ []) long not_both = ap (λ more. a ∷ read_label more) (sym (rest_is 1 (a ∷ b ∷ c ∷ [])))
read_label-byte (a ∷ b ∷ c ∷ d ∷ rest) long not_both =
    let is_not : is_escape a b ≡ false = false_from_ne_true _ (λ is.
    let parts = and_parts _ _ is in
    not_both (omega arith) (eqb-true a 92 parts.0) (eqb-true b 120 parts.1)) in
    ap (λ t. if t then (hex_value c * 16 + hex_value d) ∷ read_label rest else a ∷ read_label (b ∷ c ∷ d ∷ rest)) is_not
    ∙ ap (λ more. a ∷ read_label more) (sym (rest_is 1 (a ∷ b ∷ c ∷ d ∷ rest)))
