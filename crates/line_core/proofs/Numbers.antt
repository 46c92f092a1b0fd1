-- `parse` at 64 bits, as the totals read numbers.
use Rattle.std.proofs.Common.{◌≡◌, ℕ, ◌-◌, ◌^◌, ◌<◌, true, false, List, if◌then◌else◌, ap, rules}
use Rattle.std.proofs.lemmas.Bool.{and_from, and_parts, false_from_ne_true, lt-ltb, ltb-true}
use Rattle.std.proofs.lemmas.Str.Parse.{IsNumeralModel, numerals_by_value}
use Rattle.std.specs.Str.{all_ascii_digits}
use Rattle.std.specs.Str.Parse.{IsNumeral, digits_value, without_leading_plus}
use Rattle.line_core.specs.Totals.{is_count, value_of}

own : IsNumeralModel (λ ds. all_ascii_digits ds ≡ true) (digits_value 10)
own = numerals_by_value _ (search rules)

-- what `parse` says of a text that it reads, and of one that it refuses
abbrev pub Parses : List ℕ → Type 0
Parses text = IsNumeral 10 (without_leading_plus text) × (digits_value 10 (without_leading_plus text) < 2 ^ 64)

pub value_of-number : (text : List ℕ) → Parses text → value_of text ≡ digits_value 10 (without_leading_plus text)
unfolding value_of
value_of-number text p =
    let is : is_count text ≡ true = and_from _ _ (lt-ltb _ _ p.0.0)
    (and_from _ _ (own.from (without_leading_plus text) p.0.1) (lt-ltb _ _ p.1)) in
    ap (λ b. if b then digits_value 10 (without_leading_plus text) else 2 ^ 64 - 1) is

pub value_of-other : (text : List ℕ) → ¬ Parses text → value_of text ≡ 2 ^ 64 - 1
unfolding value_of
value_of-other text p =
    let is_not : is_count text ≡ false = false_from_ne_true _ (λ is.
    let some = and_parts _ _ is in
    let rest = and_parts _ _ some.1 in
    p ((ltb-true _ _ some.0, own.to (without_leading_plus text) rest.0), ltb-true _ _ rest.1)) in
    ap (λ b. if b then digits_value 10 (without_leading_plus text) else 2 ^ 64 - 1) is_not
