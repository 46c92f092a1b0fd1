-- Decimal numbers without leading zeros, as words of a line.
use Rattle.std.proofs.Common.{◌≡◌, ◌≢◌, ℕ, ◌<◌, ◌^◌, List, length, get_or, Result, Ok, Err, Some, IfSome, sym, ap, ◌∙◌, arith}
use mathlib.Core.Logic.{dite}
use native.Mathlib.Decide.{ℕ_discrete}
use Rattle.std.specs.Fmt.{decimal}
use Rattle.std.specs.Result.{result_ok}
use Rattle.std.specs.Str.Parse.{AllDigits, digits_value, ParsesUnsigned}
use Rattle.std.proofs.lemmas.Str.Parse.{IsNumeralModel, numerals_by_value, tells_digits, parse_plain, digit_at}
use Rattle.std.proofs.lemmas.Fmt.{decimal_is_IsNumeral, decimal_digit, decimal_nonempty, first_decimal, parse-decimal, decimal-digits_value}
use Rattle.journal_core.specs.Line.{HasNoSpace}

own : IsNumeralModel (AllDigits 10) (digits_value 10)
own = numerals_by_value (AllDigits 10) tells_digits

-- a text without sign and leading zero that `parse` reads is the decimal text of the number it returns
pub number_sound : {E : Type 0} (bs : List ℕ) (r : Result ℕ E) → 0 < length bs → get_or bs 0 0 ≢ 43 → (get_or bs 0 0 ≡ 48 → length bs ≡ 1) → ParsesUnsigned 32 10 bs r
    → IfSome (result_ok r) (λ n. bs ≡ decimal n)
number_sound {E} bs (Ok n) some plus zero parses =
    let read = parse_plain own {E = E} 32 bs (Ok n) parses plus in
    sym (ap decimal read.1 ∙ decimal-digits_value own bs read.0.0 some zero (omega (arith, read.0.2)))
number_sound bs (Err e) some plus zero parses = tt

pub number_complete : {E : Type 0} (bs : List ℕ) (r : Result ℕ E) (n : ℕ) → n < 4294967296 → bs ≡ decimal n → ParsesUnsigned 32 10 bs r → result_ok r ≡ Some n
number_complete bs r n small is parses = ap result_ok (parse-decimal 32 n bs r small (omega arith) is parses)

pub not_empty : (bs : List ℕ) (n : ℕ) → n < 4294967296 → bs ≡ decimal n → length bs ≡ 0 → ⊥
not_empty bs n small is none = let some = decimal_nonempty n (omega arith) in let e = ap (length {A = ℕ}) is in omega arith

pub not_signed : (bs : List ℕ) (n : ℕ) → n < 4294967296 → bs ≡ decimal n → get_or bs 0 0 ≡ 43 → ⊥
not_signed bs n small is plus =
    let low : n < 2 ^ 64 = omega arith in
    let digit = digit_at (decimal n) 0 (decimal_is_IsNumeral n low).0.1 (decimal_nonempty n low) in
    let e = ap (λ l. get_or l 0 0) is in omega arith

pub not_padded : (bs : List ℕ) (n : ℕ) → n < 4294967296 → bs ≡ decimal n → get_or bs 0 0 ≡ 48 → 1 < length bs → ⊥
not_padded bs n small is zero long =
    dite (ℕ_discrete n 0)
    (λ none. let one = ap (length {A = ℕ}) (is ∙ ap decimal none ∙ decimal_digit 0 (omega arith)) in omega arith)
    (λ some. let first = first_decimal n (omega arith) (omega arith) in let e = ap (λ l. get_or l 0 0) is in omega arith)

pub no_space : (n : ℕ) → n < 4294967296 → HasNoSpace (decimal n)
no_space n small i within =
    let low : n < 2 ^ 64 = omega arith in
    let digit = digit_at (decimal n) i (decimal_is_IsNumeral n low).0.1 within in λ space. omega arith
