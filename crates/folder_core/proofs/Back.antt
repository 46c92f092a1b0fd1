-- A name is read back: each character from what a line shows for it, one after the other.
use Rattle.std.proofs.Common.{◌≡◌, ◌≢◌, ◌∙◌, ◌==◌, ◌*◌, ◌+◌, ◌<◌, ◌≤◌, ℕ, List, [], ◌∷◌, ◌++◌, Bool, true, false, Option, None, Some, IsUtf8, ap, ◌⊎◌, inl, inr, option_and_then, arith, chars, encode_utf8_all, flat_map, option_map, option_to_list, ne_eqb, refl, sym, append_assoc, codes}
use Rattle.std.proofs.lemmas.Bool.{lt-ltb, eqb-true, eqb-false, and_from, and_parts}
use Rattle.std.proofs.Math.Utf8.{scalars, scalar, low_scalar}
use Rattle.std.proofs.lemmas.Fmt.{digits_is_IsNumeral}
use Rattle.std.proofs.lemmas.Str.{chars-encodes, encodes-chars, scalars-chars, utf8_valid_len-IsUtf8}
use Rattle.std.proofs.lemmas.List.{take_all}
use Rattle.std.specs.Char.{digit_value}
use Rattle.std.specs.Fmt.{digits}
use Rattle.std.specs.Str.Parse.{AllDigits, digits_value_after}
use Rattle.folder_core.specs.Quotes.{is_code, is_hidden, quoted, quoted_text, read_from, read_on, shown, unquoted}
use Rattle.folder_core.specs.declared.quotes.Escape.{Escape}
use Rattle.folder_core.specs.declared.quotes.Escape.TheVariants.{Outside, Begun, Named, Digits}
use Rattle.folder_core.proofs.Shown.{at_the_end, begun, others, small_digit}

-- an escape that isn't read whole gives nothing
silent : (o : Option (List ℕ)) → option_map (λ more. option_to_list None ++ more) o ≡ o
silent None = refl
silent (Some cs) = refl

grows : (ds : List ℕ) (n : ℕ) → n ≤ digits_value_after 16 n ds
grows [] n = omega arith
grows (c ∷ cs) n = omega (arith, grows cs (n * 16 + digit_value c))

no_brace : (c : ℕ) → digit_value c < 16 → c ≢ 125
no_brace c less is = grind (arith, less, is)

digit_step : (n c : ℕ) → digit_value c < 16 → n * 16 + digit_value c < 0x110000 → read_on (Digits n) c ≡ Some (Digits (n * 16 + digit_value c), None)
unfolding read_on
digit_step n c digit less = rw (ne_eqb c 125 (no_brace c digit), lt-ltb (digit_value c) 16 digit, lt-ltb (n * 16 + digit_value c) 0x110000 less) refl

brace_step : (n : ℕ) → is_code n ≡ true → read_on (Digits n) 125 ≡ Some (Outside, Some n)
unfolding read_on
brace_step n code = rw code refl

abbrev then_on : Option (Escape × Option ℕ) → List ℕ → Option (List ℕ)
then_on step cs = option_and_then (λ next. option_map (λ more. option_to_list next.1 ++ more) (read_from cs next.0)) step

digits_read : (ds : List ℕ) (n : ℕ) (rest : List ℕ) → AllDigits 16 ds → digits_value_after 16 n ds < 0x110000 → is_code (digits_value_after 16 n ds) ≡ true
    → read_from (ds ++ 125 ∷ rest) (Digits n) ≡ option_map (λ more. digits_value_after 16 n ds ∷ more) (read_from rest Outside)
digits_read [] n rest all less code = ap (λ step. then_on step rest) (brace_step n code)
digits_read (c ∷ cs) n rest all less code =
    ap (λ step. then_on step (cs ++ 125 ∷ rest)) (digit_step n c all.0 (omega (arith, less, grows cs (n * 16 + digit_value c))))
    ∙ silent (read_from (cs ++ 125 ∷ rest) (Digits (n * 16 + digit_value c)))
    ∙ digits_read cs (n * 16 + digit_value c) rest all.1 less code

-- a test and its answer
pub either : (b : Bool) → (b ≡ true) ⊎ (b ≡ false)
either true = inl refl
either false = inr refl

pub hidden_small : (c : ℕ) → is_hidden c ≡ true → c < 0x10000
hidden_small c hidden = grind (arith, hidden)

code_of : (c : ℕ) → (c < 0xD800) ⊎ (c ≡ 0xFEFF) → is_code c ≡ true
code_of c (inl less) = rw (lt-ltb c 0xD800 less) refl
code_of c (inr is) = ap is_code is

hidden_code : (c : ℕ) → is_hidden c ≡ true → is_code c ≡ true
hidden_code c hidden =
    let low : (c < 0xD800) ⊎ (c ≡ 0xFEFF) = grind (arith, hidden) in
    code_of c low

lettered : (c letter read : ℕ) (rest : List ℕ) → shown c ≡ 92 ∷ letter ∷ [] → read_on Begun letter ≡ Some (Outside, Some read) → c ≡ read
    → read_from (shown c ++ rest) Outside ≡ option_map (λ more. c ∷ more) (read_from rest Outside)
unfolding read_on
lettered c letter read rest is step same =
    ap (λ cs. read_from (cs ++ rest) Outside) is ∙ silent (read_from (letter ∷ rest) Begun) ∙ ap (λ s. then_on s rest) step
    ∙ ap (λ d. option_map (λ more. d ∷ more) (read_from rest Outside)) (sym same)

backslash_read : (c : ℕ) (rest : List ℕ) → c ≡ 92 → read_from (shown c ++ rest) Outside ≡ option_map (λ more. c ∷ more) (read_from rest Outside)
unfolding read_on shown
backslash_read c rest is = lettered c 92 92 rest (ap shown is) refl is

feed_read : (c : ℕ) (rest : List ℕ) → c ≡ 10 → read_from (shown c ++ rest) Outside ≡ option_map (λ more. c ∷ more) (read_from rest Outside)
unfolding read_on shown
feed_read c rest is = lettered c 110 10 rest (ap shown is) refl is

return_read : (c : ℕ) (rest : List ℕ) → c ≡ 13 → read_from (shown c ++ rest) Outside ≡ option_map (λ more. c ∷ more) (read_from rest Outside)
unfolding read_on shown
return_read c rest is = lettered c 114 13 rest (ap shown is) refl is

tab_read : (c : ℕ) (rest : List ℕ) → c ≡ 9 → read_from (shown c ++ rest) Outside ≡ option_map (λ more. c ∷ more) (read_from rest Outside)
unfolding read_on shown
tab_read c rest is = lettered c 116 9 rest (ap shown is) refl is

-- `\u{`
opened : (cs : List ℕ) → read_from (92 ∷ 117 ∷ 123 ∷ cs) Outside ≡ read_from cs (Digits 0)
unfolding read_on
opened cs = silent (read_from (117 ∷ 123 ∷ cs) Begun) ∙ silent (read_from (123 ∷ cs) Named) ∙ silent (read_from cs (Digits 0))

hidden_read : (c : ℕ) (rest : List ℕ) → shown c ≡ codes "\\u{" ++ (digits 16 false c ++ codes "}") → c < 0x10000 → is_code c ≡ true
    → read_from (shown c ++ rest) Outside ≡ option_map (λ more. c ∷ more) (read_from rest Outside)
hidden_read c rest is less code =
    let numeral = digits_is_IsNumeral 16 false (omega arith) (omega arith) c (omega (arith, less)) in
    ap (λ cs. read_from (cs ++ rest) Outside) is
    ∙ opened ((digits 16 false c ++ codes "}") ++ rest)
    ∙ ap (λ cs. read_from cs (Digits 0)) (append_assoc (digits 16 false c) (codes "}") rest)
    ∙ digits_read (digits 16 false c) 0 rest numeral.0.1 (omega (arith, less, numeral.1)) (ap is_code numeral.1 ∙ code)
    ∙ ap (λ n. option_map (λ more. n ∷ more) (read_from rest Outside)) numeral.1

itself_read : (c : ℕ) (rest : List ℕ) → shown c ≡ c ∷ [] → c ≢ 92
    → read_from (shown c ++ rest) Outside ≡ option_map (λ more. c ∷ more) (read_from rest Outside)
unfolding read_on
itself_read c rest is other =
    let step : read_on Outside c ≡ Some (Outside, Some c) = rw (ne_eqb c 92 other) refl in
    ap (λ cs. read_from (cs ++ rest) Outside) is ∙ ap (λ s. then_on s rest) step

other_read : (c : ℕ) (rest : List ℕ) → c ≢ 92 → c ≢ 10 → c ≢ 13 → c ≢ 9 → (is_hidden c ≡ true) ⊎ (is_hidden c ≡ false)
    → read_from (shown c ++ rest) Outside ≡ option_map (λ more. c ∷ more) (read_from rest Outside)
other_read c rest slash feed return tab (inl hidden) = hidden_read c rest (rw hidden at (others c slash feed return tab)) (hidden_small c hidden) (hidden_code c hidden)
other_read c rest slash feed return tab (inr plain) = itself_read c rest (rw plain at (others c slash feed return tab)) slash

by_tests : (c : ℕ) (rest : List ℕ) → ((c == 92) ≡ true) ⊎ ((c == 92) ≡ false) → ((c == 10) ≡ true) ⊎ ((c == 10) ≡ false)
    → ((c == 13) ≡ true) ⊎ ((c == 13) ≡ false) → ((c == 9) ≡ true) ⊎ ((c == 9) ≡ false)
    → read_from (shown c ++ rest) Outside ≡ option_map (λ more. c ∷ more) (read_from rest Outside)
by_tests c rest (inl e) feed return tab = backslash_read c rest (eqb-true c 92 e)
by_tests c rest (inr slash) (inl e) return tab = feed_read c rest (eqb-true c 10 e)
by_tests c rest (inr slash) (inr feed) (inl e) tab = return_read c rest (eqb-true c 13 e)
by_tests c rest (inr slash) (inr feed) (inr return) (inl e) = tab_read c rest (eqb-true c 9 e)
by_tests c rest (inr slash) (inr feed) (inr return) (inr tab) =
    other_read c rest (eqb-false c 92 slash) (eqb-false c 10 feed) (eqb-false c 13 return) (eqb-false c 9 tab) (either (is_hidden c))

pub char_read : (c : ℕ) (rest : List ℕ) → read_from (shown c ++ rest) Outside ≡ option_map (λ more. c ∷ more) (read_from rest Outside)
char_read c rest = by_tests c rest (either (c == 92)) (either (c == 10)) (either (c == 13)) (either (c == 9))

all_read : (cs : List ℕ) → read_from (flat_map shown cs) Outside ≡ Some cs
all_read [] = refl
all_read (c ∷ cs) = char_read c (flat_map shown cs) ∙ ap (λ o. option_map (λ more. c ∷ more) o) (all_read cs)

-- what is shown are characters
scalars-append : (xs ys : List ℕ) → scalars xs ≡ true → scalars ys ≡ true → scalars (xs ++ ys) ≡ true
scalars-append [] ys left right = right
scalars-append (x ∷ xs) ys left right =
    let parts = and_parts (scalar x) (scalars xs) left in
    and_from (scalar x) (scalars (xs ++ ys)) parts.0 (scalars-append xs ys parts.1 right)

digit_scalars : (ds : List ℕ) → AllDigits 16 ds → scalars ds ≡ true
digit_scalars [] all = refl
digit_scalars (c ∷ cs) all = and_from (scalar c) (scalars cs) (low_scalar c (omega (arith, small_digit c all.0))) (digit_scalars cs all.1)

pair : (b c : ℕ) → b < 0xD800 → c < 0xD800 → scalars (b ∷ c ∷ []) ≡ true
pair b c less small = and_from (scalar b) (scalars (c ∷ [])) (low_scalar b less) (and_from (scalar c) true (low_scalar c small) refl)

other_scalars : (c : ℕ) → scalar c ≡ true → c ≢ 92 → c ≢ 10 → c ≢ 13 → c ≢ 9 → (is_hidden c ≡ true) ⊎ (is_hidden c ≡ false) → scalars (shown c) ≡ true
other_scalars c is slash feed return tab (inl hidden) =
    let numeral = digits_is_IsNumeral 16 false (omega arith) (omega arith) c (omega (arith, hidden_small c hidden)) in
    let whole : shown c ≡ 92 ∷ 117 ∷ 123 ∷ (digits 16 false c ++ 125 ∷ []) = rw hidden at (others c slash feed return tab) in
    let end : scalars (digits 16 false c ++ 125 ∷ []) ≡ true =
    scalars-append (digits 16 false c) (125 ∷ []) (digit_scalars (digits 16 false c) numeral.0.1) (and_from (scalar 125) true (low_scalar 125 (omega arith)) refl) in
    ap scalars whole ∙ scalars-append (92 ∷ 117 ∷ []) (123 ∷ (digits 16 false c ++ 125 ∷ [])) (pair 92 117 (omega arith) (omega arith))
    (and_from (scalar 123) (scalars (digits 16 false c ++ 125 ∷ [])) (low_scalar 123 (omega arith)) end)
other_scalars c is slash feed return tab (inr plain) =
    let whole : shown c ≡ c ∷ [] = rw plain at (others c slash feed return tab) in
    ap scalars whole ∙ and_from (scalar c) true is refl

scalars_by : (c : ℕ) → scalar c ≡ true → ((c == 92) ≡ true) ⊎ ((c == 92) ≡ false) → ((c == 10) ≡ true) ⊎ ((c == 10) ≡ false)
    → ((c == 13) ≡ true) ⊎ ((c == 13) ≡ false) → ((c == 9) ≡ true) ⊎ ((c == 9) ≡ false) → scalars (shown c) ≡ true
unfolding shown
scalars_by c is (inl e) feed return tab = ap (λ d. scalars (shown d)) (eqb-true c 92 e) ∙ pair 92 92 (omega arith) (omega arith)
scalars_by c is (inr slash) (inl e) return tab = ap (λ d. scalars (shown d)) (eqb-true c 10 e) ∙ pair 92 110 (omega arith) (omega arith)
scalars_by c is (inr slash) (inr feed) (inl e) tab = ap (λ d. scalars (shown d)) (eqb-true c 13 e) ∙ pair 92 114 (omega arith) (omega arith)
scalars_by c is (inr slash) (inr feed) (inr return) (inl e) = ap (λ d. scalars (shown d)) (eqb-true c 9 e) ∙ pair 92 116 (omega arith) (omega arith)
scalars_by c is (inr slash) (inr feed) (inr return) (inr tab) =
    other_scalars c is (eqb-false c 92 slash) (eqb-false c 10 feed) (eqb-false c 13 return) (eqb-false c 9 tab) (either (is_hidden c))

pub all_scalars : (cs : List ℕ) → scalars cs ≡ true → scalars (flat_map shown cs) ≡ true
all_scalars [] is = refl
all_scalars (c ∷ cs) is =
    let parts = and_parts (scalar c) (scalars cs) is in
    scalars-append (shown c) (flat_map shown cs) (scalars_by c parts.0 (either (c == 92)) (either (c == 10)) (either (c == 13)) (either (c == 9))) (all_scalars cs parts.1)

pub text_quoted : (name : List ℕ) → IsUtf8 name → quoted name ≡ quoted_text name
text_quoted name utf8 =
    let whole = utf8_valid_len-IsUtf8 name utf8 in
    sym (at_the_end [] (quoted_text name) name name name (begun name) (sym (take_all _ name (omega (arith, whole)))) refl whole)

pub read_back : (name : List ℕ) → IsUtf8 name → unquoted (quoted name) ≡ Some name
unfolding unquoted quoted_text
read_back name utf8 =
    let cs = chars name in
    let back : chars (quoted name) ≡ flat_map shown cs = ap chars (text_quoted name utf8) ∙ chars-encodes (flat_map shown cs) (all_scalars cs (scalars-chars name utf8)) in
    ap (λ ds. option_map encode_utf8_all (read_from ds Outside)) back ∙ ap (λ o. option_map encode_utf8_all o) (all_read cs) ∙ ap Some (encodes-chars name utf8)
