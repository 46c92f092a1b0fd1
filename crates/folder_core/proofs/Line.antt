-- No byte that a line shows for a name is a line feed.
use Rattle.std.proofs.Common.{◌≡◌, ◌≢◌, ◌∙◌, ◌==◌, ◌<◌, ◌+◌, ◌/◌, ◌%◌, ℕ, zero, suc, List, [], ◌∷◌, ◌++◌, Bool, true, false, ◌⊎◌, inl, inr, append-nil, ap, arith, chars, drop, encode_utf8_all, flat_map, if◌then◌else◌, length, nat_lt, slice_index, sym, take}
use Rattle.std.proofs.lemmas.Bool.{eqb-true, eqb-false}
use Rattle.std.proofs.lemmas.Fmt.{digits_is_IsNumeral}
use Rattle.std.proofs.lemmas.List.Elements.{All-append, All-cons, All-from_get_or, All-head, All-nil, All-same, All-tail}
use Rattle.std.proofs.lemmas.Str.{inside_one}
use Rattle.std.specs.Char.{digit_value, encode_utf8}
use Rattle.std.specs.Fmt.{digit_glyph, digits}
use Rattle.std.specs.List.{All}
use Rattle.std.specs.Str.Lossy.{utf8_valid_len}
use Rattle.std.specs.Str.Parse.{AllDigits}
use Rattle.folder_core.specs.Quotes.{is_hidden, quoted, quoted_byte, quoted_text, quoted_within, shown}
use Rattle.folder_core.proofs.Back.{either, hidden_small}
use Rattle.folder_core.proofs.Shown.{others}

abbrev IsInLine : ℕ → Type 0
IsInLine b = b ≢ 10

none : All IsInLine []
none = All-nil IsInLine

more : (b : ℕ) (bs : List ℕ) → b ≢ 10 → All IsInLine bs → All IsInLine (b ∷ bs)
more b bs is are = All-cons IsInLine b bs is are

both : (xs ys : List ℕ) → All IsInLine xs → All IsInLine ys → All IsInLine (xs ++ ys)
both xs ys left right = All-append IsInLine xs ys left right

-- a character's bytes
char_bytes : (c : ℕ) → c ≢ 10 → All IsInLine (encode_utf8 c)
char_bytes c other =
    All-from_get_or IsInLine (encode_utf8 c) 0 (λ k less e.
    other (inside_one c [] (encode_utf8 c) k (sym (append-nil (encode_utf8 c))) less (omega (arith, e)) ∙ e))

all_bytes : (cs : List ℕ) → All IsInLine cs → All IsInLine (encode_utf8_all cs)
all_bytes [] are = none
all_bytes (c ∷ cs) are = both (encode_utf8 c) (encode_utf8_all cs) (char_bytes c (All-head IsInLine c cs are)) (all_bytes cs (All-tail IsInLine c cs are))

-- what is shown for a character
a_digit : (c : ℕ) → digit_value c < 16 → c ≢ 10
a_digit c less is = grind (arith, less, is)

all_digits : (ds : List ℕ) → AllDigits 16 ds → All IsInLine ds
all_digits [] all = none
all_digits (c ∷ cs) all = more c cs (a_digit c all.0) (all_digits cs all.1)

pair : (c : ℕ) → c ≢ 10 → All IsInLine (92 ∷ c ∷ [])
pair c other = more 92 (c ∷ []) (λ e. omega (arith, e)) (more c [] other none)

other_char : (c : ℕ) → c ≢ 92 → c ≢ 10 → c ≢ 13 → c ≢ 9 → (is_hidden c ≡ true) ⊎ (is_hidden c ≡ false) → All IsInLine (shown c)
other_char c slash feed return tab (inl hidden) =
    let numeral = digits_is_IsNumeral 16 false (omega arith) (omega arith) c (omega (arith, hidden_small c hidden)) in
    let whole : shown c ≡ 92 ∷ 117 ∷ 123 ∷ (digits 16 false c ++ 125 ∷ []) = rw hidden at (others c slash feed return tab) in
    let end = both (digits 16 false c) (125 ∷ []) (all_digits (digits 16 false c) numeral.0.1) (more 125 [] (λ e. omega (arith, e)) none) in
    All-same IsInLine (shown c) _ whole (both (92 ∷ 117 ∷ []) (123 ∷ (digits 16 false c ++ 125 ∷ [])) (pair 117 (λ e. omega (arith, e)))
    (more 123 (digits 16 false c ++ 125 ∷ []) (λ e. omega (arith, e)) end))
other_char c slash feed return tab (inr plain) =
    let whole : shown c ≡ c ∷ [] = rw plain at (others c slash feed return tab) in
    All-same IsInLine (shown c) _ whole (more c [] feed none)

by_tests : (c : ℕ) → ((c == 92) ≡ true) ⊎ ((c == 92) ≡ false) → ((c == 10) ≡ true) ⊎ ((c == 10) ≡ false)
    → ((c == 13) ≡ true) ⊎ ((c == 13) ≡ false) → ((c == 9) ≡ true) ⊎ ((c == 9) ≡ false) → All IsInLine (shown c)
unfolding shown
by_tests c (inl e) feed return tab = All-same IsInLine (shown c) _ (ap shown (eqb-true c 92 e)) (pair 92 (λ e. omega (arith, e)))
by_tests c (inr slash) (inl e) return tab = All-same IsInLine (shown c) _ (ap shown (eqb-true c 10 e)) (pair 110 (λ e. omega (arith, e)))
by_tests c (inr slash) (inr feed) (inl e) tab = All-same IsInLine (shown c) _ (ap shown (eqb-true c 13 e)) (pair 114 (λ e. omega (arith, e)))
by_tests c (inr slash) (inr feed) (inr return) (inl e) = All-same IsInLine (shown c) _ (ap shown (eqb-true c 9 e)) (pair 116 (λ e. omega (arith, e)))
by_tests c (inr slash) (inr feed) (inr return) (inr tab) =
    other_char c (eqb-false c 92 slash) (eqb-false c 10 feed) (eqb-false c 13 return) (eqb-false c 9 tab) (either (is_hidden c))

all_shown : (cs : List ℕ) → All IsInLine (flat_map shown cs)
all_shown [] = none
all_shown (c ∷ cs) = both (shown c) (flat_map shown cs) (by_tests c (either (c == 92)) (either (c == 10)) (either (c == 13)) (either (c == 9))) (all_shown cs)

text_in_line : (text : List ℕ) → All IsInLine (quoted_text text)
unfolding quoted_text
text_in_line text = all_bytes (flat_map shown (chars text)) (all_shown (chars text))

glyph : (d : ℕ) → digit_glyph false d ≢ 10
glyph d e = grind (arith, e)

byte_in_line : (byte : ℕ) → All IsInLine (quoted_byte byte)
byte_in_line byte =
    both (92 ∷ 120 ∷ []) (digit_glyph false (byte / 16) ∷ digit_glyph false (byte % 16) ∷ []) (pair 120 (λ e. omega (arith, e)))
    (more (digit_glyph false (byte / 16)) (digit_glyph false (byte % 16) ∷ []) (glyph (byte / 16)) (more (digit_glyph false (byte % 16)) [] (glyph (byte % 16)) none))

either_part : (b : Bool) (bs : List ℕ) → All IsInLine bs → All IsInLine (if b then bs else [])
either_part true bs are = are
either_part false bs are = none

within : (k : ℕ) (bytes : List ℕ) → All IsInLine (quoted_within k bytes)
within zero bytes = none
within (suc k) bytes =
    let n = utf8_valid_len bytes in
    both (quoted_text (take n bytes)) _ (text_in_line (take n bytes))
    (either_part (nat_lt n (length bytes)) (quoted_byte (slice_index bytes n) ++ quoted_within k (drop (n + 1) bytes))
    (both (quoted_byte (slice_index bytes n)) (quoted_within k (drop (n + 1) bytes)) (byte_in_line (slice_index bytes n)) (within k (drop (n + 1) bytes))))

pub in_one_line : (name : List ℕ) → All IsInLine (quoted name)
unfolding quoted
in_one_line name = within (length name) name
