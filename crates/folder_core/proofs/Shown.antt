-- What a line shows for a character, byte by byte.
use Rattle.std.proofs.Common.{◌≡◌, ◌≢◌, ◌∙◌, ◌<◌, ◌^◌, ℕ, List, [], ◌∷◌, ◌++◌, true, false, ap, ap₂, sym, refl, arith, codes, flat_map, append_assoc, append-nil, encode_utf8_all, if◌then◌else◌, chars, ne_eqb, length, IsUtf8, drop, take, get_or, slice_index, ◌+◌, ◌≤◌, zero, suc}
use Rattle.std.proofs.lemmas.Str.{chars-nil, chars_past_char, encodes-append, encode_ascii}
use Rattle.std.proofs.lemmas.List.{length-drop, length-take-le, drop_more}
use Rattle.std.proofs.lemmas.Bool.{le-ltb, lt-ltb}
use Rattle.std.proofs.lemmas.Fmt.{digits_is_IsNumeral}
use Rattle.std.specs.Fmt.{digits}
use Rattle.std.specs.Char.{digit_value, encode_utf8}
use Rattle.std.specs.List.{IsFirstAndRest}
use Rattle.std.specs.Str.Lossy.{utf8_valid_len}
use Rattle.std.specs.Str.Parse.{AllDigits}
use Rattle.folder_core.specs.Quotes.{is_hidden, quoted, quoted_byte, quoted_text, quoted_within, shown}

-- characters of ASCII are their own bytes
two : (b c : ℕ) → b < 128 → c < 128 → encode_utf8_all (b ∷ c ∷ []) ≡ b ∷ c ∷ []
two b c small less = ap₂ (λ bs rest. bs ++ rest) (encode_ascii b small) (ap (λ bs. bs ++ []) (encode_ascii c less))

pub small_digit : (c : ℕ) → digit_value c < 16 → c < 128
small_digit c less = grind (arith, less)

ascii_digits : (ds : List ℕ) → AllDigits 16 ds → encode_utf8_all ds ≡ ds
ascii_digits [] all = refl
ascii_digits (c ∷ cs) all = ap₂ (λ bs rest. bs ++ rest) (encode_ascii c (small_digit c all.0)) (ascii_digits cs all.1)

-- the choices of `shown` for a character that has no letter of its own
pub others : (c : ℕ) → c ≢ 92 → c ≢ 10 → c ≢ 13 → c ≢ 9 → shown c ≡ (if is_hidden c then codes "\\u{" ++ digits 16 false c ++ codes "}" else c ∷ [])
unfolding shown
others c slash feed return tab = rw (ne_eqb c 92 slash, ne_eqb c 10 feed, ne_eqb c 13 return, ne_eqb c 9 tab) refl

pub shown_backslash : (c : ℕ) → c ≡ 92 → encode_utf8_all (shown c) ≡ codes "\\\\"
unfolding shown
shown_backslash c is = rw is (two 92 92 (omega arith) (omega arith))

pub shown_feed : (c : ℕ) → c ≡ 10 → encode_utf8_all (shown c) ≡ codes "\\n"
unfolding shown
shown_feed c is = rw is (two 92 110 (omega arith) (omega arith))

pub shown_return : (c : ℕ) → c ≡ 13 → encode_utf8_all (shown c) ≡ codes "\\r"
unfolding shown
shown_return c is = rw is (two 92 114 (omega arith) (omega arith))

pub shown_tab : (c : ℕ) → c ≡ 9 → encode_utf8_all (shown c) ≡ codes "\\t"
unfolding shown
shown_tab c is = rw is (two 92 116 (omega arith) (omega arith))

pub shown_hidden : (c : ℕ) → c ≢ 92 → c ≢ 10 → c ≢ 13 → c ≢ 9 → is_hidden c ≡ true → c < 2 ^ 32
    → encode_utf8_all (shown c) ≡ codes "\\u{" ++ (digits 16 false c ++ codes "}")
shown_hidden c slash feed return tab hidden less =
    let numeral = digits_is_IsNumeral 16 false (omega arith) (omega arith) c (omega (arith, less)) in
    let end : encode_utf8_all (digits 16 false c ++ codes "}") ≡ digits 16 false c ++ codes "}" =
    encodes-append (digits 16 false c) (codes "}") ∙ ap₂ (λ ds rest. ds ++ rest) (ascii_digits (digits 16 false c) numeral.0.1) (ap (λ bs. bs ++ []) (encode_ascii 125 (omega arith))) in
    let is : shown c ≡ codes "\\u{" ++ (digits 16 false c ++ codes "}") = rw hidden at (others c slash feed return tab) in
    ap encode_utf8_all is
    ∙ ap₂ (λ bs rest. bs ++ rest) (encode_ascii 92 (omega arith)) (ap₂ (λ bs rest. bs ++ rest) (encode_ascii 117 (omega arith)) (ap₂ (λ bs rest. bs ++ rest) (encode_ascii 123 (omega arith)) end))

pub shown_itself : (c : ℕ) → c ≢ 92 → c ≢ 10 → c ≢ 13 → c ≢ 9 → is_hidden c ≡ false → encode_utf8_all (shown c) ≡ encode_utf8 c
shown_itself c slash feed return tab hidden =
    let is : shown c ≡ c ∷ [] = rw hidden at (others c slash feed return tab) in
    ap encode_utf8_all is ∙ append-nil (encode_utf8 c)

-- a text as a line shows it, character by character
pub shown_empty : (text : List ℕ) → length text ≡ 0 → quoted_text text ≡ []
unfolding quoted_text
shown_empty [] none = ap (λ cs. encode_utf8_all (flat_map shown cs)) chars-nil
shown_empty (b ∷ bs) none = absurd (omega (arith, none))

pub shown_step : (text rest : List ℕ) (c : ℕ) → IsUtf8 text → text ≡ encode_utf8 c ++ rest → quoted_text text ≡ encode_utf8_all (shown c) ++ quoted_text rest
unfolding quoted_text
shown_step text rest c utf8 is =
    ap (λ cs. encode_utf8_all (flat_map shown cs)) (chars_past_char text rest c utf8 is) ∙ encodes-append (shown c) (flat_map shown (chars rest))

-- the byte at which a text ends, and what follows it
pub cut_at : (bytes back more : List ℕ) (byte n : ℕ) → back ≡ drop n bytes → IsFirstAndRest back byte more
    → (n < length bytes) × (byte ≡ slice_index bytes n) × (more ≡ drop (n + 1) bytes)
cut_at bytes back more byte n is parts =
    let less : n < length bytes = omega (arith, ap length parts.0, ap length is, length-drop n bytes) in
    let whole : byte ∷ more ≡ get_or bytes n 0 ∷ drop (n + 1) bytes = sym parts.0 ∙ is ∙ drop_more bytes n 0 less in
    (less, ap (λ l. get_or l 0 0) whole, ap (drop 1) whole)

-- the number that `quoted_within` needs is left
abbrev pub IsQuotedUpTo : List ℕ → List ℕ → List ℕ → Type 0
IsQuotedUpTo done rest name = (k : ℕ) × (length rest ≤ k) × (done ++ quoted_within k rest ≡ quoted name)

pub begun : (name : List ℕ) → IsQuotedUpTo [] name name
unfolding quoted
begun name = (length name, omega arith, refl)

-- a text and a byte more
pub one_more : (done front_done all_done rest front more name : List ℕ) (byte : ℕ) → IsQuotedUpTo done rest name
    → front ≡ take (utf8_valid_len rest) rest → front_done ≡ done ++ quoted_text front → all_done ≡ front_done ++ quoted_byte byte
    → utf8_valid_len rest < length rest → byte ≡ slice_index rest (utf8_valid_len rest) → more ≡ drop (utf8_valid_len rest + 1) rest
    → IsQuotedUpTo all_done more name
one_more done front_done all_done rest front more name byte (zero, few, is) front_is first second less byte_is more_is = absurd (omega (arith, less, few))
one_more done front_done all_done rest front more name byte (suc k, few, is) front_is first second less byte_is more_is =
    let n = utf8_valid_len rest in
    let step : quoted_within (suc k) rest ≡ quoted_text (take n rest) ++ (quoted_byte (slice_index rest n) ++ quoted_within k (drop (n + 1) rest)) =
    ap (λ b. quoted_text (take n rest) ++ (if b then quoted_byte (slice_index rest n) ++ quoted_within k (drop (n + 1) rest) else [])) (lt-ltb n (length rest) less) in
    let named : quoted_text front ++ (quoted_byte byte ++ quoted_within k more) ≡ quoted_within (suc k) rest =
    rw (front_is, byte_is, more_is) (sym step) in (
      k,
      omega (arith, few, ap length more_is, length-drop (n + 1) rest),
      ap (λ l. l ++ quoted_within k more) (second ∙ ap (λ l. l ++ quoted_byte byte) first)
          ∙ append_assoc (done ++ quoted_text front) (quoted_byte byte) (quoted_within k more)
          ∙ append_assoc done (quoted_text front) (quoted_byte byte ++ quoted_within k more)
          ∙ ap (λ l. done ++ l) named ∙ is,
    )

-- the last text
pub at_the_end : (done all_done rest front name : List ℕ) → IsQuotedUpTo done rest name → front ≡ take (utf8_valid_len rest) rest
    → all_done ≡ done ++ quoted_text front → utf8_valid_len rest ≡ length rest → all_done ≡ quoted name
at_the_end done all_done rest front name (zero, few, is) front_is first whole =
    let empty : quoted_text front ≡ [] = shown_empty front (omega (arith, ap length front_is, few, whole, length-take-le (utf8_valid_len rest) rest)) in
    first ∙ ap (λ l. done ++ l) empty ∙ is
at_the_end done all_done rest front name (suc k, few, is) front_is first whole =
    let n = utf8_valid_len rest in
    let step : quoted_within (suc k) rest ≡ quoted_text (take n rest) ++ [] =
    ap (λ b. quoted_text (take n rest) ++ (if b then quoted_byte (slice_index rest n) ++ quoted_within k (drop (n + 1) rest) else [])) (le-ltb n (length rest) (omega (arith, whole))) in
    first ∙ ap (λ l. done ++ quoted_text l) front_is ∙ ap (λ l. done ++ l) (sym (append-nil _) ∙ sym step) ∙ is
