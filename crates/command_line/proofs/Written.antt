-- What the words of the command line denote.
use Rattle.std.proofs.Common.{◌≡◌, ◌==◌, take-append-drop, ℕ, ◌+◌, ◌-◌, ◌*◌, ◌^◌, ◌<◌, ◌≤◌, Bool, cond, subst, ne_eqb, length-drop, get_or-drop, true, false, List, [], ◌∷◌, ◌++◌, length, take, drop, get_or, set, Option, None, Some, Result, Ok, Err, MatchResult, MatchOption, Bor, codes, decimal, if◌then◌else◌, option_map, bytes_eq, refl, sym, ap, ap₂, ◌∙◌, rules, arith, append_assoc, append-nil}
use Rattle.std.proofs.lemmas.List.{drop_more, take_more_set, take_all, drop_all, drop-set-lt}
use Rattle.std.proofs.lemmas.Fmt.{decimal_is_IsNumeral_wide}
use Rattle.std.proofs.lemmas.Slice.Eq.{bytes_eq-Decides}
use Rattle.std.specs.Int.{IsInRange}
use Rattle.std.proofs.lemmas.Bool.{both_ways, and_from, and_parts, false_from_ne_true, lt-ltb, ltb-true}
use Rattle.std.proofs.lemmas.Str.Pattern.{IsSplitOnceResult, split_once_first}
use Rattle.std.proofs.lemmas.Str.Parse.{digit_at, without_leading_plus_none, IsNumeralModel, numerals_by_value}
use Rattle.std.specs.List.{before_first, after_first, position_or_len}
use Rattle.std.specs.Str.{all_ascii_digits}
use Rattle.std.specs.Str.Parse.{AllDigits, ParsesUnsigned, digits_value, without_leading_plus}
use Rattle.command_line.specs.Given.{numeral_value}
use Rattle.command_line.specs.Words.{is_numeral, unit_of, scaled, stands_for, shorthand_of, inline_number, word_read, words_read, most_bytes, written_out}
use Rattle.command_line.specs.declared.words.Shorthand.{Shorthand}
use Rattle.command_line.specs.declared.words.Shorthand.TheVariants.{Limit, Processors, Nothing}

own : IsNumeralModel (λ ds. all_ascii_digits ds ≡ true) (digits_value 10)
own = numerals_by_value _ (search rules)

-- `parse` at 64 bits reads a number, or its text is none
pub parsed : {E : Type 0} (text : List ℕ) (r : Result ℕ E) → ParsesUnsigned 64 10 text r
    → MatchResult r (λ n. (is_numeral text ≡ true) × (n ≡ numeral_value text)) (λ _. is_numeral text ≡ false)
parsed text (Ok n) p = (
  and_from _ _ (lt-ltb _ _ p.0.0.0) (and_from _ _ (own.from (without_leading_plus text) p.0.0.1) (lt-ltb _ _ p.0.1)),
  p.1,
)
parsed text (Err e) p =
    false_from_ne_true _ (λ is.
    let some = and_parts _ _ is in
    let rest = and_parts _ _ some.1 in
    p ((ltb-true _ _ some.0, own.to (without_leading_plus text) rest.0), ltb-true _ _ rest.1))

-- a text denotes nothing if it is empty, its last byte is no unit, or the rest is no number
pub scaled_empty : (text : List ℕ) → length text ≡ 0 → scaled text ≡ None
unfolding scaled
scaled_empty [] e = refl
scaled_empty (b ∷ text) e = absurd (omega (arith, e))

nothing_else : (b : Bool) {o : Option ℕ} → o ≡ None → (if b then o else None) ≡ None
nothing_else true e = e
nothing_else false e = refl

pub scaled_no_unit : (text : List ℕ) → unit_of (get_or text (length text - 1) 0) ≡ None → scaled text ≡ None
unfolding scaled
scaled_no_unit text e =
    nothing_else (is_numeral (take (length text - 1) text))
    (ap (option_map (λ unit. numeral_value (take (length text - 1) text) * unit)) e)

pub scaled_no_number : (text : List ℕ) → is_numeral (take (length text - 1) text) ≡ false → scaled text ≡ None
unfolding scaled
scaled_no_number text e = rw e refl

pub scaled_is : (text : List ℕ) (n unit : ℕ) → is_numeral (take (length text - 1) text) ≡ true → n ≡ numeral_value (take (length text - 1) text)
    → unit_of (get_or text (length text - 1) 0) ≡ Some unit → scaled text ≡ Some (n * unit)
unfolding scaled
scaled_is text n unit is e u = rw is (rw u (ap (λ m. Some (m * unit)) (sym e)))

-- a word without an equals sign has no value within it
pub nothing_empty : (processors : ℕ) (takes : Shorthand) → stands_for processors takes [] ≡ None
unfolding stands_for
nothing_empty processors (Limit most) = scaled_empty [] refl
nothing_empty processors Processors = refl
nothing_empty processors Nothing = refl

-- what `split_once` finds in a word is its option and its value
pub value_within : (processors most : ℕ) (word : List ℕ) (r : Option (Bor (List ℕ) × Bor (List ℕ))) → IsSplitOnceResult 61 word r
    → MatchOption r (inline_number processors most word ≡ None) (λ x.
    (inline_number processors most word ≡ stands_for processors (shorthand_of most x.0.now) x.1.now)
    × (x.0.now ≡ before_first (λ b. b == 61) word))
unfolding inline_number
value_within processors most word None h =
    let e : position_or_len (λ b. b == 61) word ≡ length word = split_once_first 61 word None h (omega arith) in
    let rest : after_first (λ b. b == 61) word ≡ [] = drop_all _ word (omega (arith, e)) in
    ap (stands_for processors (shorthand_of most (before_first (λ b. b == 61) word))) rest ∙ nothing_empty processors _
value_within processors most word (Some x) h =
    let parts = split_once_first 61 word (Some x) h (omega arith) in
    (ap₂ (λ n v. stands_for processors (shorthand_of most n) v) (sym parts.1) (sym parts.2), parts.1)

-- what is read in a word's place
pub read_inline : (processors most n : ℕ) (before : Shorthand) (word : List ℕ) → inline_number processors most word ≡ Some n
    → word_read processors most before word ≡ before_first (λ b. b == 61) word ++ 61 ∷ decimal n
unfolding word_read
read_inline processors most n before word e = rw e refl

pub read_value : (processors most n : ℕ) (before : Shorthand) (word : List ℕ) → inline_number processors most word ≡ None
    → stands_for processors before word ≡ Some n → word_read processors most before word ≡ decimal n
unfolding word_read
read_value processors most n before word e v = rw e (rw v refl)

pub read_as_it_is : (processors most : ℕ) (before : Shorthand) (word : List ℕ) → inline_number processors most word ≡ None
    → stands_for processors before word ≡ None → word_read processors most before word ≡ word
unfolding word_read
read_as_it_is processors most before word e v = rw e (rw v refl)

-- the words up to i are read, and the rest is still to be read
abbrev pub IsReadUpTo : ℕ → ℕ → Shorthand → ℕ → List (List ℕ) → List (List ℕ) → Type 0
IsReadUpTo processors most before i words whole = take i words ++ words_read processors most before (drop i words) ≡ whole

-- with fewer than two words nothing is read
pub short_words : (processors : ℕ) (words : List (List ℕ)) → length words ≤ 1 → written_out processors words ≡ words
unfolding written_out
short_words processors [] le = refl
short_words processors (program ∷ []) le = refl
short_words processors (program ∷ command ∷ words) le = absurd (omega (arith, le))

pub begun : (processors most : ℕ) (words : List (List ℕ)) (command : List ℕ) → 1 < length words → command ≡ get_or words 1 []
    → most ≡ most_bytes command → IsReadUpTo processors most Nothing 2 words (written_out processors words)
unfolding written_out
begun processors most [] command less e m = absurd (omega (arith, less))
begun processors most (program ∷ []) command less e m = absurd (omega (arith, less))
begun processors most (program ∷ first ∷ words) command less e m =
    ap (λ n. program ∷ first ∷ words_read processors n Nothing words) (m ∙ ap most_bytes e)

read_step : (processors most : ℕ) (before : Shorthand) (word : List ℕ) (rest : List (List ℕ)) → bytes_eq word (codes "--") ≡ false
    → words_read processors most before (word ∷ rest)
    ≡ word_read processors most before word ∷ words_read processors most (shorthand_of most word) rest
unfolding words_read
read_step processors most before word rest other = rw other refl

dashes_step : (processors most : ℕ) (before : Shorthand) (word : List ℕ) (rest : List (List ℕ)) → bytes_eq word (codes "--") ≡ true
    → words_read processors most before (word ∷ rest) ≡ word ∷ rest
unfolding words_read
dashes_step processors most before word rest dashes = rw dashes refl

-- one more word is read: the list has another in its place, or stays
pub one_more : (processors most : ℕ) (before takes : Shorthand) (i : ℕ) (words next whole : List (List ℕ)) (word : List ℕ)
    → IsReadUpTo processors most before i words whole → i < length words → word ≡ get_or words i []
    → bytes_eq word (codes "--") ≡ false → takes ≡ shorthand_of most word → next ≡ set words i (word_read processors most before word)
    → IsReadUpTo processors most takes (i + 1) next whole
one_more processors most before takes i words next whole word is less e other t put =
    let read : List ℕ = word_read processors most before word in
    let behind : drop i words ≡ word ∷ drop (i + 1) words =
    drop_more words i [] less ∙ ap (λ w. w ∷ drop (i + 1) words) (sym e) in
    let step : words_read processors most before (drop i words)
    ≡ read ∷ words_read processors most takes (drop (i + 1) words) =
    ap (words_read processors most before) behind ∙ read_step processors most before word (drop (i + 1) words) other
    ∙ ap (λ k. read ∷ words_read processors most k (drop (i + 1) words)) (sym t) in
    let front : take (i + 1) next ≡ take i words ++ read ∷ [] = ap (take (i + 1)) put ∙ take_more_set words i read less in
    let back : drop (i + 1) next ≡ drop (i + 1) words =
    ap (drop (i + 1)) put ∙ drop-set-lt (i + 1) words i read (omega arith) in
    ap₂ (λ l r. l ++ words_read processors most takes r) front back
    ∙ append_assoc (take i words) (read ∷ []) _
    ∙ ap (λ l. take i words ++ l) (sym step) ∙ is

-- the words end, or the word here is `--`
pub at_the_end : (processors most : ℕ) (before : Shorthand) (i : ℕ) (words whole : List (List ℕ))
    → IsReadUpTo processors most before i words whole → length words ≤ i → words ≡ whole
unfolding words_read
at_the_end processors most before i words whole is le =
    let rest : words_read processors most before (drop i words) ≡ [] = ap (words_read processors most before) (drop_all i words le) in
    sym (append-nil words) ∙ ap₂ (λ l r. l ++ r) (sym (take_all i words le)) (sym rest) ∙ is

pub ended_here : (processors most : ℕ) (before : Shorthand) (i : ℕ) (words whole : List (List ℕ)) (word : List ℕ)
    → IsReadUpTo processors most before i words whole → i < length words → word ≡ get_or words i []
    → bytes_eq word (codes "--") ≡ true → words ≡ whole
ended_here processors most before i words whole word is less e dashes =
    let behind : drop i words ≡ word ∷ drop (i + 1) words =
    drop_more words i [] less ∙ ap (λ w. w ∷ drop (i + 1) words) (sym e) in
    let rest : words_read processors most before (drop i words) ≡ drop i words =
    ap (words_read processors most before) behind ∙ dashes_step processors most before word (drop (i + 1) words) dashes ∙ sym behind in
    sym (take-append-drop i words) ∙ ap (λ l. take i words ++ l) (sym rest) ∙ is

-- a number written in digits is read as itself
pub read_back : (n : ℕ) → n < 2 ^ 128 → numeral_value (decimal n) ≡ n
read_back n less =
    let is = decimal_is_IsNumeral_wide n (omega (arith, less)) in
    let first = digit_at (decimal n) 0 is.0.1 is.0.0 in
    ap (digits_value 10) (without_leading_plus_none (decimal n) (λ e. omega (arith, e, first.0))) ∙ is.1

-- a digit is no unit
digit_no_unit : (c : ℕ) → 48 ≤ c → c ≤ 57 → unit_of c ≡ None
digit_no_unit c low high =
    let k = ne_eqb c 75 (λ e. omega (arith, e, high)) in
    let m = ne_eqb c 77 (λ e. omega (arith, e, high)) in
    let g = ne_eqb c 71 (λ e. omega (arith, e, high)) in
    let t = ne_eqb c 84 (λ e. omega (arith, e, high)) in
    rw k (rw m (rw g (rw t refl)))

-- the last byte of a number is a digit
last_of : (k : ℕ) (text : List ℕ) → 0 < length (drop k text) → AllDigits 10 (drop k text) → IsInRange 48 57 (get_or text (length text - 1) 0)
last_of k text some digits =
    let place : get_or (drop k text) (length (drop k text) - 1) 0 ≡ get_or text (length text - 1) 0 =
    get_or-drop k text (length (drop k text) - 1) 0 ∙ ap (λ i. get_or text i 0) (omega (arith, length-drop k text, some)) in
    subst (IsInRange 48 57) place (digit_at (drop k text) (length (drop k text) - 1) digits (omega (arith, some)))

no_unit : (text : List ℕ) → is_numeral text ≡ true → scaled text ≡ None
no_unit text is =
    let parts = and_parts _ _ is in
    let digits = own.to (without_leading_plus text) (and_parts _ _ parts.1).0 in
    let last = last_of (cond (get_or text 0 0 == 43) 1 0) text (ltb-true _ _ parts.0) digits in
    scaled_no_unit text (digit_no_unit _ last.0 last.1)

-- what is no number isn't the text of one
not_word : (text word : List ℕ) → is_numeral text ≡ true → is_numeral word ≡ false → bytes_eq text word ≡ false
not_word text word is differs =
    false_from_ne_true _ (λ e. both_ways (is_numeral word) differs (ap is_numeral (sym ((bytes_eq-Decides text word).0 e)) ∙ is))

pub plain_stays : (processors : ℕ) (takes : Shorthand) (text : List ℕ) → is_numeral text ≡ true → stands_for processors takes text ≡ None
unfolding stands_for
plain_stays processors (Limit most) text is = rw (not_word text (codes "max") is refl) (no_unit text is)
plain_stays processors Processors text is = rw (not_word text (codes "auto") is refl) refl
plain_stays processors Nothing text is = refl
