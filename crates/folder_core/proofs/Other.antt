-- A name that isn't UTF-8 is not read back: its first byte that is in no character stops that.
use Rattle.std.proofs.Common.{◌≡◌, ◌∙◌, ◌<◌, ◌≤◌, ◌+◌, ℕ, zero, suc, List, [], ◌∷◌, ◌++◌, true, false, ◌⊎◌, inl, inr, Option, None, Some, IsUtf8, ap, append_assoc, arith, drop, encode_utf8_all, flat_map, if◌then◌else◌, length, nat_lt, option_map, refl, slice_index, subst, sym, take}
use Rattle.std.proofs.lemmas.Bool.{lt-ltb, ltb-false, ltb-true}
use Rattle.std.proofs.lemmas.List.{take_all}
use Rattle.std.proofs.lemmas.Str.{IsUtf8-from_is_utf8, IsUtf8-nil, chars-append, chars-encodes, scalars-chars, utf8_valid_len_le}
use Rattle.std.specs.Str.{chars, is_utf8}
use Rattle.std.specs.Str.Lossy.{utf8_valid_len, valid_len_up_to}
use Rattle.folder_core.specs.Quotes.{quoted, quoted_byte, quoted_text, quoted_within, read_from, read_on, shown, unquoted}
use Rattle.folder_core.specs.declared.quotes.Escape.TheVariants.{Outside}
use Rattle.folder_core.proofs.Back.{all_scalars, char_read, either}

-- the longest text at the front of bytes is one
one_longer : (bytes : List ℕ) (n : ℕ) → IsUtf8 (take (valid_len_up_to bytes n) bytes)
    → (is_utf8 (take (suc n) bytes) ≡ true) ⊎ (is_utf8 (take (suc n) bytes) ≡ false) → IsUtf8 (take (valid_len_up_to bytes (suc n)) bytes)
one_longer bytes n shorter (inl is) =
    subst (λ b. IsUtf8 (take (if b then suc n else valid_len_up_to bytes n) bytes)) (sym is) (IsUtf8-from_is_utf8 (take (suc n) bytes) is)
one_longer bytes n shorter (inr other) = subst (λ b. IsUtf8 (take (if b then suc n else valid_len_up_to bytes n) bytes)) (sym other) shorter

front_of : (bytes : List ℕ) (n : ℕ) → IsUtf8 (take (valid_len_up_to bytes n) bytes)
front_of bytes zero = IsUtf8-nil
front_of bytes (suc n) = one_longer bytes n (front_of bytes n) (either (is_utf8 (take (suc n) bytes)))

valid_front : (bytes : List ℕ) → IsUtf8 (take (utf8_valid_len bytes) bytes)
unfolding utf8_valid_len
valid_front bytes = front_of bytes (length bytes)

-- texts are read, and then what follows them
same : (o : Option (List ℕ)) → option_map (λ more. [] ++ more) o ≡ o
same None = refl
same (Some cs) = refl

longer : (c : ℕ) (cs : List ℕ) (o : Option (List ℕ)) → option_map (λ more. c ∷ more) (option_map (λ more. cs ++ more) o) ≡ option_map (λ more. (c ∷ cs) ++ more) o
longer c cs None = refl
longer c cs (Some ds) = refl

texts_read : (cs rest : List ℕ) → read_from (flat_map shown cs ++ rest) Outside ≡ option_map (λ more. cs ++ more) (read_from rest Outside)
texts_read [] rest = sym (same (read_from rest Outside))
texts_read (c ∷ cs) rest =
    ap (λ l. read_from l Outside) (append_assoc (shown c) (flat_map shown cs) rest) ∙ char_read c (flat_map shown cs ++ rest)
    ∙ ap (λ o. option_map (λ more. c ∷ more) o) (texts_read cs rest) ∙ longer c cs (read_from rest Outside)

-- a byte that is in no character
no_escape : (cs : List ℕ) → read_from (92 ∷ 120 ∷ cs) Outside ≡ None
unfolding read_on
no_escape cs = refl

begins : (bs : List ℕ) → (cs : List ℕ) × (chars (92 ∷ 120 ∷ bs) ≡ 92 ∷ 120 ∷ cs)
unfolding chars
begins [] = ([], refl)
begins (b ∷ bs) = (chars (b ∷ bs), refl)

stops : (text bs : List ℕ) → IsUtf8 text → unquoted (quoted_text text ++ 92 ∷ 120 ∷ bs) ≡ None
unfolding unquoted quoted_text
stops text bs utf8 =
    let scalar = all_scalars (chars text) (scalars-chars text utf8) in
    let rest = begins bs in
    let is : chars (quoted_text text ++ 92 ∷ 120 ∷ bs) ≡ flat_map shown (chars text) ++ 92 ∷ 120 ∷ rest.0 =
    chars-append (quoted_text text) (92 ∷ 120 ∷ bs) (flat_map shown (chars text), (scalar, refl))
    ∙ ap (λ cs. cs ++ chars (92 ∷ 120 ∷ bs)) (chars-encodes (flat_map shown (chars text)) scalar)
    ∙ ap (λ cs. flat_map shown (chars text) ++ cs) rest.1 in
    ap (λ cs. option_map encode_utf8_all (read_from cs Outside)) is
    ∙ ap (λ o. option_map encode_utf8_all o) (texts_read (chars text) (92 ∷ 120 ∷ rest.0) ∙ ap (λ o. option_map (λ more. chars text ++ more) o) (no_escape rest.0))

partly : (bytes : List ℕ) (k : ℕ) → length bytes ≡ k → utf8_valid_len bytes < length bytes → unquoted (quoted_within k bytes) ≡ None
partly bytes zero is less = absurd (omega (arith, is, less))
partly bytes (suc k) is less =
    let n = utf8_valid_len bytes in
    let step : quoted_within (suc k) bytes ≡ quoted_text (take n bytes) ++ (quoted_byte (slice_index bytes n) ++ quoted_within k (drop (n + 1) bytes)) =
    ap (λ b. quoted_text (take n bytes) ++ (if b then quoted_byte (slice_index bytes n) ++ quoted_within k (drop (n + 1) bytes) else [])) (lt-ltb n (length bytes) less) in
    ap unquoted step ∙ stops (take n bytes) _ (valid_front bytes)

-- bytes that are no text go on after the text at their front
by_order : (bytes : List ℕ) → (IsUtf8 bytes → ⊥) → utf8_valid_len bytes ≤ length bytes
    → (nat_lt (utf8_valid_len bytes) (length bytes) ≡ true) ⊎ (nat_lt (utf8_valid_len bytes) (length bytes) ≡ false) → utf8_valid_len bytes < length bytes
by_order bytes other le (inl is) = ltb-true (utf8_valid_len bytes) (length bytes) is
by_order bytes other le (inr not) =
    absurd (other (subst IsUtf8 (take_all (utf8_valid_len bytes) bytes (ltb-false (utf8_valid_len bytes) (length bytes) not)) (valid_front bytes)))

shorter : (bytes : List ℕ) → (IsUtf8 bytes → ⊥) → utf8_valid_len bytes < length bytes
shorter bytes other = by_order bytes other (utf8_valid_len_le bytes) (either (nat_lt (utf8_valid_len bytes) (length bytes)))

pub not_read_back : (name : List ℕ) → (IsUtf8 name → ⊥) → unquoted (quoted name) ≡ None
unfolding quoted
not_read_back name other = partly name (length name) refl (shorter name other)
