-- Names as a line shows them: with escapes for what would end the line, or turn its direction, and for what is no text.
use Rattle.std.specs.Prelude.{ℕ, zero, suc, ◌+◌, ◌*◌, ◌/◌, ◌%◌, Bool, false, ◌&&◌, ◌||◌, List, [], ◌∷◌, ◌++◌, length, take, drop, Option, Some, None, nat_lt, ◌==◌, if◌then◌else◌}
use Rattle.std.specs.Prelude.{chars, codes, encode_utf8_all, flat_map, option_and_then, option_map, option_to_list, slice_index}
use Rattle.std.specs.Char.{digit_value, is_control, is_digit}
use Rattle.std.specs.Fmt.{digit_glyph, digits}
use Rattle.std.specs.Int.{is_in_range}
use Rattle.std.specs.Str.Lossy.{utf8_valid_len}
use Rattle.folder_core.specs.declared.quotes.Escape.{Escape}
use Rattle.folder_core.specs.declared.quotes.Escape.TheVariants.{Outside, Begun, Named, Digits}

-- control characters, ends of line, characters without width, and marks of direction: a terminal doesn't show them, or lets
-- them move other text
abbrev pub is_hidden : ℕ → Bool
is_hidden c = is_control c || (c == 0x061C || (is_in_range 0x200B 0x200F c || (is_in_range 0x2028 0x202E c
    || (is_in_range 0x2060 0x2069 c || c == 0xFEFF))))

-- the code of a character: none from 0xD800 to 0xDFFF is one
abbrev pub is_code : ℕ → Bool
is_code n = nat_lt n 0xD800 || is_in_range 0xE000 0x10FFFF n

-- the characters that a line shows for a character
unfoldable pub shown : ℕ → List ℕ
shown c = if c == 92 then codes "\\\\" else if c == 10 then codes "\\n" else if c == 13 then codes "\\r" else if c == 9 then codes "\\t"
    else if is_hidden c then codes "\\u{" ++ digits 16 false c ++ codes "}" else c ∷ []

-- what a line shows for a byte that is in no character
abbrev pub quoted_byte : ℕ → List ℕ
quoted_byte byte = codes "\\x" ++ digit_glyph false (byte / 16) ∷ digit_glyph false (byte % 16) ∷ []

-- a text as a line shows it
unfoldable pub quoted_text : List ℕ → List ℕ
quoted_text text = encode_utf8_all (flat_map shown (chars text))

-- The bytes of a name as a line shows them. A byte that is in no character is `\x` and its two digits. The number is at
-- least that of the bytes.
abbrev pub quoted_within : ℕ → List ℕ → List ℕ
quoted_within zero bytes = []
quoted_within (suc k) bytes = let n = utf8_valid_len bytes in quoted_text (take n bytes)
    ++ (if nat_lt n (length bytes) then quoted_byte (slice_index bytes n) ++ quoted_within k (drop (n + 1) bytes) else [])

unfoldable pub quoted : List ℕ → List ℕ
quoted bytes = quoted_within (length bytes) bytes

-- What a character says after what was read of an escape: what was read of the escape then, and the character that is
-- known by now, if one is. None if that is no escape of a character.
unfoldable pub read_on : Escape → ℕ → Option (Escape × Option ℕ)
read_on Outside c = if c == 92 then Some (Begun, None) else Some (Outside, Some c)
read_on Begun c = if c == 92 then Some (Outside, Some 92) else if c == 110 then Some (Outside, Some 10)
    else if c == 114 then Some (Outside, Some 13) else if c == 116 then Some (Outside, Some 9)
    else if c == 117 then Some (Named, None) else None
read_on Named c = if c == 123 then Some (Digits 0, None) else None
read_on (Digits n) c = if c == 125 then (if is_code n then Some (Outside, Some n) else None)
    else if is_digit c 16 && nat_lt (n * 16 + digit_value c) 0x110000 then Some (Digits (n * 16 + digit_value c), None) else None

-- nothing is left of an escape
abbrev pub ends : Escape → Option (List ℕ)
ends Outside = Some []
ends Begun = None
ends Named = None
ends (Digits n) = None

-- the characters that these show, after what was read of an escape
abbrev pub read_from : List ℕ → Escape → Option (List ℕ)
read_from [] escape = ends escape
read_from (c ∷ cs) escape = option_and_then
    (λ step. option_map (λ more. option_to_list step.1 ++ more) (read_from cs step.0)) (read_on escape c)

-- the name that a line shows as this text, if it is text itself
unfoldable pub unquoted : List ℕ → Option (List ℕ)
unquoted text = option_map encode_utf8_all (read_from (chars text) Outside)
