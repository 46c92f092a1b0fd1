-- JSON strings (RFC 8259, section 7) and members of objects, as bytes of UTF-8.
use Rattle.std.specs.Prelude.{ℕ, ◌/◌, ◌%◌, false, ◌||◌, List, [], ◌∷◌, ◌++◌, nat_lt, ◌==◌, if◌then◌else◌, codes, flat_map}
use Rattle.std.specs.Fmt.{digit_glyph}

-- A quote and a backslash follow a backslash; a control character is `\u` and its four digits; each other byte is itself.
unfoldable pub escaped : ℕ → List ℕ
escaped byte = if byte == 34 || byte == 92 then 92 ∷ byte ∷ []
    else if nat_lt byte 32 then codes "\\u00" ++ digit_glyph false (byte / 16) ∷ digit_glyph false (byte % 16) ∷ []
    else byte ∷ []

-- a string, with its quotes
abbrev pub json_text : List ℕ → List ℕ
json_text text = 34 ∷ flat_map escaped text ++ 34 ∷ []

-- a member of an object, after others: its name, and a string
abbrev pub text_member : List ℕ → List ℕ → List ℕ
text_member name text = codes ",\"" ++ name ++ codes "\":" ++ json_text text

-- the same with a number, by its digits
abbrev pub number_member : List ℕ → List ℕ → List ℕ
number_member name digits = codes ",\"" ++ name ++ codes "\":" ++ digits
