-- The lines about headers that were read without a key.
use Rattle.std.specs.Prelude.{false, ℕ, ◌/◌, ◌%◌, List, [], ◌∷◌, ◌++◌, Option, Some, None, codes, flat_map}
use Rattle.std.specs.Fmt.{decimal, digit_glyph}

-- two hex digits for each byte
abbrev pub hex_byte : ℕ → List ℕ
hex_byte byte = digit_glyph false (byte / 16) ∷ digit_glyph false (byte % 16) ∷ []

abbrev pub hex_text : List ℕ → List ℕ
hex_text bytes = flat_map hex_byte bytes

-- how many plaintext bytes, or a question mark if no container has the file's length
abbrev pub bytes_text : Option ℕ → List ℕ
bytes_text (Some bytes) = decimal bytes
bytes_text None = codes "?"

-- `key ID no ranges`
abbrev pub alone_text : List ℕ → List ℕ
alone_text hint = codes "key " ++ hex_text hint ++ codes " no ranges"
