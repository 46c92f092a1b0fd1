-- The label of a container, as lines show it and as an object has it.
use Rattle.std.specs.Prelude.{◌≡◌, ℕ, ◌+◌, ◌-◌, ◌*◌, ◌/◌, ◌%◌, Bool, false, ◌==◌, ◌&&◌, nat_le, if◌then◌else◌}
use Rattle.std.specs.Prelude.{List, [], ◌∷◌, ◌++◌, codes, flat_map, Option, Some, None}
use Rattle.std.specs.Borrow.{Bor}
use Rattle.std.specs.Fmt.{digit_glyph}
use Rattle.std.specs.Str.{IsUtf8}
use Rattle.line_core.specs.Json.{text_member}

-- the value of a hexadecimal digit in small letters; 0 of another byte
abbrev pub hex_value : ℕ → ℕ
hex_value digit = if nat_le 48 digit && nat_le digit 57 then digit - 48
    else if nat_le 97 digit && nat_le digit 102 then digit - 87 else 0

-- whether a backslash and an x are the first bytes
abbrev pub is_escape : ℕ → ℕ → Bool
is_escape first second = first == 92 && second == 120

-- the bytes of a label that a line shows like this: `\xHH` is the byte of these digits, and each other byte is itself
unfoldable pub read_label : List ℕ → List ℕ
read_label [] = []
read_label (a ∷ []) = a ∷ []
read_label (a ∷ b ∷ []) = a ∷ b ∷ []
read_label (a ∷ b ∷ c ∷ []) = a ∷ b ∷ c ∷ []
read_label (a ∷ b ∷ c ∷ d ∷ rest) =
    if is_escape a b then (hex_value c * 16 + hex_value d) ∷ read_label rest else a ∷ read_label (b ∷ c ∷ d ∷ rest)

-- the two digits of a byte
unfoldable pub hex_digits : ℕ → List ℕ
hex_digits byte = digit_glyph false (byte / 16) ∷ digit_glyph false (byte % 16) ∷ []

-- the member of a label that is no text: the digits of its bytes
abbrev pub hex_member : List ℕ → List ℕ
hex_member label = codes ",\"label_hex\":\"" ++ flat_map hex_digits label ++ codes "\""

-- the member of a label: a text, if it is UTF-8, and else digits
pub record HasLabel (shown member : List ℕ) : Type 0 where
  pub text : IsUtf8 (read_label shown) → member ≡ text_member (codes "label") (read_label shown)
  pub digits : ¬ IsUtf8 (read_label shown) → member ≡ hex_member (read_label shown)

-- the same, if there is a label
abbrev pub HasSomeLabel : Option (Bor (List ℕ)) → List ℕ → Type 0
HasSomeLabel None member = member ≡ []
HasSomeLabel (Some shown) member = HasLabel shown.now member
