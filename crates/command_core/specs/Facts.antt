-- What `verify --show` prints for a good container, on the line after its own.
use Rattle.std.specs.Prelude.{◌≡◌, ◌≤◌, ℕ, ◌/◌, ◌%◌, ◌==◌, ◌&&◌, nat_lt, not, Bool, List, [], ◌∷◌, ◌++◌, take, drop}
use Rattle.std.specs.Prelude.{false, flat_map, slice_index, codes, if◌then◌else◌}
use Rattle.std.specs.Fmt.{decimal, digit_glyph}
use Rattle.journal_core.specs.Range.{most_device, prefix_of}
use Rattle.container_core.specs.Container.{size_in}
use Rattle.container_core.specs.Stream.{prefix_in}
use Rattle.command_core.specs.declared.facts.Facts.{Facts}

-- the label
abbrev pub label_of : Facts → List ℕ
label_of facts = take facts.length facts.label

-- what a header says; device and number are those whose prefix it names
pub record IsOfHeader (facts : Facts) (header : List ℕ) : Type 0 where
  pub version : facts.version ≡ slice_index header 8
  pub chunk : facts.chunk ≡ size_in header
  pub prefix : prefix_of facts.device facts.number ≡ prefix_in header
  pub few : facts.device ≤ most_device
  pub label : label_of facts ≡ drop 25 header

-- a byte that is printed as it is: printable ASCII except the quote and the backslash
abbrev pub is_printed : ℕ → Bool
is_printed byte = nat_lt 31 byte && nat_lt byte 127 && not (byte == 34) && not (byte == 92)

-- any other byte is `\x` and two hex digits
abbrev pub byte_text : ℕ → List ℕ
byte_text byte =
    if is_printed byte then byte ∷ []
    else codes "\\x" ++ digit_glyph false (byte / 16) ∷ digit_glyph false (byte % 16) ∷ []

abbrev pub label_text : List ℕ → List ℕ
label_text label = flat_map byte_text label

abbrev pub quoted_label : List ℕ → List ℕ
quoted_label label = 34 ∷ label_text label ++ 34 ∷ []

-- what follows the numbers: nothing in version 1, which has no label
abbrev pub label_part : Facts → List ℕ
label_part facts = if facts.version == 1 then [] else codes " label " ++ quoted_label (label_of facts)

-- `  version V chunk C device D file N label "L"`
unfoldable pub facts_text : Facts → List ℕ
facts_text facts =
    codes "  version " ++ decimal facts.version ++ codes " chunk " ++ decimal facts.chunk
    ++ codes " device " ++ decimal facts.device ++ codes " file " ++ decimal facts.number ++ label_part facts
