-- What the queries select from the two tables, and what they return.
use Rattle.std.specs.Prelude.{Bool, Option, Some, None, is_some, length, not, nat_lt, List}
use Rattle.std.specs.Prelude.{[], ◌∷◌, ℕ, pos, true, false, ◌&&◌, ◌==◌, bytes_eq, codes}
use Rattle.sqlite.specs.declared.types.Value.{Value}
use Rattle.sqlite.specs.declared.types.Value.TheVariants.{Int, Blob}
use Rattle.sqlite.specs.Order.{Row, column}
use Rattle.journal_core.specs.Range.{most_device, number_limit}

-- ---- the texts

abbrev pub next_text : List ℕ
next_text = codes "SELECT next FROM mark WHERE key_id = ?1 AND device = ?2"

abbrev pub ranges_text : List ℕ
ranges_text = codes "SELECT lo, size FROM taken WHERE key_id = ?1 AND device = ?2 ORDER BY lo"

abbrev pub marks_text : List ℕ
marks_text = codes "SELECT rowid, key_id, device, next FROM mark ORDER BY key_id, device"

abbrev pub takings_text : List ℕ
takings_text = codes "SELECT rowid, key_id, device, lo, size FROM taken ORDER BY key_id, device, lo"

abbrev pub ids_text : List ℕ
ids_text = codes "SELECT rowid FROM mark ORDER BY rowid"

-- ---- which key ID and device a row is of

abbrev pub is_blob : List ℕ → Value → Bool
is_blob key (Blob b) = bytes_eq b key
is_blob key _ = false

abbrev pub is_number : ℕ → Value → Bool
is_number n (Int (pos m)) = m == n
is_number n _ = false

-- the row, of either table, is of this key ID and device
abbrev pub is_for : List ℕ → ℕ → Row → Bool
is_for key device row = is_blob key (column row 1) && is_number device (column row 2)

-- ---- what a query returns for a row

abbrev pub shown_next : Row → Row
shown_next row = column row 3 ∷ []

abbrev pub shown_mark : Row → Row
shown_mark row = column row 0 ∷ column row 1 ∷ column row 2 ∷ column row 3 ∷ []

abbrev pub shown_id : Row → Row
shown_id row = column row 0 ∷ []

abbrev pub shown_range : Row → Row
shown_range row = column row 3 ∷ column row 4 ∷ []

abbrev pub shown_taken : Row → Row
shown_taken row = column row 0 ∷ column row 1 ∷ column row 2 ∷ column row 3 ∷ column row 4 ∷ []

-- ---- what a value is

abbrev pub as_number : Value → Option ℕ
as_number (Int (pos n)) = Some n
as_number _ = None

abbrev pub is_key : Value → Bool
is_key (Blob b) = length b == 32
is_key _ = false

-- an integer from 0 to `most`
abbrev pub is_within : ℕ → Value → Bool
is_within most (Int (pos n)) = not (nat_lt most n)
is_within most _ = false

abbrev pub is_rowid : Value → Bool
is_rowid (Int n) = true
is_rowid _ = false

abbrev pub is_owner : Row → Bool
is_owner row = is_key (column row 1) && is_within most_device (column row 2)

abbrev pub is_mark_row : Row → Bool
is_mark_row row = is_rowid (column row 0) && (is_owner row && is_within number_limit (column row 3))

-- two integers that are not negative
abbrev pub is_range_row : Row → Bool
is_range_row row = is_some (as_number (column row 0)) && is_some (as_number (column row 1))

abbrev pub is_taken_row : Row → Bool
is_taken_row row = is_owner row && (is_some (as_number (column row 3)) && is_some (as_number (column row 4)))
