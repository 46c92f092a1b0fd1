-- What is reserved: for each key ID and device a list of ranges. The first begins at 0, and each other where the
-- previous one ends.
use Rattle.std.specs.Prelude.{⊤, ◌≡◌, ◌⊎◌, ◌≤◌, ℕ, ◌+◌, ℤ, pos, ◌&&◌, ◌==◌, bytes_eq, if◌then◌else◌}
use Rattle.std.specs.Prelude.{List, [], ◌∷◌, ◌++◌, map, filter, length, IsPermutation}
use Rattle.std.specs.List.{AllByRecursion}
use Rattle.sqlite.specs.declared.types.Value.{Value}
use Rattle.sqlite.specs.declared.types.Value.TheVariants.{Int, Blob}
use Rattle.sqlite.specs.Order.{Row, column}
use Rattle.sqlite.specs.Tree.{IsAscending}
use Rattle.sqlite.specs.Effect.{Database, IsDatabase}
use Rattle.journal_core.specs.Range.{most_device, number_limit}
use Rattle.ranges_core.specs.Tables.{IsLedger, no_schema}
use Rattle.ranges_core.specs.Reads.{is_for}

-- a range as `taken` records it: the numbers lo to lo + size - 1 of its row's key ID and device
pub record TakenRange : Type 0 where
  pub lo : ℕ
  pub size : ℕ

abbrev pub taken_range : ℕ → ℕ → TakenRange
taken_range lo size = record { lo = lo; size = size }

-- each range has a number, the first begins at `from`, and each other where the previous one ends
abbrev pub Adjacent : ℕ → List TakenRange → Type 0
Adjacent from [] = ⊤
Adjacent from (r ∷ more) = (r.lo ≡ from) × (1 ≤ r.size) × Adjacent (from + r.size) more

abbrev pub end_from : ℕ → List TakenRange → ℕ
end_from from [] = from
end_from from (r ∷ more) = end_from (r.lo + r.size) more

-- the number at which the next range begins
abbrev pub next_of : List TakenRange → ℕ
next_of ranges = end_from 0 ranges

-- a list of ranges for each key ID and device
abbrev pub Lists : Type 0
Lists = List ℕ → ℕ → List TakenRange

-- `count` numbers are reserved for one key ID and device: its list has one more range, and every other list is
-- unchanged
abbrev pub with_range : Lists → List ℕ → ℕ → ℕ → Lists
with_range lists key device count k d =
    if bytes_eq k key && (d == device) then lists k d ++ taken_range (next_of (lists k d)) count ∷ [] else lists k d

-- each range ends before each later one begins
abbrev pub AreApart : List TakenRange → Type 0
AreApart = IsAscending (λ a b. a.lo + a.size ≤ b.lo)

-- ---- what the rows of the tables mean

abbrev pub mark_row : ℤ → List ℕ → ℕ → ℕ → Row
mark_row id key device next = Int id ∷ Blob key ∷ Int (pos device) ∷ Int (pos next) ∷ []

abbrev pub taken_row : ℤ → List ℕ → ℕ → ℕ → ℕ → Row
taken_row id key device lo size = Int id ∷ Blob key ∷ Int (pos device) ∷ Int (pos lo) ∷ Int (pos size) ∷ []

-- a key ID is a blob of 32 bytes, and a device number has 24 bits
pub record IsOwner (key : List ℕ) (device : ℕ) : Type 0 where
  pub bytes : length key ≡ 32
  pub bits : device ≤ most_device

-- a row of `mark`
pub record IsMarkRow (row : Row) : Type 0 where
  pub id : ℤ
  pub key : List ℕ
  pub device : ℕ
  pub next : ℕ
  pub owner : IsOwner key device
  pub bound : next ≤ number_limit
  pub is_id : column row 0 ≡ Int id
  pub is_key : column row 1 ≡ Blob key
  pub is_device : column row 2 ≡ Int (pos device)
  pub is_next : column row 3 ≡ Int (pos next)

-- a row of `taken`
pub record IsTakenRow (row : Row) : Type 0 where
  pub key : List ℕ
  pub device : ℕ
  pub lo : ℕ
  pub size : ℕ
  pub owner : IsOwner key device
  pub is_key : column row 1 ≡ Blob key
  pub is_device : column row 2 ≡ Int (pos device)
  pub is_lo : column row 3 ≡ Int (pos lo)
  pub is_size : column row 4 ≡ Int (pos size)

abbrev pub number_in : Value → ℕ
number_in (Int (pos n)) = n
number_in _ = 0

abbrev pub range_in : Row → TakenRange
range_in row = taken_range (number_in (column row 3)) (number_in (column row 4))

abbrev pub next_in : Row → ℕ
next_in row = number_in (column row 3)

-- the only row has this `next`, or there is no row and it is 0
abbrev pub IsNext : List Row → ℕ → Type 0
IsNext [] n = n ≡ 0
IsNext (r ∷ []) n = next_in r ≡ n
IsNext (r ∷ s ∷ more) n = ⊥

-- the rows of one key ID and device hold this list
pub record IsList (marks taken : List Row) (key : List ℕ) (device : ℕ) (ranges : List TakenRange) : Type 0 where
  pub permutes : IsPermutation (map range_in (filter (is_for key device) taken)) ranges
  pub adjacent : Adjacent 0 ranges
  pub next : IsNext (filter (is_for key device) marks) (next_of ranges)

-- each row has its form, and the rows of each key ID and device hold its list
pub record HoldLists (marks taken : List Row) (lists : Lists) : Type 0 where
  pub of_marks : AllByRecursion IsMarkRow marks
  pub of_taken : AllByRecursion IsTakenRow taken
  pub each : (key : List ℕ) (device : ℕ) → IsList marks taken key device (lists key device)

-- the database obeys its schema and has both tables, and they hold these lists
pub record Holds (db : Database) (lists : Lists) : Type 0 where
  pub sound : IsDatabase db
  pub tables : IsLedger db.schema
  pub rows : HoldLists (db.trees 0) (db.trees 2) lists

abbrev pub no_lists : Lists
no_lists key device = []

-- the tables hold what they held, or empty lists if there was no table
abbrev pub Opened : Database → Database → Type 0
Opened old new = ((old.schema ≡ no_schema) × Holds new no_lists) ⊎ ((lists : Lists) × Holds old lists × (new ≡ old))

-- pairs of `lo` and `size`
abbrev pub ranges_of_pairs : List (ℕ × ℕ) → List TakenRange
ranges_of_pairs pairs = map (λ p. taken_range p.0 p.1) pairs

-- the range in a row of two columns
abbrev pub answered_range : Row → TakenRange
answered_range row = taken_range (number_in (column row 0)) (number_in (column row 1))
