-- How one pass reads the rows of both tables in the order of their keys.
use Rattle.std.specs.Prelude.{⊤, ◌≡◌, ◌<◌, ℕ, pos, true, List, [], ◌∷◌, ◌++◌, map, Option, Some, None}
use Rattle.std.specs.List.{AllByRecursion}
use Rattle.std.specs.declared.cmp.Ordering.{Ordering}
use Rattle.std.specs.declared.cmp.Ordering.TheVariants.{Less}
use Rattle.std.specs.Ordering.{on, then_cmp}
use Rattle.sqlite.specs.declared.types.Value.TheVariants.{Int, Blob}
use Rattle.sqlite.specs.Order.{Row, column}
use Rattle.sqlite_value.specs.Order.{value_cmp}
use Rattle.ranges_core.specs.Reads.{is_for}
use Rattle.ranges_core.specs.Reservations.{TakenRange, Adjacent, end_from, next_of, range_in, next_in}

-- each element has this relation to the next
abbrev pub Chain : (Row → Row → Type 0) → List Row → Type 0
Chain R [] = ⊤
Chain R (a ∷ []) = ⊤
Chain R (a ∷ b ∷ more) = R a b × Chain R (b ∷ more)

-- compares key IDs, then devices
abbrev pub owner_cmp : Row → Row → Ordering
owner_cmp = then_cmp (on (λ r. column r 1) value_cmp) (on (λ r. column r 2) value_cmp)

abbrev pub IsBefore : Row → Row → Type 0
IsBefore a b = owner_cmp a b ≡ Less

abbrev pub IsBelow : Row → Row → Type 0
IsBelow a b = value_cmp (column a 0) (column b 0) ≡ Less

-- the rows of `taken` that belong to a row of `mark`: adjacent from 0 up to its `next`
pub record OwnRun (mark : Row) (run : List Row) : Type 0 where
  pub key : List ℕ
  pub device : ℕ
  pub is_key : column mark 1 ≡ Blob key
  pub is_device : column mark 2 ≡ Int (pos device)
  pub own : AllByRecursion (λ t. is_for key device t ≡ true) run
  pub adjacent : Adjacent 0 (map range_in run)
  pub next : next_in mark ≡ next_of (map range_in run)

-- the rows of `taken` are the runs of the rows of `mark`, one after the other
abbrev pub Runs : List Row → List Row → Type 0
Runs [] taken = taken ≡ []
Runs (m ∷ marks) taken = (run : List Row) × (rest : List Row) × (taken ≡ run ++ rest) × OwnRun m run × Runs marks rest

-- the rows of `taken` that belong to a row of `mark` and are still to come: adjacent from `end` up to its `next`
pub record OwnRunFrom (end : ℕ) (mark : Row) (run : List Row) : Type 0 where
  pub key : List ℕ
  pub device : ℕ
  pub is_key : column mark 1 ≡ Blob key
  pub is_device : column mark 2 ≡ Int (pos device)
  pub own : AllByRecursion (λ t. is_for key device t ≡ true) run
  pub adjacent : Adjacent end (map range_in run)
  pub next : next_in mark ≡ end_from end (map range_in run)

-- the rest of the first row's run, then the runs of the other rows of `mark`
abbrev pub RunsFrom : ℕ → List Row → List Row → Type 0
RunsFrom end [] taken = taken ≡ []
RunsFrom end (m ∷ marks) taken =
    (run : List Row) × (rest : List Row) × (taken ≡ run ++ rest) × OwnRunFrom end m run × Runs marks rest

-- after these rows of `taken`, what is still to come makes the runs of all rows of `mark`
unfoldable pub LeavesRuns : List Row → List Row → ℕ → List Row → Type 0
LeavesRuns all given end marks = (more : List Row) → RunsFrom end marks more → Runs all (given ++ more)

-- each range begins above the previous one
abbrev pub RisesFrom : Option ℕ → List TakenRange → Type 0
RisesFrom last [] = ⊤
RisesFrom None (r ∷ more) = RisesFrom (Some r.lo) more
RisesFrom (Some lo) (r ∷ more) = (lo < r.lo) × RisesFrom (Some r.lo) more
