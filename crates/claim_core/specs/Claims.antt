-- Claims as their callers see them. A claimant has the number of workers that it represents, the numbers that these
-- drew, and how often they met the end.
use Rattle.std.specs.Prelude.{◌≡◌, ℕ, ◌+◌, List, [], ◌∷◌, ◌++◌, nat_lt, nat_eq, if◌then◌else◌}
use Rattle.atomic_table.specs.Seated.{TableId}

-- which claims they are. Clauses only compare it: a claimant belongs to the claims with its id. No clause says that two
-- claims have different ids.
abbrev pub ClaimsId : Type 0
ClaimsId = TableId

-- `workers` workers draw the numbers below `count`
pub record ClaimsView : Type 0 where
  pub id : ClaimsId
  pub count : ℕ
  pub workers : ℕ

-- a claimant: the numbers that its workers drew, in order, and how often they met the end
pub record ClaimantView : Type 0 where
  pub id : ClaimsId
  pub count : ℕ
  pub workers : ℕ
  pub drawn : List ℕ
  pub ends : ℕ

-- the claimant is one of these claims
pub record IsOf (claims : ClaimsView) (claimant : ClaimantView) : Type 0 where
  pub id : claimant.id ≡ claims.id
  pub count : claimant.count ≡ claims.count

-- a claimant of `workers` workers that have drawn nothing
abbrev pub newcomer : ClaimsView → ℕ → ClaimantView
newcomer claims workers =
    record { id = claims.id; count = claims.count; workers = workers; drawn = []; ends = 0 }

-- the claimant after a draw that gave this number
abbrev pub with_number : ClaimantView → ℕ → ClaimantView
with_number claimant n = record claimant { drawn = claimant.drawn ++ n ∷ [] }

-- the claimant after a draw that met the end
abbrev pub with_end : ClaimantView → ClaimantView
with_end claimant = record claimant { ends = claimant.ends + 1 }

-- two claimants as one
abbrev pub joined : ClaimantView → ClaimantView → ClaimantView
joined claimant other = record claimant {
  workers = claimant.workers + other.workers;
  drawn = claimant.drawn ++ other.drawn;
  ends = claimant.ends + other.ends;
}

-- how often x occurs in the list
abbrev pub times : ℕ → List ℕ → ℕ
times x [] = 0
times x (y ∷ ys) = (if nat_eq y x then 1 else 0) + times x ys

-- 1 where x is below n, else 0
abbrev pub once_below : ℕ → ℕ → ℕ
once_below x n = if nat_lt x n then 1 else 0
