-- Internal: the rule of the claim word. The numbers below some `given` were drawn, each once, and no other. The word is
-- `given` plus how often workers met the end. If one met it, all numbers were given.
use Rattle.std.specs.Prelude.{◌≡◌, ℕ, ◌+◌, ◌-◌, ◌<◌, ◌≤◌, List, [], ◌∷◌, ◌++◌, length, nat_lt, MatchBool, ◌^◌}
use mathlib.Core.Option.{some}
use lib.ListN.{get_elem?}
use Rattle.atomic_table.specs.Table.{State, Me, Step}
use Rattle.atomic_table.specs.Seated.{TableId}
use Rattle.claim_core.specs.declared.table.Terms.{Terms}
use Rattle.claim_core.specs.declared.table.Hand.{Hand}
use Rattle.claim_core.specs.Claims.{times, once_below}

-- f of each hand, added up
abbrev pub total : (Hand → ℕ) → List Hand → ℕ
total f [] = 0
total f (v ∷ vs) = f v + total f vs

abbrev pub hand_of : ℕ → ℕ → List ℕ → ℕ → Hand
hand_of count workers drawn ends = record { count = count; workers = workers; drawn = drawn; ends = ends }

-- what holds of one hand
pub record Fits (terms : Terms) (v : Hand) : Type 0 where
  pub count : 0 < v.workers → v.count ≡ terms.count
  pub idle : v.workers ≡ 0 → v.drawn ≡ []
  pub ends : v.ends ≤ v.workers

-- `given` numbers were given
pub record HasGiven (terms : Terms) (given : ℕ) (table : State (Unit {0}) Hand) : Type 0 where
  pub small : terms.count < 2 ^ 32
  pub few : terms.workers ≤ 16
  pub word : table.words ≡ (given + total (λ v. v.ends) table.views) ∷ []
  pub below : given ≤ terms.count
  pub end : 0 < total (λ v. v.ends) table.views → given ≡ terms.count
  pub workers : total (λ v. v.workers) table.views ≡ terms.workers
  pub each : (x : ℕ) → total (λ v. times x v.drawn) table.views ≡ once_below x given
  pub many : total (λ v. length v.drawn) table.views ≡ given
  pub fits : (i : ℕ) (v : Hand) → get_elem? table.views i ≡ some v → Fits terms v

abbrev pub IsKept : Terms → State (Unit {0}) Hand → Type 0
IsKept terms table = (given : ℕ) × HasGiven terms given table

-- the first hand represents all workers
abbrev pub all_workers : Terms → Hand
all_workers terms = hand_of terms.count terms.workers [] 0

abbrev pub Mine : Type 0
Mine = Me (Unit {0}) Hand

-- a draw gave this number, which is greater than all that this hand drew before
abbrev pub Gives : Hand → ℕ → Hand → Type 0
Gives v n w =
    (w ≡ hand_of v.count v.workers (v.drawn ++ n ∷ []) v.ends) × (length v.drawn < v.count)
    × ((x : ℕ) → 0 < times x v.drawn → x < n)

-- a draw for which the word was n
abbrev pub Draws : Hand → ℕ → Hand → Type 0
Draws v n w = MatchBool (nat_lt n v.count) (Gives v n w) (w ≡ hand_of v.count v.workers v.drawn (v.ends + 1))

abbrev pub drew : Step (Unit {0}) → Mine → ℕ → Mine → Type 0
drew step old found new = Draws old.0 found new.0 × (new.1 ≡ old.1)

-- the token may step: it is of this word
pub record MayStep (word token : TableId) : Type 0 where
  pub same : token ≡ word
  pub one_word : word.words ≡ 1

-- cuts and joins

abbrev pub other_workers : Hand → Hand
other_workers v = hand_of v.count (v.workers - 1) v.drawn v.ends

abbrev pub one_worker : Hand → Hand
one_worker v = hand_of v.count 1 [] 0

abbrev pub both_hands : Hand → Hand → Hand
both_hands v w = hand_of v.count (v.workers + w.workers) (v.drawn ++ w.drawn) (v.ends + w.ends)

-- what is left of a hand that was taken in
abbrev pub nobody : Hand
nobody = hand_of 0 0 [] 0
