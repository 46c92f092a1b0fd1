-- The rule of both queues.
use Rattle.std.specs.Prelude.{◌≡◌, ℕ, ◌+◌, ◌-◌, ◌<◌, List, [], ◌∷◌, ◌++◌, All, nat_eq, nat_lt, if◌then◌else◌}
use mathlib.Core.Option.{some}
use lib.ListN.{get_elem?}
use Rattle.sealing_core.specs.declared.line.Hand.{Hand}

-- how often x occurs in the list
abbrev pub times : ℕ → List ℕ → ℕ
times x [] = 0
times x (y ∷ ys) = (if nat_eq y x then 1 else 0) + times x ys

-- f of each hand, added up
abbrev pub total : (Hand → ℕ) → List Hand → ℕ
total f [] = 0
total f (v ∷ vs) = f v + total f vs

abbrev pub hand : ℕ → List ℕ → List ℕ → Hand
hand parts put taken = record { parts = parts; put = put; taken = taken }

module _ {T : Type 0} where
  -- the numbers of all items
  abbrev pub all_numbers : (T → List ℕ) → List T → List ℕ
  all_numbers f [] = []
  all_numbers f (x ∷ xs) = f x ++ all_numbers f xs

  -- each item is good. Each number was put as often as it was taken or is in the queue
  pub record Holds (Good : T → Type 0) (numbers : T → List ℕ) (items : List T) (views : List Hand) : Type 0 where
    pub good : All Good items
    pub parts : total (λ v. v.parts) views ≡ 1024
    pub even : (x : ℕ)
        → total (λ v. times x v.put) views ≡ total (λ v. times x v.taken) views + times x (all_numbers numbers items)
    pub idle : (i : ℕ) (v : Hand) → get_elem? views i ≡ some v → v.parts ≡ 0 → (v.put ≡ []) × (v.taken ≡ [])

  -- what this hand has put is what it has taken, and what the queue holds
  abbrev pub Balanced : (T → List ℕ) → Hand → List T → Type 0
  Balanced numbers v items = (x : ℕ) → times x v.put ≡ times x v.taken + times x (all_numbers numbers items)

-- the hands of one thread, on both queues
pub record HandsView : Type 0 where
  pub jobs : Hand
  pub pieces : Hand

abbrev pub hands_view : Hand → Hand → HandsView
hands_view jobs pieces = record { jobs = jobs; pieces = pieces }

abbrev pub newcomer : Hand
newcomer = hand 1 [] []

abbrev pub nobody : Hand
nobody = hand 0 [] []

abbrev pub left : Hand → Hand
left v = hand (v.parts - 1) v.put v.taken

abbrev pub both : Hand → Hand → Hand
both v w = hand (v.parts + w.parts) (v.put ++ w.put) (v.taken ++ w.taken)

-- for each job taken one piece was put
pub record HasRelayed (parts : ℕ) (jobs pieces : Hand) : Type 0 where
  pub none_put : jobs ≡ hand parts [] jobs.taken
  pub each : pieces ≡ hand parts jobs.taken []

-- with all workers' hands: the numbers below n were put as jobs. For each job taken, the caller's thread did it or a
-- piece was put. Each number below n was taken back as a piece, or done by the caller's thread
pub record HasAll (n : ℕ) (jobs pieces : Hand) : Type 0 where
  pub put : (x : ℕ) → times x jobs.put ≡ (if nat_lt x n then 1 else 0)
  pub mine : List ℕ
  pub each : (x : ℕ) → times x jobs.taken ≡ times x mine + times x pieces.put
  pub seen : (x : ℕ) → x < n → 0 < times x mine + times x pieces.taken

-- each job was put once and taken once, and each piece that was put was taken
pub record EachOnce (n : ℕ) (jobs pieces : Hand) : Type 0 where
  pub put : (x : ℕ) → times x jobs.put ≡ (if nat_lt x n then 1 else 0)
  pub taken : (x : ℕ) → times x jobs.taken ≡ (if nat_lt x n then 1 else 0)
  pub back : (x : ℕ) → times x pieces.taken ≡ times x pieces.put
