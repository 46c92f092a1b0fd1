-- The pieces of several benches, and how often a number occurs among theirs.
use Rattle.std.proofs.Common.{◌≡◌, ℕ, zero, suc, ◌+◌, ◌<◌, ◌≤◌, cond, nat_eq, List, [], ◌∷◌, ◌++◌, length, map, All, refl, sym, ap, ap₂, subst, ◌∙◌, arith}
use Rattle.std.proofs.Common.{append_assoc, append-nil, length-append, get_or, take, drop, take_at, inl, inr, eq-eqb}
use Rattle.std.proofs.lemmas.Bool.{cases_lt}
use Rattle.claim_core.specs.Claims.{times, once_below}
use Rattle.worker_core.specs.Pieces.{all_made, number_of, emptied, IsPiece, Covers}
use Rattle.worker_core.specs.Views.{RoundView, MadeView, BenchView}
use Rattle.claim_core.specs.Claims.{ClaimsView, ClaimantView, joined}
use Rattle.worker_core.specs.Crew.{IsReady, IsWorked, AreWorked, HasDrawn, IsOfCrew}
use Rattle.std.proofs.lemmas.List.Elements.{All-push, All-append}
use Rattle.std.proofs.Common.{set}
use Rattle.std.proofs.lemmas.Bool.Decides.{nat_tests}
use Rattle.worker_core.specs.Pieces.{piece_of}
use Rattle.worker_core.specs.Parts.{room_of}

pub all_made_append : (xs ys : List BenchView) → all_made (xs ++ ys) ≡ all_made xs ++ all_made ys
all_made_append [] ys = refl
all_made_append (x ∷ xs) ys =
    ap (λ (l : List MadeView). x.made ++ l) (all_made_append xs ys) ∙ sym (append_assoc x.made (all_made xs) (all_made ys))

pub numbers_append : (xs ys : List MadeView) → map number_of (xs ++ ys) ≡ map number_of xs ++ map number_of ys
numbers_append [] ys = refl
numbers_append (x ∷ xs) ys = ap (λ (l : List ℕ). x.number ∷ l) (numbers_append xs ys)

pub times_push : (x : ℕ) (xs : List ℕ) (n : ℕ) → times x (xs ++ n ∷ []) ≡ times x xs + cond {A = ℕ} (nat_eq n x) 1 0
times_push x [] n = omega arith
times_push x (y ∷ ys) n = let is = times_push x ys n in omega arith

-- one more piece, of the next number
pub all_below_more : (made : List MadeView) (p : MadeView) (n : ℕ) → p.number ≡ n
    → ((x : ℕ) → x < n → 0 < times x (map number_of made))
    → (x : ℕ) → x < n + 1 → 0 < times x (map number_of (made ++ p ∷ []))
all_below_more made p n is below x less =
    let e : map number_of (made ++ p ∷ []) ≡ map number_of made ++ p.number ∷ [] = numbers_append made (p ∷ []) in
    let t : times x (map number_of (made ++ p ∷ [])) ≡ times x (map number_of made) + cond {A = ℕ} (nat_eq p.number x) 1 0 =
    ap (times x) e ∙ times_push x (map number_of made) p.number in
    elim (cases_lt x n) [
      | inl low ↦ let b = below x low in omega arith
      | inr high ↦
          let same : p.number ≡ x = omega arith in
          let o : cond {A = ℕ} (nat_eq p.number x) 1 0 ≡ 1 = ap (λ b. cond {A = ℕ} b 1 0) (eq-eqb p.number x same) in omega arith
    ]

-- a worker made one piece more
pub worked_more : (round : RoundView) (old mid new : BenchView) (n : ℕ) → n < length round.values
    → new.made ≡ mid.made ++ piece_of round n ∷ [] → new.spare + 1 ≡ mid.spare → new.size ≡ mid.size
    → IsWorked round old mid → IsWorked round old new
worked_more round old mid new n below made spare size before = record {
  pieces = subst (λ (l : List MadeView). All (IsPiece round) l) (sym made)
      (All-push (IsPiece round) mid.made (piece_of round n) before.pieces record { below = below; value = refl });
  size = size ∙ before.size;
  spare = let long = ap length made ∙ length-append mid.made (piece_of round n ∷ []) in let was = before.spare in omega arith;
}

-- before its first piece
pub worked_none : (round : RoundView) (bench : BenchView) → IsReady round bench → IsWorked round bench bench
worked_none round bench ready = record {
  pieces = subst (λ (l : List MadeView). All (IsPiece round) l) (sym ready.made) (λ k d below. absurd (omega arith));
  size = refl;
  spare = let none = ap length ready.made in omega arith;
}

pub all_idle : (round : RoundView) (benches : List BenchView) → All (IsReady round) benches → AreWorked round benches benches
all_idle round [] ready = tt
all_idle round (bench ∷ benches) ready =
    (worked_none round bench (ready 0 bench (omega arith)), all_idle round benches (λ k d below. ready (suc k) d (omega arith)))

pub worked_append : (round : RoundView) (old new more more' : List BenchView) → AreWorked round old new → AreWorked round more more'
    → AreWorked round (old ++ more) (new ++ more')
worked_append round [] [] more more' first then = then
worked_append round [] (n ∷ ns) more more' first then = absurd first
worked_append round (o ∷ os) [] more more' first then = absurd first
worked_append round (o ∷ os) (n ∷ ns) more more' first then = (first.0, worked_append round os ns more more' first.1 then)

-- the last of several benches, by itself
pub only : (benches : List BenchView) (new : BenchView) → length benches ≡ 1 → set benches 0 new ≡ new ∷ []
only [] new one = absurd (omega arith)
only (b ∷ []) new one = refl
only (b ∷ c ∷ bs) new one = absurd (omega arith)

pub worked_one : (round : RoundView) (benches : List BenchView) (d new : BenchView) → length benches ≡ 1
    → IsWorked round (get_or benches 0 d) new → AreWorked round benches (set benches 0 new)
worked_one round [] d new one worked = absurd (omega arith)
worked_one round (b ∷ []) d new one worked = (worked, tt)
worked_one round (b ∷ c ∷ bs) d new one worked = absurd (omega arith)

-- the same, of equal lists
pub worked_whole : (round : RoundView) (old whole new : List BenchView) → old ≡ whole → AreWorked round old new
    → AreWorked round whole new
worked_whole round old whole new same worked = subst (λ (l : List BenchView). AreWorked round l new) same worked

pub drawn_whole : (claims : ClaimsView) (n m : ℕ) (numbers : List ℕ) (v w : ClaimantView) → n ≡ m → w ≡ v
    → HasDrawn claims n numbers v → HasDrawn claims m numbers w
drawn_whole claims n m numbers v w same is drawn =
    subst (λ (u : ClaimantView). HasDrawn claims m numbers u) (sym is) (subst (λ (k : ℕ). HasDrawn claims k numbers v) same drawn)

-- the workers of some benches, and one more
pub drawn_both : (claims : ClaimsView) (round : RoundView) (front last : List BenchView) (bench : BenchView) (ours theirs : ClaimantView) (count : ℕ)
    → HasDrawn claims count (map number_of (all_made front)) ours → HasDrawn claims 1 (map number_of bench.made) theirs
    → length last ≡ 1
    → HasDrawn claims (count + 1) (map number_of (all_made (front ++ set last 0 bench))) (joined ours theirs)
drawn_both claims round front last bench ours theirs count a b one = record {
  ours = record { id = a.ours.id; count = a.ours.count };
  workers = ap₂ ◌+◌ a.workers b.workers;
  drawn = ap₂ ◌++◌ a.drawn b.drawn ∙ sym (numbers_append (all_made front) bench.made)
      ∙ ap (λ (l : List MadeView). map number_of (all_made front ++ l)) (sym (append-nil bench.made))
      ∙ ap (λ (l : List MadeView). map number_of l) (sym (all_made_append front (bench ∷ [])))
      ∙ ap (λ (l : List BenchView). map number_of (all_made (front ++ l))) (sym (only last bench one));
  ends = ap₂ ◌+◌ a.ends b.ends;
}

pub times_append : (x : ℕ) (xs ys : List ℕ) → times x (xs ++ ys) ≡ times x xs + times x ys
times_append x [] ys = omega arith
times_append x (y ∷ xs) ys = let is = times_append x xs ys in omega arith

-- other benches beside those that have all pieces
pub made_beside : (round : RoundView) (used rest : List BenchView) → Covers round used → Covers round (used ++ rest)
made_beside round used rest made = record {
  each = λ x below.
      let e = ap (λ (l : List MadeView). map number_of l) (all_made_append used rest) ∙ numbers_append (all_made used) (all_made rest) in
      let t = ap (times x) e ∙ times_append x (map number_of (all_made used)) (map number_of (all_made rest)) in
      let m = made.each x below in omega arith;
}

-- all numbers were drawn, so all pieces were made
pub made_closed : (round : RoundView) (claims : ClaimsView) (benches : List BenchView) (count : ℕ) (claimant : ClaimantView)
    → claims.count ≡ length round.values → HasDrawn claims count (map number_of (all_made benches)) claimant
    → ((x : ℕ) → times x claimant.drawn ≡ once_below x claims.count) → Covers round benches
made_closed round claims benches count claimant long drawn closed = record {
  each = λ x below.
      let t = ap (times x) (sym drawn.drawn) ∙ closed x in
      let o : once_below x claims.count ≡ 1 = grind (arith, nat_tests) in omega arith;
}

-- one bench has all pieces
pub made_alone : (round : RoundView) (benches : List BenchView) (bench : BenchView) → 0 < length benches
    → ((n : ℕ) → n < length round.values → 0 < times n (map number_of bench.made))
    → Covers round (set benches 0 bench)
made_alone round [] bench some all = absurd (omega arith)
made_alone round (b ∷ bs) bench some all = made_beside round (bench ∷ []) bs record {
  each = λ x below. subst (λ (l : List MadeView). 0 < times x (map number_of l)) (sym (append-nil bench.made)) (all x below);
}

pub worked_first : (round : RoundView) (benches : List BenchView) (d new : BenchView) → All (IsReady round) benches → 0 < length benches
    → IsWorked round (get_or benches 0 d) new → AreWorked round benches (set benches 0 new)
worked_first round [] d new ready some worked = absurd (omega arith)
worked_first round (b ∷ bs) d new ready some worked = (worked, all_idle round bs (λ k e below. ready (suc k) e (omega arith)))

pub all_behind : (round : RoundView) (xs ys : List BenchView) → All (IsReady round) (xs ++ ys) → All (IsReady round) ys
all_behind round [] ys ready = ready
all_behind round (x ∷ xs) ys ready = all_behind round xs ys (λ k d below. ready (suc k) d (omega arith))

-- ---- a crew: its benches between rounds

append_none : (xs ys : List MadeView) → xs ++ ys ≡ [] → (xs ≡ []) × (ys ≡ [])
append_none [] ys none = (refl, none)
append_none (x ∷ xs) ys none = absurd (cons-ne-nil none)
  where
    cons-ne-nil : x ∷ (xs ++ ys) ≡ [] → ⊥
    cons-ne-nil e = let long = ap length e in omega arith

all_cons : (P : BenchView → Type 0) (x : BenchView) (xs : List BenchView) → P x → All P xs → All P (x ∷ xs)
all_cons P x xs p rest zero d below = p
all_cons P x xs p rest (suc k) d below = rest k d (omega arith)

pub all_made_none : (benches : List BenchView) → all_made benches ≡ [] → All (λ bench. bench.made ≡ []) benches
all_made_none [] none = λ k d below. absurd (omega arith)
all_made_none (b ∷ bs) none =
    let both = append_none b.made (all_made bs) none in
    all_cons (λ bench. bench.made ≡ []) b bs both.0 (all_made_none bs both.1)

pub all_ready : (round : RoundView) (room size : ℕ) (benches : List BenchView) → All (IsOfCrew room size) benches → all_made benches ≡ []
    → length round.values ≤ room → room_of round.task round.size ≤ size → All (IsReady round) benches
all_ready round room size benches crew none fits big k d below =
    let c = crew k d below in
    let m = all_made_none benches none k d below in
    let long = ap length m in
    let (e, f) = c in
    record { size = omega arith; spare = omega arith; made = m }

pub worked_length : (round : RoundView) (old new : List BenchView) → AreWorked round old new → length new ≡ length old
worked_length round [] [] worked = refl
worked_length round [] (n ∷ ns) worked = absurd worked
worked_length round (o ∷ os) [] worked = absurd worked
worked_length round (o ∷ os) (n ∷ ns) worked = ap suc (worked_length round os ns worked.1)

pub worked_crew : (round : RoundView) (room size : ℕ) (old new : List BenchView) → AreWorked round old new → All (IsOfCrew room size) old
    → all_made old ≡ [] → All (IsOfCrew room size) new
worked_crew round room size [] [] worked crew none = λ k d below. absurd (omega arith)
worked_crew round room size [] (n ∷ ns) worked crew none = absurd worked
worked_crew round room size (o ∷ os) [] worked crew none = absurd worked
worked_crew round room size (o ∷ os) (n ∷ ns) worked crew none =
    let both = append_none o.made (all_made os) none in
    let long = ap length both.0 in
    let (e, f) = crew 0 o (omega arith) in
    let w = worked.0.spare in
    all_cons (IsOfCrew room size) n ns (worked.0.size ∙ e, omega arith)
    (worked_crew round room size os ns worked.1 (λ k d below. crew (suc k) d (omega arith)) both.1)

pub worked_pieces : (round : RoundView) (old new : List BenchView) → AreWorked round old new → All (IsPiece round) (all_made new)
worked_pieces round [] [] worked = λ k d below. absurd (omega arith)
worked_pieces round [] (n ∷ ns) worked = absurd worked
worked_pieces round (o ∷ os) [] worked = absurd worked
worked_pieces round (o ∷ os) (n ∷ ns) worked =
    All-append (IsPiece round) n.made (all_made ns) worked.0.pieces (worked_pieces round os ns worked.1)

pub emptied_crew : (room size : ℕ) (benches : List BenchView) → All (IsOfCrew room size) benches
    → All (IsOfCrew room size) (map emptied benches)
emptied_crew room size [] crew = λ k d below. absurd (omega arith)
emptied_crew room size (b ∷ bs) crew =
    let (e, f) = crew 0 b (omega arith) in
    all_cons (IsOfCrew room size) (emptied b) (map emptied bs) (e, omega arith)
    (emptied_crew room size bs (λ k d below. crew (suc k) d (omega arith)))

pub emptied_made : (benches : List BenchView) → all_made (map emptied benches) ≡ []
emptied_made [] = refl
emptied_made (b ∷ bs) = emptied_made bs

pub emptied_length : (benches : List BenchView) → length (map emptied benches) ≡ length benches
emptied_length [] = refl
emptied_length (b ∷ bs) = ap suc (emptied_length bs)

-- the benches of a crew have one size
pub crew_sizes : (room size : ℕ) (benches : List BenchView) (other : ℕ) → other ≡ size → All (IsOfCrew room size) benches
    → All (λ bench. bench.size ≡ other) benches
crew_sizes room size benches other same crew k d below = (crew k d below).0 ∙ sym same

-- what is left of a vector after a part that is all of it
pub all_back : (len : ℕ) (old new : List BenchView) → length new ≡ length old → len ≡ length old
    → take len (new ++ drop (length new) old) ≡ new
all_back len old new same long = take_at new (drop (length new) old) len (sym (long ∙ sym same))

pub covers_same : (round : RoundView) (xs ys : List BenchView) → xs ≡ ys → Covers round ys → Covers round xs
covers_same round xs ys same covers = subst (λ (l : List BenchView). Covers round l) (sym same) covers

pub worked_same : (round : RoundView) (old old' new new' : List BenchView) → old ≡ old' → new' ≡ new → AreWorked round old new → AreWorked round old' new'
worked_same round old old' new new' same then worked =
    subst (λ (l : List BenchView). AreWorked round old' l) (sym then) (subst (λ (l : List BenchView). AreWorked round l new) same worked)

-- one bench more of a crew that is being made
pub bench_more : (room size : ℕ) (benches more : List BenchView) (b : BenchView) → b.size ≡ size → b.spare ≡ room → b.made ≡ []
    → more ≡ benches ++ b ∷ [] → All (IsOfCrew room size) benches → All (IsOfCrew room size) more
bench_more room size benches more b is spare none pushed each =
    let long = ap length none in
    subst (λ (l : List BenchView). All (IsOfCrew room size) l) (sym pushed) (All-push (IsOfCrew room size) benches b each (is, omega arith))

pub made_more : (benches more : List BenchView) (b : BenchView) → b.made ≡ [] → more ≡ benches ++ b ∷ [] → all_made benches ≡ [] → all_made more ≡ []
made_more benches more b none pushed before =
    ap all_made pushed ∙ all_made_append benches (b ∷ []) ∙ ap (λ (l : List MadeView). l ++ (b.made ++ [])) before
    ∙ ap (λ (l : List MadeView). l ++ []) none

pub crew_same : (room size : ℕ) (xs ys : List BenchView) → xs ≡ ys → All (IsOfCrew room size) ys → All (IsOfCrew room size) xs
crew_same room size xs ys same each = subst (λ (l : List BenchView). All (IsOfCrew room size) l) (sym same) each
