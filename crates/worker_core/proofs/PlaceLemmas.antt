-- Pieces put in their places.
use Rattle.std.proofs.Common.{◌≡◌, ◌⊎◌, ℕ, zero, suc, ◌+◌, ◌<◌, ◌≤◌, cond, nat_eq, List, [], ◌∷◌, ◌++◌, length, map}
use Rattle.std.proofs.Common.{take, drop, get_or, set, All, Option, None, refl, sym, ap, ◌∙◌, inl, inr, arith}
use Rattle.std.proofs.Common.{length-append, length-set, get_or-set_same, get_or-set_other, ext_get_or, add-one}
use Rattle.std.proofs.Common.{ne_eqb}
use Rattle.std.proofs.lemmas.List.{map-append, get_or_append_left, length_push, length-map, drop_at, get_or-take}
use Rattle.std.proofs.lemmas.List.{length-take-le}
use Rattle.std.proofs.Math.Seq.{drop-cons, get_or-append_seam}
use Rattle.std.proofs.lemmas.Bool.{cases_eq}
use Rattle.std.proofs.lemmas.List.Elements.{All-contains, All-drop, All-head, All-tail, Contains-push}
use Rattle.worker_core.specs.declared.piece.Made.{Made}
use Rattle.worker_core.specs.Views.{RoundView, MadeView, BenchView}
use Rattle.worker_core.specs.Pieces.{times, number_of, IsPiece, all_made, emptied}
use Rattle.worker_core.specs.Rooms.{made_view, IsPutLast, placed}

pub last_holds : {X : Type 0} (P : X → Type 0) (xs : List X) (x : X) → All P (xs ++ x ∷ []) → P x
last_holds P xs x all = All-contains P (xs ++ x ∷ []) x all (Contains-push xs x)

pub front_holds : {X : Type 0} (P : X → Type 0) (xs ys : List X) → All P (xs ++ ys) → All P xs
front_holds P xs ys all k d at =
    let e = get_or_append_left xs ys d k at in
    rw e at (all k d (omega (arith, length-append xs ys)))

-- the pieces of a bench, one of which is the last
pub views_last : (xs before : List Made) (last : Made) → xs ≡ before ++ last ∷ []
    → map made_view xs ≡ map made_view before ++ made_view last ∷ []
views_last xs before last is = rw is (map-append made_view before (last ∷ []))

pub last_below : (n : ℕ) (xs before : List Made) (last : Made) (made : List MadeView) → xs ≡ before ++ last ∷ []
    → map made_view xs ≡ made
    → All (λ p. p.number < n) made → last.number < n
last_below n xs before last made is views all =
    last_holds (λ p. p.number < n) (map made_view before) (made_view last)
    (rw (← views_last xs before last is, views) all)

-- once the last piece was put in its place, the others are to be put
placed_last : (before : List MadeView) (last : MadeView) (values : List (Option (List ℕ)))
    → placed (before ++ last ∷ []) values ≡ placed before (set values last.number last.value)
placed_last [] last values = refl
placed_last (made ∷ rest) last values = ap (λ v. set v made.number made.value) (placed_last rest last values)

pub placed_put : (old new : BenchView) (before after : List (Option (List ℕ))) → IsPutLast old new before after
    → placed new.made after ≡ placed old.made before
placed_put old new before after put =
    ap (placed new.made) put.values ∙ sym (placed_last new.made put.last before)
    ∙ ap (λ m. placed m before) (sym put.made)

-- and its buffer is spare
pub emptied_put : (old new : BenchView) (before after : List (Option (List ℕ))) → IsPutLast old new before after
    → emptied new ≡ emptied old
emptied_put old new before after put =
    let bench : ℕ → ℕ → BenchView = λ size spare. record { size = size; spare = spare; made = [] } in
    let length_made : length old.made ≡ length new.made + 1 = ap (λ m. length m) put.made
    ∙ length_push new.made put.last in
    let spare : new.spare + length new.made ≡ old.spare + length old.made = omega (arith, put.spare) in
    ap (λ size. bench size (new.spare + length new.made)) put.size ∙ ap (bench old.size) spare

pub below_put : (n m : ℕ) (old new : BenchView) (before after : List (Option (List ℕ)))
    → IsPutLast old new before after → n ≡ m
    → All (λ p. p.number < n) old.made → All (λ p. p.number < m) new.made
below_put n m old new before after put same all =
    rw (← same) (front_holds (λ p. p.number < n) new.made (put.last ∷ []) (rw put.made at all))

pub back_holds : {X : Type 0} (P : X → Type 0) (xs ys : List X) → All P (xs ++ ys) → All P ys
back_holds P xs ys all = rw (drop_at xs ys (length xs) refl) at (All-drop P (length xs) (xs ++ ys) all)

-- what holds of all pieces holds of those of each bench
pub bench_holds : (P : MadeView → Type 0) (benches : List BenchView) (i : ℕ) (d : BenchView) → i < length benches
    → All P (all_made benches) → All P (get_or benches i d).made
bench_holds P [] i d at all = absurd (omega arith)
bench_holds P (bench ∷ benches) zero d at all = front_holds P bench.made (all_made benches) all
bench_holds P (bench ∷ benches) (suc i) d at all =
    bench_holds P benches i d (omega arith) (back_holds P bench.made (all_made benches) all)

-- the pieces from a bench on are its own and those of the benches after it
pub made_from : (benches : List BenchView) (i : ℕ) (d : BenchView) → i < length benches
    → all_made (drop i benches) ≡ (get_or benches i d).made ++ all_made (drop (i + 1) benches)
made_from benches i d at = rw (drop-cons benches i d at, add-one) refl

times-append : (x : ℕ) (xs ys : List ℕ) → times x (xs ++ ys) ≡ times x xs + times x ys
times-append x [] ys = omega arith
times-append x (y ∷ xs) ys = let rest = times-append x xs ys in omega arith

times_made : (x : ℕ) (front rest : List MadeView)
    → times x (map number_of (front ++ rest)) ≡ times x (map number_of front) + times x (map number_of rest)
times_made x front rest =
    rw (map-append number_of front rest) (times-append x (map number_of front) (map number_of rest))

length_placed : (made : List MadeView) (values : List (Option (List ℕ))) → length (placed made values) ≡ length values
length_placed [] values = refl
length_placed (m ∷ rest) values = length-set (placed rest values) m.number m.value ∙ length_placed rest values

-- a value is the round's once its piece was put in its place, and stays so
pub placed_right : (round : RoundView) (made : List MadeView) (values : List (Option (List ℕ))) (x : ℕ)
    → All (IsPiece round) made → length round.values ≤ length values
    → (0 < times x (map number_of made)) ⊎ (get_or values x None ≡ get_or round.values x None)
    → get_or (placed made values) x None ≡ get_or round.values x None
placed_right round [] values x all room (inl some_left) = absurd (omega arith)
placed_right round [] values x all room (inr right) = right
placed_right round (m ∷ rest) values x all room was =
    let piece = All-head (IsPiece round) m rest all in
    let others = All-tail (IsPiece round) m rest all in
    let long = length_placed rest values in
    let inside : m.number < length (placed rest values) = omega (arith, piece.below) in
    elim (cases_eq m.number x) [
      | inl same ↦ rw (← same) (get_or-set_same (placed rest values) m.number m.value None inside ∙ piece.value)
      | inr other ↦ get_or-set_other (placed rest values) m.number x m.value None (λ e. other (sym e))
          ∙ placed_right round rest values x others room (elim was [
            | inl some_left ↦ let none' : cond {A = ℕ} (nat_eq m.number x) 1 0 ≡ 0 =
                ap (λ b. cond {A = ℕ} b 1 0) (ne_eqb m.number x other) in inl (omega arith)
            | inr right ↦ inr right
          ])
    ]

some_zero : (n : ℕ) → (0 < n) ⊎ (n ≡ 0)
some_zero zero = inr refl
some_zero (suc n) = inl (omega arith)

none_left : (benches : List BenchView) (x : ℕ)
    → 0 < times x (map number_of (all_made (drop (length benches) benches))) → ⊥
none_left [] x some_left = omega arith
none_left (bench ∷ benches) x some_left = none_left benches x some_left

-- the next bench gave its pieces
pub taken_next : (round : RoundView) (benches : List BenchView) (i : ℕ) (d : BenchView)
    (before after : List (Option (List ℕ)))
    → i < length benches → All (IsPiece round) (all_made benches) → length round.values ≤ length before
    → after ≡ placed (get_or benches i d).made before
    → ((x : ℕ) → x < length round.values
    → (0 < times x (map number_of (all_made (drop i benches)))) ⊎
    (get_or before x None ≡ get_or round.values x None))
    → (x : ℕ) → x < length round.values
    → (0 < times x (map number_of (all_made (drop (i + 1) benches)))) ⊎
    (get_or after x None ≡ get_or round.values x None)
taken_next round benches i d before after at all room is was x below =
    let mine = (get_or benches i d).made in
    let behind = all_made (drop (i + 1) benches) in
    let pieces = bench_holds (IsPiece round) benches i d at all in
    let both : times x (map number_of (all_made (drop i benches)))
    ≡ times x (map number_of mine) + times x (map number_of behind) =
    rw (made_from benches i d at) (times_made x mine behind) in
    elim (was x below) [
      | inl some_left ↦ elim (some_zero (times x (map number_of mine))) [
        | inl here ↦ inr (rw is (placed_right round mine before x pieces room (inl here)))
        | inr gone ↦ inl (omega arith)
      ]
      | inr right ↦ inr (rw is (placed_right round mine before x pieces room (inr right)))
    ]

-- once all benches gave their pieces, the values are the round's
pub taken_all : (round : RoundView) (benches : List BenchView) (values : List (Option (List ℕ)))
    → length round.values ≤ length values
    → ((x : ℕ) → x < length round.values
    → (0 < times x (map number_of (all_made (drop (length benches) benches)))) ⊎
    (get_or values x None ≡ get_or round.values x None))
    → take (length round.values) values ≡ round.values
taken_all round benches values room taken =
    let n = length round.values in
    let long = length-take-le n values room in
    ext_get_or None (take n values) round.values long (λ x at.
    let below : x < n = omega arith in
    get_or-take n values x None below ∙ (elim (taken x below) [
      | inl some_left ↦ absurd (none_left benches x some_left)
      | inr right ↦ right
    ]))

-- the bench that is next is as it was
pub bench_next : (benches now : List BenchView) (i : ℕ) (d : BenchView) → i < length benches
    → now ≡ map emptied (take i benches) ++ drop i benches → get_or now i d ≡ get_or benches i d
bench_next benches now i d at is =
    let front = map emptied (take i benches) in
    let long : length front ≡ i = length-map (take i benches) emptied ∙ length-take-le i benches (omega arith) in
    ap (λ bs. get_or bs i d) (is ∙ ap (λ bs. front ++ bs) (drop-cons benches i d at))
    ∙ ap (λ k. get_or (front ++ get_or benches i d ∷ drop (suc i) benches) k d) (sym long)
    ∙ get_or-append_seam front (get_or benches i d) (drop (suc i) benches) d

pub below_all : (round : RoundView) (n : ℕ) (made : List MadeView) → length round.values ≤ n
    → All (IsPiece round) made → All (λ p. p.number < n) made
below_all round n made room all = λ k d at. let piece = all k d at in omega (arith, piece.below)
