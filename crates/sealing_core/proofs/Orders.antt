-- Pieces in their places.
use Rattle.std.proofs.Common.{◌≡◌, ◌≢◌, ◌⊎◌, ℕ, zero, suc, ◌+◌, ◌-◌, ◌<◌, ◌≤◌, Bool, true, false, cond, nat_lt, List, [], ◌∷◌, ◌++◌, length, get_or, set, Option, Some, None, refl, sym, ap, ◌∙◌, subst, inl, inr, arith, ltb-true, eqb, Result, Ok, Err, OnOk, is_err, ltb-false, append-nil, append_assoc, eq-eqb}
use Rattle.std.proofs.Common.{length-append}
use Rattle.std.proofs.lemmas.List.{length-set}
use Rattle.std.proofs.lemmas.Bool.{cases_eq}
use Rattle.sealing_core.specs.declared.early.Early.{Early}
use Rattle.sealing_core.specs.declared.piece.Piece.{Piece}
use Rattle.sealing_core.specs.declared.piece.Task.{Task}
use Rattle.sealing_core.specs.Pieces.{IsPiece, task_numbers}
use Rattle.sealing_core.specs.Round.{AreJobs}
use Rattle.sealing_core.specs.Order.{placed, empty, AreKept, below, HasSeen, IsOrdered, IsSeen}
use Rattle.sealing_core.specs.Hands.{times, hand, all_numbers, both, HasRelayed, HasAll, EachOnce, Balanced}
use Rattle.sealing_core.specs.declared.line.Hand.{Hand}
use Rattle.sealing_core.proofs.Sums.{times_append}
use Rattle.std.proofs.lemmas.Option.{none-some, same_Some}

set_cases : (l : List (Option Piece)) (i k : ℕ) (a : Option Piece) (q : Piece) → get_or (set l i a) k None ≡ Some q → ((k ≡ i) × (a ≡ Some q)) ⊎ (get_or l k None ≡ Some q)
set_cases [] i k a q e = inr e
set_cases (x ∷ xs) zero zero a q e = inl (refl, e)
set_cases (x ∷ xs) zero (suc k) a q e = inr e
set_cases (x ∷ xs) (suc i) zero a q e = inr e
set_cases (x ∷ xs) (suc i) (suc k) a q e = elim (set_cases xs i k a q e) [
  | inl here ↦ inl (ap suc here.0, here.1)
  | inr there ↦ inr there
]

pub place_kept : (each : ℕ) (key header : List ℕ) (told : Option (List ℕ)) (w : ℕ) (places : List (Option Piece)) (p : Piece) → AreKept each key header told w places → IsPiece each key header told p → AreKept each key header told w (placed w places p)
place_kept each key header told w places p kept good = go (nat_lt p.number w) refl
  where
    go : (b : Bool) → nat_lt p.number w ≡ b → AreKept each key header told w (cond b places (set places (p.number - w) (Some p)))
    go true low k q e = kept k q e
    go false high k q e =
        let late : w ≤ p.number = ltb-false p.number w high in
        elim (set_cases places (p.number - w) k (Some p) q e) [
          | inl here ↦ let same : p ≡ q = same_Some p q here.1 in subst (λ (r : Piece). (r.number ≡ w + k) × IsPiece each key header told r) same ((let h = here.0 in omega arith), good)
          | inr there ↦ kept k q there
        ]

pub first_kept : (each : ℕ) (key header : List ℕ) (told : Option (List ℕ)) (w : ℕ) (rest : List (Option Piece)) (p : Piece) → AreKept each key header told w (Some p ∷ rest) → (p.number ≡ w) × IsPiece each key header told p
first_kept each key header told w rest p kept = let k = kept 0 p refl in (omega arith, k.1)

pub rest_kept : (each : ℕ) (key header : List ℕ) (told : Option (List ℕ)) (w : ℕ) (rest : List (Option Piece)) (p : Piece) → AreKept each key header told w (Some p ∷ rest) → AreKept each key header told (w + 1) rest
rest_kept each key header told w rest p kept k q e = let r = kept (suc k) q e in (omega arith, r.1)

pub none_kept : (each : ℕ) (key header : List ℕ) (told : Option (List ℕ)) (w : ℕ) → AreKept each key header told w []
none_kept each key header told w k q e = absurd (none-some q e)

pub seen_none : (a b : List ℕ) → HasSeen 0 [] a b
seen_none a b = record { behind = λ x low. absurd (omega arith); kept = λ k p e. absurd (none-some p e) }

-- more was taken
seen_more : (w : ℕ) (xs : List (Option Piece)) (a b c d : List ℕ) → HasSeen w xs a b → HasSeen w xs (a ++ c) (b ++ d)
seen_more w xs a b c d h = record {
  behind = λ x low. more x (h.behind x low);
  kept = λ k p e. more p.number (h.kept k p e);
}
  where
    more : (x : ℕ) → 0 < times x a + times x b → 0 < times x (a ++ c) + times x (b ++ d)
    more x held = let e = times_append x a c in let f = times_append x b d in omega arith

seen_placed : (w : ℕ) (xs : List (Option Piece)) (p : Piece) (a b : List ℕ) → HasSeen w xs a b → 0 < times p.number a + times p.number b → HasSeen w (placed w xs p) a b
seen_placed w xs p a b h mine = go (nat_lt p.number w) refl
  where
    go : (t : Bool) → nat_lt p.number w ≡ t → HasSeen w (cond t xs (set xs (p.number - w) (Some p))) a b
    go true low = h
    go false high = record {
      behind = h.behind;
      kept = λ k q e. elim (set_cases xs (p.number - w) k (Some p) q e) [
        | inl here ↦ let same : p ≡ q = same_Some p q here.1 in subst (λ (r : Piece). 0 < times r.number a + times r.number b) same mine
        | inr there ↦ h.kept k q there
      ];
    }

once : (x : ℕ) → times x (x ∷ []) ≡ 1
once x = ap (λ (b : Bool). cond {A = ℕ} b 1 0 + 0) (eq-eqb x x refl) ∙ omega arith

-- a piece was taken back and kept
pub seen_back : (w v : ℕ) (xs ys : List (Option Piece)) (p : Piece) (a a' b b' : List ℕ) → ys ≡ placed w xs p → v ≡ w → a' ≡ a → b' ≡ b ++ p.number ∷ [] → HasSeen w xs a b → HasSeen v ys a' b'
seen_back w v xs ys p a a' b b' e f i j h =
    let m = seen_more w xs a b [] (p.number ∷ []) h in
    let o = once p.number in
    let t = times_append p.number b (p.number ∷ []) in
    let u = times_append p.number a [] in
    let r = seen_placed w xs p (a ++ []) (b ++ p.number ∷ []) m (omega arith) in
    rw (e, f, i, j, sym (append-nil a)) r

-- a job was done by the caller's thread
pub seen_mine : (w v : ℕ) (xs ys : List (Option Piece)) (p : Piece) (a a' b b' : List ℕ) → ys ≡ placed w xs p → v ≡ w → a' ≡ a ++ p.number ∷ [] → b' ≡ b → HasSeen w xs a b → HasSeen v ys a' b'
seen_mine w v xs ys p a a' b b' e f i j h =
    let m = seen_more w xs a b (p.number ∷ []) [] h in
    let o = once p.number in
    let t = times_append p.number a (p.number ∷ []) in
    let u = times_append p.number b [] in
    let r = seen_placed w xs p (a ++ p.number ∷ []) (b ++ []) m (omega arith) in
    rw (e, f, i, j, sym (append-nil b)) r

-- the first place was written
pub seen_next : (w v : ℕ) (xs ys : List (Option Piece)) (p : Piece) (a b : List ℕ) → xs ≡ Some p ∷ ys → v ≡ w + 1 → p.number ≡ w → HasSeen w xs a b → HasSeen v ys a b
seen_next w v xs ys p a b e f n h = record { behind = λ x low. behind x low (cases_eq x w); kept = λ k q at. (subst (λ (l : List (Option Piece)). HasSeen w l a b) e h).kept (suc k) q at }
  where
    behind : (x : ℕ) → x < v → (x ≡ w) ⊎ (x ≢ w) → 0 < times x a + times x b
    behind x low (inl same) = subst (λ (y : ℕ). 0 < times y a + times y b) (n ∙ sym same) ((subst (λ (l : List (Option Piece)). HasSeen w l a b) e h).kept 0 p refl)
    behind x low (inr other) = h.behind x (omega arith)

pub times_below : (x n : ℕ) → times x (below n) ≡ cond {A = ℕ} (nat_lt x n) 1 0
times_below x zero = grind (arith)
times_below x (suc n) =
    let is = times_below x n in
    let a = times_append x (below n) (n ∷ []) in
    let b : cond {A = ℕ} (nat_lt x (n + 1)) 1 0 ≡ cond {A = ℕ} (nat_lt x n) 1 0 + cond {A = ℕ} (eqb n x) 1 0 = grind (arith) in
    let c : cond {A = ℕ} (nat_lt x (suc n)) 1 0 ≡ cond {A = ℕ} (nat_lt x (n + 1)) 1 0 = ap (λ (m : ℕ). cond {A = ℕ} (nat_lt x m) 1 0) (omega arith) in
    omega arith

-- the caller's hands at the end
pub all_alone : (n : ℕ) (j p : Hand) → j.put ≡ below n → p.put ≡ [] → IsSeen n j.taken p.taken → HasAll n j p
all_alone n j p put nothing seen = record {
  put = λ x. ap (times x) put ∙ times_below x n;
  mine = j.taken;
  each = λ x. let e = ap (times x) nothing in omega arith;
  seen = seen;
}

-- with a worker's hands
pub all_both : (n k : ℕ) (j p i q : Hand) → HasAll n j p → HasRelayed k i q → HasAll n (both j i) (both p q)
all_both n k j p i q h r = record {
  put = λ x. let a = times_append x j.put i.put in let e = ap (λ (v : Hand). times x v.put) r.none_put in let f = h.put x in omega arith;
  mine = h.mine;
  each = λ x.
      let a = times_append x j.taken i.taken in
      let b = times_append x p.put q.put in
      let e = ap (λ (v : Hand). times x v.put) r.each in
      let f = h.each x in
      omega arith;
  seen = λ x low. let a = times_append x p.taken q.taken in let s = h.seen x low in omega arith;
}

pub each_once : {T U : Type 0} (n : ℕ) (f : T → List ℕ) (g : U → List ℕ) (j p : Hand) (xs : List T) (ys : List U) → HasAll n j p → Balanced f j xs → Balanced g p ys → EachOnce n j p
each_once n f g j p xs ys h b c = record {
  put = h.put;
  taken = λ x. (counts x (nat_lt x n) refl).0;
  back = λ x. (counts x (nat_lt x n) refl).1;
}
  where
    counts : (x : ℕ) (t : Bool) → nat_lt x n ≡ t → (times x j.taken ≡ cond {A = ℕ} (nat_lt x n) 1 0) × (times x p.taken ≡ times x p.put)
    counts x true low =
        let put = h.put x in
        let one : cond {A = ℕ} (nat_lt x n) 1 0 ≡ 1 = ap (λ (u : Bool). cond {A = ℕ} u 1 0) low in
        let seen = h.seen x (ltb-true x n low) in
        let each = h.each x in
        let d = b x in
        let e = c x in
        (omega arith, omega arith)
    counts x false high =
        let put = h.put x in
        let none_there : cond {A = ℕ} (nat_lt x n) 1 0 ≡ 0 = ap (λ (u : Bool). cond {A = ℕ} u 1 0) high in
        let each = h.each x in
        let d = b x in
        let e = c x in
        (omega arith, omega arith)

pub on_one : {A E : Type 0} (r : Result A E) {P R : Type 0} → OnOk r P → (P → R) → OnOk r R
on_one (Ok x) p f = f p
on_one (Err x) p f = tt

-- as the hands are after an absorb
pub all_joined : (n : ℕ) (j p i q j' p' : Hand) → HasRelayed 1 i q → j' ≡ both j i → p' ≡ both p q → HasAll n j p → HasAll n j' p'
all_joined n j p i q j' p' relayed e f h = rw (e, f) (all_both n 1 j p i q h relayed)

-- ---- the caller's thread

pub first_is : (each : ℕ) (key header : List ℕ) (told : Option (List ℕ)) (w : ℕ) (xs ys : List (Option Piece)) (p : Piece) → xs ≡ Some p ∷ ys
    → AreKept each key header told w xs → (p.number ≡ w) × IsPiece each key header told p
first_is each key header told w xs ys p e kept = first_kept each key header told w ys p (subst (AreKept each key header told w) e kept)

length_placed : (w : ℕ) (xs : List (Option Piece)) (p : Piece) → length (placed w xs p) ≡ length xs
length_placed w xs p = go (nat_lt p.number w)
  where
    go : (b : Bool) → length (cond b xs (set xs (p.number - w) (Some p))) ≡ length xs
    go true = refl
    go false = length-set xs (p.number - w) (Some p)

-- the piece whose turn it was is written
pub order_next : (each : ℕ) (key header : List ℕ) (told : Option (List ℕ)) (chunks : ℕ) (old new : Early) (jobs pieces : Hand) (p : Piece)
    → old.places.items ≡ Some p ∷ new.places.items → new.written ≡ old.written + 1
    → IsOrdered each key header told chunks old jobs pieces → IsOrdered each key header told chunks new jobs pieces
order_next each key header told chunks old new jobs pieces p e f was = record {
  put = was.put;
  silent = was.silent;
  count = let n = was.count in let l = ap (λ (xs : List (Option Piece)). length xs) e in omega arith;
  kept = rw f (rest_kept each key header told old.written new.places.items p (subst (AreKept each key header told old.written) e was.kept));
  seen = seen_next old.written new.written old.places.items new.places.items p jobs.taken pieces.taken e f
      (first_is each key header told old.written old.places.items new.places.items p e was.kept).0 was.seen;
}

-- a piece was taken back
pub order_back : (each : ℕ) (key header : List ℕ) (told : Option (List ℕ)) (chunks : ℕ) (old new : Early) (jobs pieces pieces' : Hand) (p : Piece)
    → new.places.items ≡ placed old.written old.places.items p → new.written ≡ old.written
    → pieces' ≡ hand pieces.parts pieces.put (pieces.taken ++ p.number ∷ []) → IsPiece each key header told p
    → IsOrdered each key header told chunks old jobs pieces → IsOrdered each key header told chunks new jobs pieces'
order_back each key header told chunks old new jobs pieces pieces' p e f g good was = record {
  put = was.put;
  silent = ap (λ v. v.put) g ∙ was.silent;
  count = let n = was.count in let l = ap (λ (xs : List (Option Piece)). length xs) e ∙ length_placed old.written old.places.items p in omega arith;
  kept = rw (e, f) (place_kept each key header told old.written old.places.items p was.kept good);
  seen = seen_back old.written new.written old.places.items new.places.items p jobs.taken jobs.taken pieces.taken pieces'.taken e f refl (ap (λ v. v.taken) g) was.seen;
}

-- a job was done by the caller's thread
pub order_mine : (each : ℕ) (key header : List ℕ) (told : Option (List ℕ)) (chunks : ℕ) (old new : Early) (jobs jobs' pieces : Hand) (p : Piece)
    → new.places.items ≡ placed old.written old.places.items p → new.written ≡ old.written
    → jobs' ≡ hand jobs.parts jobs.put (jobs.taken ++ p.number ∷ []) → IsPiece each key header told p
    → IsOrdered each key header told chunks old jobs pieces → IsOrdered each key header told chunks new jobs' pieces
order_mine each key header told chunks old new jobs jobs' pieces p e f g good was = record {
  put = ap (λ v. v.put) g ∙ was.put;
  silent = was.silent;
  count = let n = was.count in let l = ap (λ (xs : List (Option Piece)). length xs) e ∙ length_placed old.written old.places.items p in omega arith;
  kept = rw (e, f) (place_kept each key header told old.written old.places.items p was.kept good);
  seen = seen_mine old.written new.written old.places.items new.places.items p jobs.taken jobs'.taken pieces.taken pieces.taken e f (ap (λ v. v.taken) g) refl was.seen;
}

-- the jobs of the round in hand were put
get_empty : (l : List (Option Piece)) (n k : ℕ) (q : Piece) → get_or (l ++ empty n) k None ≡ Some q → get_or l k None ≡ Some q
get_empty [] zero k q e = e
get_empty [] (suc n) zero q e = e
get_empty [] (suc n) (suc k) q e = get_empty [] n k q e
get_empty (x ∷ xs) n zero q e = e
get_empty (x ∷ xs) n (suc k) q e = get_empty xs n k q e

length_empty : (n : ℕ) → length (empty n) ≡ n
length_empty zero = refl
length_empty (suc n) = ap suc (length_empty n)

pub length_opened : (xs ys : List (Option Piece)) (n : ℕ) → ys ≡ xs ++ empty n → length ys ≡ length xs + n
length_opened xs ys n e = let a = ap (λ (l : List (Option Piece)). length l) e ∙ length-append xs (empty n) in let b = length_empty n in omega arith

pub below_jobs : (each : ℕ) (header : List ℕ) (told : Option (List ℕ)) (put : ℕ) (ts : List Task) → AreJobs each header told put ts
    → below put ++ all_numbers task_numbers ts ≡ below (put + length ts)
below_jobs each header told put [] jobs = let none_more : put ≡ put + 0 = omega arith in append-nil (below put) ∙ ap below none_more
below_jobs each header told put (t ∷ ts) jobs =
    let one : suc put ≡ put + 1 = omega arith in
    let all : put + 1 + length ts ≡ put + length (t ∷ ts) = omega arith in
    ap (λ (ns : List ℕ). below put ++ (ns ++ all_numbers task_numbers ts)) jobs.1
    ∙ sym (append_assoc (below put) (put ∷ []) (all_numbers task_numbers ts))
    ∙ ap (λ (ns : List ℕ). ns ++ all_numbers task_numbers ts) (ap below one)
    ∙ below_jobs each header told (put + 1) ts jobs.2
    ∙ ap below all

pub order_all : (each : ℕ) (key header : List ℕ) (told : Option (List ℕ)) (put : ℕ) (old new : Early) (jobs jobs' pieces : Hand) (ts : List Task)
    → AreJobs each header told put ts → new.places.items ≡ old.places.items ++ empty (length ts) → new.written ≡ old.written
    → jobs' ≡ hand jobs.parts (jobs.put ++ all_numbers task_numbers ts) jobs.taken
    → IsOrdered each key header told put old jobs pieces → IsOrdered each key header told (put + length ts) new jobs' pieces
order_all each key header told put old new jobs jobs' pieces ts all e f g was = record {
  put = ap (λ v. v.put) g ∙ ap (λ (ns : List ℕ). ns ++ all_numbers task_numbers ts) was.put ∙ below_jobs each header told put ts all;
  silent = was.silent;
  count = let n = was.count in let l = ap (λ (xs : List (Option Piece)). length xs) e ∙ length-append old.places.items (empty (length ts)) in let m = length_empty (length ts) in omega arith;
  kept = rw (e, f) (λ k q at. was.kept k q (get_empty old.places.items (length ts) k q at));
  seen = rw (e, f) (record {
    behind = λ x low. seen_as (ap (λ v. v.taken) g) x (was.seen.behind x low);
    kept = λ k q at. seen_as (ap (λ v. v.taken) g) q.number (was.seen.kept k q (get_empty old.places.items (length ts) k q at));
  });
}
  where
    seen_as : jobs'.taken ≡ jobs.taken → (x : ℕ) → 0 < times x jobs.taken + times x pieces.taken → 0 < times x jobs'.taken + times x pieces.taken
    seen_as same x some = let t = ap (times x) same in omega arith

-- one of them was put
pub put_step : (put put' all : List ℕ) (t : Task) (ts rest : List Task) → ts ≡ t ∷ rest → put' ≡ put ++ task_numbers t
    → put ++ all_numbers task_numbers ts ≡ all → put' ++ all_numbers task_numbers rest ≡ all
put_step put put' all t ts rest e f was =
    ap (λ (ns : List ℕ). ns ++ all_numbers task_numbers rest) f
    ∙ append_assoc put (task_numbers t) (all_numbers task_numbers rest)
    ∙ ap (λ (l : List Task). put ++ all_numbers task_numbers l) (sym e) ∙ was

pub place_step : (xs xs' all : List (Option Piece)) (t : Task) (ts rest : List Task) → ts ≡ t ∷ rest → xs' ≡ xs ++ None ∷ []
    → xs ++ empty (length ts) ≡ all → xs' ++ empty (length rest) ≡ all
place_step xs xs' all t ts rest e f was =
    ap (λ (l : List (Option Piece)). l ++ empty (length rest)) f
    ∙ append_assoc xs (None ∷ []) (empty (length rest))
    ∙ ap (λ (l : List Task). xs ++ empty (length l)) (sym e) ∙ was

pub none_left : (ts : List Task) → length ts ≡ 0 → ts ≡ []
none_left [] none = refl
none_left (t ∷ ts) none = absurd (omega arith)

-- the places are the same
pub order_same : (each : ℕ) (key header : List ℕ) (told : Option (List ℕ)) (put : ℕ) (early early' : Early) (jobs pieces : Hand)
    → early'.places.items ≡ early.places.items → early'.written ≡ early.written
    → IsOrdered each key header told put early jobs pieces → IsOrdered each key header told put early' jobs pieces
order_same each key header told put early early' jobs pieces e f was = record {
  put = was.put;
  silent = was.silent;
  count = let n = was.count in let l = ap (λ (xs : List (Option Piece)). length xs) e in omega arith;
  kept = rw (e, f) was.kept;
  seen = rw (e, f) was.seen;
}

-- nothing was read yet
pub order_none : (each : ℕ) (key header : List ℕ) (told : Option (List ℕ)) (chunks : ℕ) (early : Early) (jobs pieces : Hand)
    → chunks ≡ 0 → early.places.items ≡ [] → early.written ≡ 0 → jobs.put ≡ [] → pieces.put ≡ []
    → IsOrdered each key header told chunks early jobs pieces
order_none each key header told chunks early jobs pieces c e f put silent = record {
  put = put ∙ ap below (sym c);
  silent = silent;
  count = let l = ap (λ (xs : List (Option Piece)). length xs) e in omega arith;
  kept = rw e (none_kept each key header told early.written);
  seen = rw (e, f) (seen_none jobs.taken pieces.taken);
}

pub none_on_err : {A E : Type 0} (P : Type 0) (r : Result A E) → is_err r ≡ true → OnOk r P
none_on_err P (Ok x) e = cc
none_on_err P (Err x) e = tt

pub on_each : {A E : Type 0} {F G : ℕ → Type 0} → ((n : ℕ) → F n → G n) → (r : Result A E) → OnOk r ((n : ℕ) × F n) → OnOk r ((n : ℕ) × G n)
on_each f (Ok x) p = (p.0, f p.0 p.1)
on_each f (Err x) p = tt
