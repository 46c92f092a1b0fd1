-- Each step keeps the rule of the claim word.
-- With `given` beside the word every step is arithmetic. A draw below the count finds that nobody met the end yet. So
-- the word is the number of those given, which is the number drawn. A draw at or past the count changes only how often
-- the end was met.
use Rattle.std.proofs.Common.{◌≡◌, ◌≢◌, inl, inr, ℕ, zero, suc, ◌+◌, ◌%◌, ◌^◌, ◌<◌, ◌≤◌, Bool, true, false, cond, nat_lt, nat_eq, List, [], ◌∷◌, ◌++◌, length, length-append, get_or, set, refl, sym, ap, ◌∙◌, subst, ⊎_elim, arith, ltb-true, ltb-false}
use mathlib.Core.Option.{none, some, some-injective, some-ne-none}
use lib.ListN.{get_elem?}
use Rattle.std.proofs.lemmas.Bool.{cases_lt, le-ltb}
use Rattle.atomic_table.specs.Table.{State, step, keeps, stepped, Allows, Splits, Joins, opening, Final, Seen}
use Rattle.atomic_table.proofs.Lists.{at_set, at_snoc}
use Rattle.claim_core.specs.declared.table.Terms.{Terms}
use Rattle.claim_core.specs.declared.table.Hand.{Hand}
use Rattle.claim_core.specs.Claims.{times, once_below}
use Rattle.claim_core.specs.Rule.{total, hand_of, Fits, HasGiven, IsKept, all_workers, Mine, Draws, drew, other_workers, one_worker, both_hands, nobody}
use Rattle.claim_core.proofs.Sums.{total_set, total_snoc, total_at, all_mine, times_push, times_append, once_more, once_none}

abbrev Table : Type 0
Table = State (Unit {0}) Hand

pub begins : (k : Terms) → k.count < 4294967296 → k.workers ≤ 16 → IsKept k (opening (0 ∷ []) [] (all_workers k))
begins k small few = (
  0,
  record {
    small = small;
    few = few;
    word = refl;
    below = omega arith;
    end = λ some_end. absurd (omega arith);
    workers = omega arith;
    each = λ x. sym (once_none x);
    many = refl;
    fits = fits;
  },
)
  where
    fits : (i : ℕ) (v : Hand) → get_elem? (all_workers k ∷ []) i ≡ some v → Fits k v
    fits zero v at = subst (Fits k) (some-injective _ _ at) record { count = λ _. refl; idle = λ _. refl; ends = omega arith }
    fits (suc i) v at = absurd (some-ne-none v (sym at))

abbrev AllFit : Terms → List Hand → Type 0
AllFit k views = (i : ℕ) (v : Hand) → get_elem? views i ≡ some v → Fits k v

fits_set : (k : Terms) (views : List Hand) (id : ℕ) (new : Hand) → Fits k new → AllFit k views → AllFit k (set views id new)
fits_set k views id new mine all i x at =
    ⊎_elim
    (λ (t : (i ≡ id) × (new ≡ x)). subst (Fits k) t.1 mine)
    (λ (t : (i ≢ id) × (get_elem? views i ≡ some x)). all i x t.1)
    (at_set views id i new x at)

none_yet : (given n c count e : ℕ) → (0 < e → given ≡ c) → n ≡ given + e → n < count → count ≡ c → e ≡ 0
none_yet given n c most zero _ _ _ _ = refl
none_yet given n c most (suc e) end found less same = let g = end (omega arith) in absurd (omega arith)

at_end : (given n c count e : ℕ) → (0 < e → given ≡ c) → n ≡ given + e → given ≤ c → count ≤ n → count ≡ c → given ≡ c
at_end given n c most zero _ found below more same = omega arith
at_end given n c most (suc e) end _ _ _ _ = end (omega arith)

ends_few : (k : Terms) (views : List Hand) → AllFit k views → total (λ u. u.ends) views ≤ total (λ u. u.workers) views
ends_few k [] fits = omega arith
ends_few k (x ∷ xs) fits = let f = (fits 0 x refl).ends in let r = ends_few k xs (λ i v e. fits (suc i) v e) in omega arith

-- a number that some hand drew is below the number of those given
before : (x n given mine all : ℕ) → mine ≤ all → all ≡ once_below x given → 0 < mine → n ≡ given → x < n
before x n given mine all part is drawn here = elim (cases_lt x given) [
  | inl low ↦ omega arith
  | inr high ↦
      let none_left : once_below x given ≡ 0 = ap (λ b. cond {A = ℕ} b 1 0) (le-ltb x given high) in
      absurd (omega arith)
]

draws_one : (k : Terms) (slots id given : ℕ) (me : Mine) (s : Table) (n : ℕ) → HasGiven k given s
    → get_elem? s.views id ≡ some me.0 → n ≡ get_or s.words 0 0 → me.0.ends < me.0.workers
    → (b : Bool) → nat_lt n me.0.count ≡ b
    → (w : Hand) × (IsKept k (stepped s 0 ((n + 1) % 18446744073709551616) id me.1 w keeps) × Draws me.0 n w)
draws_one k slots id given me s n h at is may true low =
    let v : Hand = me.0 in
    let f = h.fits id v at in
    let w : Hand = hand_of v.count v.workers (v.drawn ++ n ∷ []) v.ends in
    let count : v.count ≡ k.count = f.count (omega arith) in
    let less : n < v.count = ltb-true n v.count low in
    let ends = total_set (λ u. u.ends) s.views id v w at in
    let all_ends : ℕ = total (λ u. u.ends) s.views in
    let new_ends : ℕ = total (λ u. u.ends) (set s.views id w) in
    let same_ends : new_ends ≡ all_ends = omega arith in
    let found : n ≡ given + all_ends = is ∙ ap (λ ws. get_or ws 0 0) h.word in
    let no_end : all_ends ≡ 0 = none_yet given n k.count v.count all_ends h.end found less count in
    let here : n ≡ given = omega arith in
    let small = h.small in
    let workers = total_set (λ u. u.workers) s.views id v w at in
    let many = total_set (λ u. length u.drawn) s.views id v w at in
    let was = h.many in
    let parts = h.workers in (
      w,
      (
        (
          given + 1,
          record {
            small = h.small;
            few = h.few;
            word = ap (λ (ws : List ℕ). set ws 0 ((n + 1) % 18446744073709551616)) h.word
                ∙ ap (λ (x : ℕ). x ∷ []) (omega arith);
            below = omega arith;
            end = λ some_end. absurd (omega arith);
            workers = omega arith;
            each = λ x.
                let t = total_set (λ u. times x u.drawn) s.views id v w at in
                let p = times_push x v.drawn n in
                let o = once_more x given in
                let e = h.each x in
                let c : cond {A = ℕ} (nat_eq n x) 1 0 ≡ cond {A = ℕ} (nat_eq given x) 1 0 =
                ap (λ m. cond {A = ℕ} (nat_eq m x) 1 0) here in
                omega arith;
            many = omega (arith, length-append v.drawn (n ∷ []));
            fits = let new : Fits k w = record { count = f.count; idle = λ no_worker. absurd (omega arith); ends = f.ends } in
                fits_set k s.views id w new h.fits;
          },
        ),
        rw low (
          refl,
          (let m = total_at (λ u. length u.drawn) s.views id v at in omega arith),
          (λ x drawn.
              let mine = total_at (λ u. times x u.drawn) s.views id v at in
              before x n given (times x v.drawn) (total (λ u. times x u.drawn) s.views) mine (h.each x) drawn here),
        ),
      ),
    )
draws_one k slots id given me s n h at is may false high =
    let v : Hand = me.0 in
    let f = h.fits id v at in
    let w : Hand = hand_of v.count v.workers v.drawn (v.ends + 1) in
    let count : v.count ≡ k.count = f.count (omega arith) in
    let more : v.count ≤ n = ltb-false n v.count high in
    let ends = total_set (λ u. u.ends) s.views id v w at in
    let all_ends : ℕ = total (λ u. u.ends) s.views in
    let new_ends : ℕ = total (λ u. u.ends) (set s.views id w) in
    let found : n ≡ given + all_ends = is ∙ ap (λ ws. get_or ws 0 0) h.word in
    let below = h.below in
    let here : given ≡ k.count = at_end given n k.count v.count all_ends h.end found below more count in
    let small = h.small in
    let few = h.few in
    let workers = total_set (λ u. u.workers) s.views id v w at in
    let many = total_set (λ u. length u.drawn) s.views id v w at in
    let was = h.many in
    let parts = h.workers in
    let bound = ends_few k s.views h.fits in
    let step : new_ends ≡ all_ends + 1 = omega arith in (
      w,
      (
        (
          given,
          record {
            small = h.small;
            few = h.few;
            word = ap (λ (ws : List ℕ). set ws 0 ((n + 1) % 18446744073709551616)) h.word
                ∙ ap (λ (x : ℕ). x ∷ []) (omega arith);
            below = h.below;
            end = λ some_end. here;
            workers = omega arith;
            each = λ x.
                let t = total_set (λ u. times x u.drawn) s.views id v w at in
                let e = h.each x in
                omega arith;
            many = omega arith;
            fits = fits_set k s.views id w record { count = f.count; idle = f.idle; ends = omega arith } h.fits;
          },
        ),
        rw high refl,
      ),
    )

pub draws : (k : Terms) (slots id : ℕ) (me : Mine) → me.0.ends < me.0.workers
    → Allows (IsKept k) slots id me 0 (λ n. (n + 1) % 2 ^ 64) (drew (step slots 0 1 0 none) me)
draws k slots id me may s kept _ at _ =
    let n : ℕ = get_or s.words 0 0 in
    let r = draws_one k slots id kept.0 me s n kept.1 at refl may (nat_lt n me.0.count) refl in
    (r.0, keeps, tt, r.1.0, (r.1.1, refl))

pub cuts_off : (k : Terms) (id : ℕ) (v : Hand) → 1 < v.workers → v.drawn ≡ [] → v.ends ≡ 0
    → Splits (IsKept k) id v (other_workers v) (one_worker v)
cuts_off k id v some_more nothing no_end s kept at =
    let h = kept.1 in
    let f = h.fits id v at in
    let views : List Hand = set s.views id (other_workers v) in
    let total_both : (g : Hand → ℕ)
    → total g (views ++ one_worker v ∷ []) + g v ≡ total g s.views + (g (other_workers v) + g (one_worker v)) =
    λ g. let a = total_snoc g views (one_worker v) in let b = total_set g s.views id v (other_workers v) at in omega arith in
    let ends = total_both (λ u. u.ends) in
    let workers = total_both (λ u. u.workers) in
    let many = total_both (λ u. length u.drawn) in
    let none' = ap length nothing in
    let same : total (λ u. u.ends) (views ++ one_worker v ∷ []) ≡ total (λ u. u.ends) s.views = omega arith in
    let all = h.workers in
    let was = h.many in (
      kept.0,
      record {
        small = h.small;
        few = h.few;
        word = h.word ∙ ap (λ (x : ℕ). (kept.0 + x) ∷ []) (sym same);
        below = h.below;
        end = λ some_end. h.end (omega arith);
        workers = omega arith;
        each = λ x. let t = total_both (λ u. times x u.drawn) in let e = h.each x in omega arith;
        many = omega arith;
        fits = λ i u ati.
            let left : Fits k (other_workers v) = record { count = λ _. f.count (omega arith); idle = λ _. nothing; ends = omega arith } in
            let right : Fits k (one_worker v) = record { count = λ _. f.count (omega arith); idle = λ _. refl; ends = omega arith } in
            ⊎_elim
            (λ old. fits_set k s.views id (other_workers v) left h.fits i u old)
            (λ (new : one_worker v ≡ u). subst (Fits k) new right)
            (at_snoc views (one_worker v) u i ati);
      },
    )

pub takes_in : (k : Terms) (id : ℕ) (v : Hand) (other : ℕ) (w : Hand) → 0 < v.workers → 0 < w.workers
    → Joins (IsKept k) id v other w (both_hands v w) nobody
takes_in k id v other w some_v some_w s kept at apart at' =
    let h = kept.1 in
    let f = h.fits id v at in
    let views : List Hand = set s.views id (both_hands v w) in
    let was_there : get_elem? s.views other ≡ some w =
    ⊎_elim (λ x. absurd (apart x.0)) (λ x. x.1) (at_set s.views id other (both_hands v w) w at') in
    let g = h.fits other w was_there in
    let total_both : (r : Hand → ℕ)
    → total r (set views other nobody) + (r w + r v) ≡ total r s.views + (r (both_hands v w) + r nobody) =
    λ r. let a = total_set r s.views id v (both_hands v w) at in let b = total_set r views other w nobody at' in omega arith in
    let ends = total_both (λ u. u.ends) in
    let workers = total_both (λ u. u.workers) in
    let many = total_both (λ u. length u.drawn) in
    let same : total (λ u. u.ends) (set views other nobody) ≡ total (λ u. u.ends) s.views = omega arith in
    let all = h.workers in
    let was = h.many in
    let fe = f.ends in
    let ge = g.ends in (
      kept.0,
      record {
        small = h.small;
        few = h.few;
        word = h.word ∙ ap (λ (x : ℕ). (kept.0 + x) ∷ []) (sym same);
        below = h.below;
        end = λ some_end. h.end (omega arith);
        workers = omega arith;
        each = λ x.
            let t = total_both (λ u. times x u.drawn) in
            let e = h.each x in
            let a = times_append x v.drawn w.drawn in
            omega arith;
        many = omega (arith, length-append v.drawn w.drawn);
        fits =
            let both : Fits k (both_hands v w) =
            record { count = λ _. f.count some_v; idle = λ no_worker. absurd (omega arith); ends = omega arith } in
            let spent : Fits k nobody =
            record { count = λ no_worker. absurd (omega arith); idle = λ _. refl; ends = omega arith } in
            fits_set k views other nobody spent (fits_set k s.views id (both_hands v w) both h.fits);
      },
    )

-- the hand of all workers, which has met an end: it drew each number below the count once
pub closes : (k : Terms) (id : ℕ) (v : Hand) (ws : List ℕ) (xs : List (Unit {0})) → Final (Seen (IsKept k) id v) ws xs
    → v.workers ≡ k.workers → 0 < v.ends → (x : ℕ) → times x v.drawn ≡ once_below x k.count
closes k id v ws xs final all some_end x =
    let s = final.0 in
    let kept = final.1.0 in
    let at = final.1.1 in
    let h = kept.1 in
    let idle : (j : ℕ) (u : Hand) → get_elem? s.views j ≡ some u → u.workers ≡ 0 → times x u.drawn ≡ 0 =
    λ j u there no_worker. ap (times x) ((h.fits j u there).idle no_worker) in
    let mine = all_mine (λ u. times x u.drawn) s.views id v idle at (h.workers ∙ sym all) in
    let e = total_at (λ u. u.ends) s.views id v at in
    let end = h.end (omega arith) in
    sym mine ∙ h.each x ∙ ap (once_below x) end
