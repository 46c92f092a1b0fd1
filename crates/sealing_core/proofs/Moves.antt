-- Each move keeps the rule of a queue.
use Rattle.std.proofs.Common.{◌≡◌, ◌≢◌, ℕ, zero, suc, ◌+◌, ◌<◌, List, [], ◌∷◌, ◌++◌, set, refl, sym, ap, ◌∙◌, subst, ⊎_elim, arith}
use Rattle.std.proofs.lemmas.List.Elements.{All-push}
use mathlib.Core.Option.{some, some-injective, some-ne-none}
use lib.ListN.{get_elem?}
use Rattle.crossbeam_queue.specs.Fifo.{Pushes, Pops, Forks, Merges, Learns}
use Rattle.crossbeam_queue.proofs.Lists.{at_set, at_snoc}
use Rattle.sealing_core.specs.declared.line.Hand.{Hand}
use Rattle.sealing_core.specs.Hands.{times, total, hand, all_numbers, Holds, Balanced, newcomer, nobody, left, both}
use Rattle.sealing_core.proofs.Sums.{total_set, total_snoc, all_mine, times_append, times_all}

abbrev Idle : List Hand → Type 0
Idle views = (i : ℕ) (v : Hand) → get_elem? views i ≡ some v → v.parts ≡ 0 → (v.put ≡ []) × (v.taken ≡ [])

idle_set : (views : List Hand) (port : ℕ) (w : Hand) → (w.parts ≡ 0 → (w.put ≡ []) × (w.taken ≡ [])) → Idle views → Idle (set views port w)
idle_set views port w mine all i x at =
    ⊎_elim
    (λ (t : (i ≡ port) × (w ≡ x)). subst (λ (u : Hand). u.parts ≡ 0 → (u.put ≡ []) × (u.taken ≡ [])) t.1 mine)
    (λ (t : (i ≢ port) × (get_elem? views i ≡ some x)). all i x t.1)
    (at_set views port i w x at)

idle_snoc : (views : List Hand) (w : Hand) → (w.parts ≡ 0 → (w.put ≡ []) × (w.taken ≡ [])) → Idle views → Idle (views ++ w ∷ [])
idle_snoc views w mine all i x at =
    ⊎_elim
    (λ (t : get_elem? views i ≡ some x). all i x t)
    (λ (t : w ≡ x). subst (λ (u : Hand). u.parts ≡ 0 → (u.put ≡ []) × (u.taken ≡ [])) t mine)
    (at_snoc views w x i at)

module _ {T : Type 0} (Good : T → Type 0) (numbers : T → List ℕ) where
  pub begins : Holds Good numbers [] (hand 1024 [] [] ∷ [])
  begins = record { good = λ k d at. absurd (omega arith); parts = omega arith; even = λ x. refl; idle = first }
    where
      first : Idle (hand 1024 [] [] ∷ [])
      first zero v at no_part = let p = ap (λ (u : Hand). u.parts) (some-injective _ _ at) in absurd (omega arith)
      first (suc i) v at no_part = absurd (some-ne-none v (sym at))

  pub puts : (n port : ℕ) (v : Hand) (x : T) → 0 < v.parts → Good x → Pushes (Holds Good numbers) n port v x (λ w. w ≡ hand v.parts (v.put ++ numbers x) v.taken)
  puts n port v x some_part good items views room h at =
      let w : Hand = hand v.parts (v.put ++ numbers x) v.taken in (
        w,
        record {
          good = All-push Good items x h.good good;
          parts = let t = total_set (λ u. u.parts) views port v w at in let p = h.parts in omega arith;
          even = λ y.
              let s = total_set (λ u. times y u.put) views port v w at in
              let t = total_set (λ u. times y u.taken) views port v w at in
              let e = h.even y in
              let a = times_append y v.put (numbers x) in
              let b = times_all numbers y items x in
              omega arith;
          idle = idle_set views port w (λ no_part. absurd (omega arith)) h.idle;
        },
        refl,
      )

  pub takes : (port : ℕ) (v : Hand) → 0 < v.parts → Pops (Holds Good numbers) port v (λ x w. Good x × (w ≡ hand v.parts v.put (v.taken ++ numbers x)))
  takes port v some_part x items views h at =
      let w : Hand = hand v.parts v.put (v.taken ++ numbers x) in (
        w,
        record {
          good = λ k d below. h.good (suc k) d (omega arith);
          parts = let t = total_set (λ u. u.parts) views port v w at in let p = h.parts in omega arith;
          even = λ y.
              let s = total_set (λ u. times y u.put) views port v w at in
              let t = total_set (λ u. times y u.taken) views port v w at in
              let e = h.even y in
              let a = times_append y v.taken (numbers x) in
              let b = times_append y (numbers x) (all_numbers numbers items) in
              omega arith;
          idle = idle_set views port w (λ no_part. absurd (omega arith)) h.idle;
        },
        (h.good 0 x (omega arith), refl),
      )

  pub forks : (port : ℕ) (v : Hand) → 1 < v.parts → Forks (Holds Good numbers) port v (left v) newcomer
  forks port v more_parts items views h at =
      let vs : List Hand = set views port (left v) in
      let total_both : (g : Hand → ℕ) → total g (vs ++ newcomer ∷ []) + g v ≡ total g views + (g (left v) + g newcomer) =
      λ g. let a = total_snoc g vs newcomer in let b = total_set g views port v (left v) at in omega arith in
      record {
        good = h.good;
        parts = let t = total_both (λ u. u.parts) in let p = h.parts in omega arith;
        even = λ y. let s = total_both (λ u. times y u.put) in let t = total_both (λ u. times y u.taken) in let e = h.even y in omega arith;
        idle = idle_snoc vs newcomer (λ no_part. absurd (omega arith)) (idle_set views port (left v) (λ no_part. absurd (omega arith)) h.idle);
      }

  pub merges : (port : ℕ) (v : Hand) (other : ℕ) (w : Hand) → 0 < v.parts → Merges (Holds Good numbers) port v other w (both v w) nobody
  merges port v other w some_part items views h at apart at' =
      let vs : List Hand = set views port (both v w) in
      let total_both : (r : Hand → ℕ) → total r (set vs other nobody) + (r w + r v) ≡ total r views + (r (both v w) + r nobody) =
      λ r. let a = total_set r views port v (both v w) at in let b = total_set r vs other w nobody at' in omega arith in
      record {
        good = h.good;
        parts = let t = total_both (λ u. u.parts) in let p = h.parts in omega arith;
        even = λ y.
            let s = total_both (λ u. times y u.put) in
            let t = total_both (λ u. times y u.taken) in
            let e = h.even y in
            let a = times_append y v.put w.put in
            let b = times_append y v.taken w.taken in
            omega arith;
        idle = idle_set vs other nobody (λ _. (refl, refl)) (idle_set views port (both v w) (λ no_part. absurd (omega arith)) h.idle);
      }

  pub learns : (port : ℕ) (v : Hand) → v.parts ≡ 1024 → Learns (Holds Good numbers) port v (Balanced numbers v)
  learns port v all items views h at x =
      let s = all_mine (λ u. times x u.put) views port v (λ j u there no_part. ap (times x) (h.idle j u there no_part).0) at (h.parts ∙ sym all) in
      let t = all_mine (λ u. times x u.taken) views port v (λ j u there no_part. ap (times x) (h.idle j u there no_part).1) at (h.parts ∙ sym all) in
      let e = h.even x in
      omega arith
