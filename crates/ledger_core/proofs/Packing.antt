-- The word of a history: its three counts never carry into one another, and it determines the index and the reply of
-- the next entry.
use Rattle.std.proofs.Common.{◌≡◌, ℕ, ◌+◌, ◌/◌, ◌%◌, ◌<◌, min, Bool, true, false, cond, ltb, List, [], ◌∷◌, ◌++◌, length, refl, sym, ap, ◌∙◌, arith, ltb-true, ltb-false, le-ltb}
use Rattle.std.proofs.lemmas.List.Sums.{sum_by-cons}
use Rattle.journal_core.specs.declared.entry.Way.TheVariants.{Sealed, Void}
use Rattle.journal_core.specs.declared.entry.Event.{Event}
use Rattle.journal_core.specs.declared.entry.Event.TheVariants.{Granted, Exhausted, Settled}
use Rattle.journal_core.specs.declared.entry.Entry.{Entry}
use Rattle.journal_core.specs.declared.entry.Tally.{Tally}
use Rattle.journal_core.specs.declared.terms.Terms.{Terms}
use Rattle.journal_core.specs.History.{IsLawful, entry, is_granted, is_exhausted, is_sealed, is_void, granted, refused, sealed, voided, tally_of, Legal}
use Rattle.ledger_core.specs.Rule.{packed, issue_reply}
use Rattle.ledger_core.specs.Logs.{place_of_word}
use Rattle.journal_core.proofs.Histories.{count_push}
use Rattle.journal_core.proofs.Bounds.{within, few_refusals}
use Rattle.journal_core.proofs.Owners.{few_settled}

-- what an event adds to the word
abbrev pub weight : Event → ℕ
weight (Granted n) = 1
weight Exhausted = 1
weight (Settled n Sealed) = 1048576
weight (Settled n Void) = 1099511627776

pub packed_push : (history : List Entry) (t : ℕ) (event : Event) → packed (history ++ entry t event ∷ []) ≡ packed history + weight event
packed_push history t (Granted n) = let e = entry t (Granted n) in omega (arith, count_push is_granted history e, count_push is_exhausted history e, count_push is_sealed history e, count_push is_void history e)
packed_push history t Exhausted = let e = entry t Exhausted in omega (arith, count_push is_granted history e, count_push is_exhausted history e, count_push is_sealed history e, count_push is_void history e)
packed_push history t (Settled n Sealed) = let e = entry t (Settled n Sealed) in omega (arith, count_push is_granted history e, count_push is_exhausted history e, count_push is_sealed history e, count_push is_void history e)
packed_push history t (Settled n Void) = let e = entry t (Settled n Void) in omega (arith, count_push is_granted history e, count_push is_exhausted history e, count_push is_sealed history e, count_push is_void history e)

-- the word determines the counts: issues are at most 65,535 and 64, sealed and void together at most the size of the
-- range, so none carries
pub record Counts (history : List Entry) (n : ℕ) : Type 0 where
  pub issues : n % 1048576 ≡ granted history + refused history
  pub sealed : (n / 1048576) % 1048576 ≡ sealed history
  pub voided : n / 1099511627776 ≡ voided history
  pub small : n < 1152921504606846976

pub counts : (terms : Terms) (history : List Entry) (n : ℕ) → IsLawful terms → Legal terms history → n ≡ packed history → Counts history n
counts terms history n lawful legal is =
    let a = within terms history legal in
    let b = few_refusals terms history legal in
    let c = few_settled terms history legal in
    let d = lawful.range.few in
    let f = lawful.few_seats in
    let g : ℕ = granted history in
    let h : ℕ = refused history in
    let s : ℕ = sealed history in
    let v : ℕ = voided history in
    record {
      issues = omega arith;
      sealed = omega arith;
      voided = omega arith;
      small = omega arith;
    }

-- each entry is counted once
four : (t : ℕ) (event : Event) → cond {A = ℕ} (is_granted (entry t event)) 1 0 + cond {A = ℕ} (is_exhausted (entry t event)) 1 0 + cond {A = ℕ} (is_sealed (entry t event)) 1 0 + cond {A = ℕ} (is_void (entry t event)) 1 0 ≡ 1
four t (Granted n) = refl
four t Exhausted = refl
four t (Settled n Sealed) = refl
four t (Settled n Void) = refl

pub counted : (history : List Entry) → granted history + refused history + sealed history + voided history ≡ length history
counted [] = refl
counted (e ∷ es) =
    let r = counted es in
    let f = four e.seat e.event in
    omega (arith, sum_by-cons (λ y. cond (is_granted y) 1 0) e es, sum_by-cons (λ y. cond (is_exhausted y) 1 0) e es, sum_by-cons (λ y. cond (is_sealed y) 1 0) e es, sum_by-cons (λ y. cond (is_void y) 1 0) e es)

-- the three counts add up to the index of the next entry
pub place_is : (terms : Terms) (history : List Entry) (n : ℕ) → IsLawful terms → Legal terms history → n ≡ packed history → place_of_word n ≡ length history
place_is terms history n lawful legal is = let c = counts terms history n lawful legal is in let l = counted history in let a = c.issues in let b = c.sealed in let d = c.voided in omega arith

-- the low count determines the reply, though it counts refusals too
pub reply_is : (terms : Terms) (history : List Entry) (n : ℕ) → IsLawful terms → Legal terms history → n ≡ packed history → issue_reply terms (n % 1048576) ≡ issue_reply terms (granted history)
reply_is terms history n lawful legal is = ap (issue_reply terms) (counts terms history n lawful legal is).issues ∙ go (ltb (granted history) terms.range.size) refl
  where
    go : (b : Bool) → ltb (granted history) terms.range.size ≡ b → issue_reply terms (granted history + refused history) ≡ issue_reply terms (granted history)
    go true e = let z = (within terms history legal).1 (ltb-true (granted history) terms.range.size e) in ap (issue_reply terms) (omega arith)
    go false e =
        let above = ltb-false (granted history) terms.range.size e in
        ap (λ b. cond b (Granted (terms.range.lo + (granted history + refused history))) Exhausted) (le-ltb (granted history + refused history) terms.range.size (omega arith)) ∙ sym (ap (λ b. cond b (Granted (terms.range.lo + granted history)) Exhausted) e)

-- the counts in the word
pub tally_is : (terms : Terms) (history : List Entry) (n : ℕ) (t : Tally) → IsLawful terms → Legal terms history → n ≡ packed history
    → t.granted + t.refused ≡ n % 1048576 → t.granted ≡ min (n % 1048576) terms.range.size → (t.sealed ≡ (n / 1048576) % 1048576) × (t.void ≡ n / 1099511627776)
    → t ≡ tally_of history
tally_is terms history n t lawful legal is sum few rest =
    let c = counts terms history n lawful legal is in
    let w = within terms history legal in
    let a = c.issues in
    let g : t.granted ≡ granted history = few ∙ ap (λ x. min x terms.range.size) a ∙ go (ltb (granted history) terms.range.size) refl in
    let r : t.refused ≡ refused history = omega arith in
    λ i. record { granted = g i; refused = r i; sealed = (rest.0 ∙ c.sealed) i; void = (rest.1 ∙ c.voided) i }
  where
    go : (b : Bool) → ltb (granted history) terms.range.size ≡ b → min (granted history + refused history) terms.range.size ≡ granted history
    go true e = let z = (within terms history legal).1 (ltb-true (granted history) terms.range.size e) in let y = ltb-true (granted history) terms.range.size e in omega arith
    go false e = let z = (within terms history legal).0 in let y = ltb-false (granted history) terms.range.size e in omega arith
