-- No prefix is granted twice: the numbers granted rise along a legal history, and a prefix determines its number.
use Rattle.std.proofs.Common.{◌≡◌, ◌≢◌, ◌⊎◌, ℕ, zero, suc, ◌+◌, ◌/◌, ◌%◌, ◌<◌, ◌≤◌, cond, List, [], ◌∷◌, ◌++◌, length, refl, ap, subst, inl, inr, ⊎_elim, arith}
use mathlib.Core.Logic.{dite}
use native.Mathlib.Decide.{dec_le}
use Rattle.std.specs.Prelude.{Some, slice_get}
use Rattle.journal_core.specs.declared.entry.Event.TheVariants.{Granted}
use Rattle.journal_core.specs.declared.entry.Entry.{Entry}
use Rattle.journal_core.specs.Range.{most_device, number_limit, prefix_of}
use Rattle.journal_core.specs.History.{Terms, IsLawful, entry, is_granted, granted, MayFollow, Legal}
use Rattle.journal_core.specs.Prefixes.{GrantsOnce}
use Rattle.journal_core.proofs.Histories.{count_push, induct, reply_of}
use Rattle.journal_core.proofs.Bounds.{within}

-- the entry at an index of a list that is one longer
at_snoc : (l : List Entry) (e x : Entry) (i : ℕ) → slice_get (l ++ e ∷ []) i ≡ Some x → ((slice_get l i ≡ Some x) × (i < length l)) ⊎ ((e ≡ x) × (i ≡ length l))
at_snoc [] e x zero at = inr (cc, refl)
at_snoc [] e x (suc i) at = absurd (cc)
at_snoc (y ∷ ys) e x zero at = inl (at, omega arith)
at_snoc (y ∷ ys) e x (suc i) at =
    ⊎_elim (λ (h : (slice_get ys i ≡ Some x) × (i < length ys)). let a = h.1 in inl (h.0, omega arith)) (λ (h : (e ≡ x) × (i ≡ length ys)). let a = h.1 in inr (h.0, omega arith)) (at_snoc ys e x i at)

-- the numbers granted rise
record AreRising (terms : Terms) (history : List Entry) : Type 0 where
  below : (i n s : ℕ) → slice_get history i ≡ Some (entry s (Granted n)) → (terms.range.lo ≤ n) × (n < terms.range.lo + granted history)
  rising : (i j m n s t : ℕ) → i < j → slice_get history i ≡ Some (entry s (Granted m)) → slice_get history j ≡ Some (entry t (Granted n)) → m < n

next_number : (terms : Terms) (history : List Entry) (e : Entry) (n s : ℕ) → MayFollow terms history e → e ≡ entry s (Granted n) → n ≡ terms.range.lo + granted history
next_number terms history e n s may is = (reply_of terms history (entry s (Granted n)) (subst (MayFollow terms history) is may)).0

grow_rising : (terms : Terms) (history : List Entry) (e : Entry) → MayFollow terms history e → AreRising terms history → AreRising terms (history ++ e ∷ [])
grow_rising terms history e may p = record {
  below = λ i n s at.
      let more = count_push is_granted history e in
      ⊎_elim
      (λ (h : (slice_get history i ≡ Some (entry s (Granted n))) × (i < length history)). let b = p.below i n s h.0 in let lo = b.0 in let hi = b.1 in (lo, omega arith))
      (λ (h : (e ≡ entry s (Granted n)) × (i ≡ length history)).
      let is = next_number terms history e n s may h.0 in
      let one : cond {A = ℕ} (is_granted e) 1 0 ≡ 1 = ap (λ (z : Entry). cond {A = ℕ} (is_granted z) 1 0) h.0 in ((omega arith), (omega arith)))
      (at_snoc history e (entry s (Granted n)) i at);
  rising = λ i j m n s t less ati atj.
      ⊎_elim
      (λ (h : (slice_get history j ≡ Some (entry t (Granted n))) × (j < length history)).
      ⊎_elim
      (λ (g : (slice_get history i ≡ Some (entry s (Granted m))) × (i < length history)). p.rising i j m n s t less g.0 h.0)
      (λ (g : (e ≡ entry s (Granted m)) × (i ≡ length history)). let a = g.1 in let b = h.1 in absurd (omega arith))
      (at_snoc history e (entry s (Granted m)) i ati))
      (λ (h : (e ≡ entry t (Granted n)) × (j ≡ length history)).
      ⊎_elim
      (λ (g : (slice_get history i ≡ Some (entry s (Granted m))) × (i < length history)). let is = next_number terms history e n t may h.0 in let b = (p.below i m s g.0).1 in omega arith)
      (λ (g : (e ≡ entry s (Granted m)) × (i ≡ length history)). let a = g.1 in let b = h.1 in absurd (omega arith))
      (at_snoc history e (entry s (Granted m)) i ati))
      (at_snoc history e (entry t (Granted n)) j atj);
}

are_rising : (terms : Terms) (history : List Entry) → Legal terms history → AreRising terms history
are_rising terms = induct terms (AreRising terms) record { below = λ i n s at. absurd (cc); rising = λ i j m n s t less ati atj. absurd (cc) } (grow_rising terms)

-- a prefix determines its device and its number
pub prefix_tells : (device number other another : ℕ) → device ≤ most_device → number < number_limit
    → other ≤ most_device → another < number_limit
    → prefix_of device number ≡ prefix_of other another → (device ≡ other) × (number ≡ another)
prefix_tells device number other another d n e m same =
    let high : device / 65536 % 256 ≡ other / 65536 % 256 = cc in
    let middle : device / 256 % 256 ≡ other / 256 % 256 = cc in
    let low : device % 256 ≡ other % 256 = cc in
    let first : number / 16777216 % 256 ≡ another / 16777216 % 256 = cc in
    let second : number / 65536 % 256 ≡ another / 65536 % 256 = cc in
    let third : number / 256 % 256 ≡ another / 256 % 256 = cc in
    let last : number % 256 ≡ another % 256 = cc in
    (omega arith, omega arith)

-- all numbers granted are in the range, and none is granted twice
pub record NumbersOnce (terms : Terms) (history : List Entry) : Type 0 where
  pub inside : (i number seat : ℕ) → slice_get history i ≡ Some (entry seat (Granted number))
      → (terms.range.lo ≤ number) × (number < terms.range.lo + terms.range.size)
  pub once : (i j m n s t : ℕ) → i ≢ j → slice_get history i ≡ Some (entry s (Granted m))
      → slice_get history j ≡ Some (entry t (Granted n)) → m ≢ n

pub numbers_once : (terms : Terms) (history : List Entry) → Legal terms history → NumbersOnce terms history
numbers_once terms history legal =
    let r = are_rising terms history legal in
    let w = (within terms history legal).0 in
    record {
      inside = λ i n s at. let b = r.below i n s at in let lo = b.0 in let hi = b.1 in (lo, omega arith);
      once = λ i j m n s t apart ati atj number.
          dite (dec_le i j)
          (λ le. let less = r.rising i j m n s t (omega arith) ati atj in omega arith)
          (λ gt. let less = r.rising j i n m t s (omega arith) atj ati in omega arith);
    }

pub grants_once : (terms : Terms) (history : List Entry) → IsLawful terms → Legal terms history → GrantsOnce terms history
grants_once terms history lawful legal =
    let numbers = numbers_once terms history legal in
    let range = lawful.range in
    let below = λ (i n s : ℕ) (at : slice_get history i ≡ Some (entry s (Granted n))).
    let is = (numbers.inside i n s at).1 in let end : n < number_limit = omega arith in end in
    record {
      inside = numbers.inside;
      once = λ i j m n s t apart ati atj same. numbers.once i j m n s t apart ati atj
          (prefix_tells terms.range.device m terms.range.device n range.device (below i m s ati) range.device (below j n t atj) same).1;
    }
