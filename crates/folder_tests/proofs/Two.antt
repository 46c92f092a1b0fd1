-- What is known of the record in the tests of one and of two outputs.
use Rattle.std.proofs.Common.{◌≡◌, ◌∙◌, ℕ, List, Option, None, Some, refl, sym, subst, ap, length, arith}
use Rattle.std.specs.Prelude.{IfSome}
use Rattle.container_core.specs.Shape.{ShapeView, one}
use Rattle.journal_core.specs.Range.{range_of}
use Rattle.folder_core.specs.Record.{Container, Content, Created, Finished, RunRecord, State}
use Rattle.folder_core.specs.Changes.{Becomes, Closes, MayHold, allowed, closed, new_output, with_entry}
use Rattle.folder_tests.specs.Memory.{fresh}

abbrev pub IsThis : RunRecord → Option RunRecord → Type 0
IsThis r rest = IfSome rest (λ x. x ≡ r)

pub then_this : (f : RunRecord → RunRecord) (before after : Option RunRecord) (r : RunRecord) → IsThis r before
    → Becomes f before after → IsThis (f r) after
then_this f before None r is becomes = tt
then_this f before (Some x) r is (was, known, changed) =
    let same : was ≡ r = subst (IsThis r) known is in
    subst (λ y. y ≡ f r) (sym changed) (ap f same)

pub closes_this : (state : State) (before after : Option RunRecord) (taken : Option (List ℕ)) (failures : Option ℕ) (r : RunRecord) → IsThis r before
    → Closes state before taken failures after → IfSome after (λ x. (bytes : List ℕ) × (n : ℕ) × (x ≡ closed state bytes n r))
closes_this state before None taken failures r is closes = tt
closes_this state before (Some x) taken failures r is (was, bytes, n, known, had, count, changed) =
    let same : was ≡ r = subst (IsThis r) known is in
    (bytes, n, subst (λ y. y ≡ closed state bytes n r) (sym changed) (ap (closed state bytes n) same))

-- a fact that was known as long as the record was
pub still : (P : Type 0) (f : RunRecord → RunRecord) (before after : Option RunRecord) → IfSome before (λ _. P)
    → Becomes f before after → IfSome after (λ _. P)
still P f before None p becomes = tt
still P f before (Some x) p (was, known, changed) = subst (λ b. IfSome b (λ _. P)) known p

pub closes_still : (P : Type 0) (state : State) (before after : Option RunRecord) (taken : Option (List ℕ)) (failures : Option ℕ) → IfSome before (λ _. P)
    → Closes state before taken failures after → IfSome after (λ _. P)
closes_still P state before None taken failures p closes = tt
closes_still P state before (Some x) taken failures p (was, bytes, n, known, had, count, changed) = subst (λ b. IfSome b (λ _. P)) known p

pub place_this : (rest : Option RunRecord) (r : RunRecord) (place : ℕ) → IsThis r rest → IfSome rest (λ was. place ≡ length was.entries)
    → IfSome rest (λ _. place ≡ length r.entries)
place_this None r place is at = tt
place_this (Some x) r place is at = subst (λ y. place ≡ length y.entries) is at

pub may_this : (rest : Option RunRecord) (r : RunRecord) (place n : ℕ) (content : Content) → IsThis r rest
    → IfSome rest (λ _. place ≡ n) → MayHold n content r → IfSome rest (MayHold place content)
may_this None r place n content is at may = tt
may_this (Some x) r place n content is at may =
    subst (λ p. MayHold p content x) (sym at) (subst (MayHold n content) (sym is) may)

pub may_those : (rest : Option RunRecord) (make : List ℕ → ℕ → RunRecord) (place n : ℕ) (content : Content)
    → IfSome rest (λ x. (bytes : List ℕ) × (m : ℕ) × (x ≡ make bytes m)) → IfSome rest (λ _. place ≡ n)
    → ((bytes : List ℕ) (m : ℕ) → MayHold n content (make bytes m)) → IfSome rest (MayHold place content)
may_those None make place n content is at may = tt
may_those (Some x) make place n content (bytes, m, is) at may =
    subst (λ p. MayHold p content x) (sym at) (subst (MayHold n content) (sym is) (may bytes m))

-- ---- the records of this test

abbrev pub both : List ℕ → List ℕ → List ℕ → RunRecord
both key a b = with_entry (Created (new_output b)) (with_entry (Created (new_output a)) (fresh key (range_of 1 3 3)))

pub may_first : (key a b : List ℕ) → MayHold 0 (Container 3 one) (both key a b)
may_first key a b = record {
  new = record { name = a; idle = refl; there = refl };
  allowed = (refl, (omega arith, omega arith));
  free = refl;
}

pub may_second : (key a b bytes : List ℕ) (n : ℕ) → MayHold 1 (Container 4 one) (closed Finished bytes n (allowed 0 (Container 3 one) (both key a b)))
may_second key a b bytes n = record {
  new = record { name = b; idle = refl; there = refl };
  allowed = (refl, (omega arith, omega arith));
  free = refl;
}

-- ---- what the test shows before each call

two_this : (key a b : List ℕ) (r0 r1 r2 : Option RunRecord) → r0 ≡ Some (fresh key (range_of 1 3 3))
    → Becomes (with_entry (Created (new_output a))) r0 r1 → Becomes (with_entry (Created (new_output b))) r1 r2
    → IsThis (both key a b) r2
two_this key a b r0 r1 r2 start first second =
    then_this (with_entry (Created (new_output b))) r1 r2 (with_entry (Created (new_output a)) (fresh key (range_of 1 3 3)))
    (then_this (with_entry (Created (new_output a))) r0 r1 (fresh key (range_of 1 3 3))
    (subst (IsThis (fresh key (range_of 1 3 3))) (sym start) refl) first) second

first_at : (key a b : List ℕ) (r0 r1 r2 : Option RunRecord) (place : ℕ) → r0 ≡ Some (fresh key (range_of 1 3 3))
    → Becomes (with_entry (Created (new_output a))) r0 r1 → IfSome r0 (λ was. place ≡ length was.entries)
    → Becomes (with_entry (Created (new_output b))) r1 r2 → IfSome r2 (λ _. place ≡ 0)
first_at key a b r0 r1 r2 place start first at second =
    still (place ≡ 0) (with_entry (Created (new_output b))) r1 r2
    (still (place ≡ 0) (with_entry (Created (new_output a))) r0 r1
    (place_this r0 (fresh key (range_of 1 3 3)) place (subst (IsThis (fresh key (range_of 1 3 3))) (sym start) refl) at) first) second

pub first_may : (key a b : List ℕ) (r0 r1 r2 : Option RunRecord) (place : ℕ) (s : ShapeView) → r0 ≡ Some (fresh key (range_of 1 3 3))
    → Becomes (with_entry (Created (new_output a))) r0 r1 → IfSome r0 (λ was. place ≡ length was.entries)
    → Becomes (with_entry (Created (new_output b))) r1 r2 → s ≡ one → IfSome r2 (MayHold place (Container 3 s))
first_may key a b r0 r1 r2 place s start first at second shape =
    subst (λ x. IfSome r2 (MayHold place (Container 3 x))) (sym shape)
    (may_this r2 (both key a b) place 0 (Container 3 one) (two_this key a b r0 r1 r2 start first second)
    (first_at key a b r0 r1 r2 place start first at second) (may_first key a b))

-- where it is the only one
pub one_may : (key a : List ℕ) (r0 r1 : Option RunRecord) (place : ℕ) (s : ShapeView) → r0 ≡ Some (fresh key (range_of 1 3 3))
    → Becomes (with_entry (Created (new_output a))) r0 r1 → IfSome r0 (λ was. place ≡ length was.entries) → s ≡ one
    → IfSome r1 (MayHold place (Container 3 s))
one_may key a r0 r1 place s start first at shape =
    let begun : IsThis (fresh key (range_of 1 3 3)) r0 = subst (IsThis (fresh key (range_of 1 3 3))) (sym start) refl in
    subst (λ x. IfSome r1 (MayHold place (Container 3 x))) (sym shape)
    (may_this r1 (with_entry (Created (new_output a)) (fresh key (range_of 1 3 3))) place 0 (Container 3 one)
    (then_this (with_entry (Created (new_output a))) r0 r1 (fresh key (range_of 1 3 3)) begun first)
    (still (place ≡ 0) (with_entry (Created (new_output a))) r0 r1 (place_this r0 (fresh key (range_of 1 3 3)) place begun at) first)
    (record {
      new = record { name = a; idle = refl; there = refl };
      allowed = (refl, (omega arith, omega arith));
      free = refl;
    }))

hand_this : (key a b : List ℕ) (r0 r1 r2 r3 : Option RunRecord) (place : ℕ) (s : ShapeView) → r0 ≡ Some (fresh key (range_of 1 3 3))
    → Becomes (with_entry (Created (new_output a))) r0 r1 → IfSome r0 (λ was. place ≡ length was.entries)
    → Becomes (with_entry (Created (new_output b))) r1 r2 → s ≡ one → Becomes (allowed place (Container 3 s)) r2 r3
    → IsThis (allowed 0 (Container 3 one) (both key a b)) r3
hand_this key a b r0 r1 r2 None place s start first at second shape taken = tt
hand_this key a b r0 r1 r2 (Some x) place s start first at second shape taken =
    let (was, known, is) = taken in
    let same : was ≡ both key a b = subst (IsThis (both key a b)) known (two_this key a b r0 r1 r2 start first second) in
    let here : place ≡ 0 = subst (λ r. IfSome r (λ _. place ≡ 0)) known (first_at key a b r0 r1 r2 place start first at second) in
    is ∙ ap (λ w. allowed place (Container 3 s) w) same ∙ ap (λ p. allowed p (Container 3 s) (both key a b)) here
    ∙ ap (λ z. allowed 0 (Container 3 z) (both key a b)) shape

pub second_may : (key a b : List ℕ) (r0 r1 r2 r3 r4 r5 : Option RunRecord) (taken : Option (List ℕ)) (failures : Option ℕ) (place other : ℕ) (s : ShapeView)
    → r0 ≡ Some (fresh key (range_of 1 3 3))
    → Becomes (with_entry (Created (new_output a))) r0 r1 → IfSome r0 (λ was. place ≡ length was.entries)
    → Becomes (with_entry (Created (new_output b))) r1 r2 → IfSome r1 (λ was. other ≡ length was.entries)
    → s ≡ one → Becomes (allowed place (Container 3 s)) r2 r3 → r4 ≡ r3 → Closes Finished r4 taken failures r5
    → IfSome r5 (MayHold other (Container 4 s))
second_may key a b r0 r1 r2 r3 r4 r5 taken failures place other s start first at second also shape hand same closes =
    let this = hand_this key a b r0 r1 r2 r3 place s start first at second shape hand in
    let there : IfSome r1 (λ _. other ≡ 1) =
    place_this r1 (with_entry (Created (new_output a)) (fresh key (range_of 1 3 3))) other
    (then_this (with_entry (Created (new_output a))) r0 r1 (fresh key (range_of 1 3 3))
    (subst (IsThis (fresh key (range_of 1 3 3))) (sym start) refl) first) also in
    let later : IfSome r3 (λ _. other ≡ 1) =
    still (other ≡ 1) (allowed place (Container 3 s)) r2 r3
    (still (other ≡ 1) (with_entry (Created (new_output b))) r1 r2 there second) hand in
    subst (λ x. IfSome r5 (MayHold other (Container 4 x))) (sym shape)
    (may_those r5 (λ bytes n. closed Finished bytes n (allowed 0 (Container 3 one) (both key a b))) other 1 (Container 4 one)
    (closes_this Finished r4 r5 taken failures (allowed 0 (Container 3 one) (both key a b)) (subst (IsThis _) (sym same) this) closes)
    (closes_still (other ≡ 1) Finished r4 r5 taken failures (subst (λ r. IfSome r (λ _. other ≡ 1)) (sym same) later) closes)
    (may_second key a b))
