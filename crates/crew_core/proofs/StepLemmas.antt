-- One job's step at a seat: a number just granted is open there, and later issues leave it open.
use Rattle.std.proofs.Common.{◌≡◌, ◌⊎◌, All, nat_eq, ne_eqb, ℕ, ◌+◌, ◌<◌, ◌≤◌, cond, List, [], ◌∷◌, ◌++◌, length, map, get_or, refl, sym, ap, ◌∙◌, subst, arith, eq-eqb, append_assoc, append-nil, inl, inr}
use mathlib.Core.Logic.{dite}
use native.Mathlib.Decide.{ℕ_discrete}
use Rattle.std.specs.Prelude.{Some, slice_get}
use Rattle.std.specs.List.{flat_map}
use Rattle.std.proofs.lemmas.Grind.{flat_map-append}
use Rattle.std.proofs.lemmas.List.{length_push, map-append, get_or_append_left, get_or_push}
use Rattle.std.proofs.lemmas.List.Sums.{sum_by-append}
use Rattle.std.proofs.lemmas.Option.{slice_get-get_or, slice_get_within, get_or_from_slice_get}
use Rattle.std.proofs.lemmas.Bool.{cases_lt, cases_eq}
use Rattle.std.proofs.lemmas.List.Elements.{All-push}
use Rattle.journal_core.specs.declared.entry.Event.TheVariants.{Granted}
use Rattle.journal_core.specs.declared.entry.Entry.{Entry}
use Rattle.journal_core.specs.declared.terms.Terms.{Terms}
use Rattle.journal_core.specs.History.{Legal, Begins, entry, is_exhausted, grants, settles, refused, times_granted, times_settled, calls_of}
use Rattle.journal_core.proofs.Histories.{legal_front, reply_of, begins_refl, begins_trans}
use Rattle.journal_core.proofs.Owners.{owned, count_calls_le, count_more, count_same}
use Rattle.ledger_core.specs.declared.fault.IssueFault.{IssueFault}
use Rattle.ledger_core.specs.declared.fault.IssueFault.TheVariants.{Exhausted as NoNumber, SeatClosed, OutOfMemory as NoMemory}
use Rattle.ledger_core.specs.Shared.{SeatView, SpentView, Knows, Extends, Holds, IsClosedSeat, IsSameSeat}
use Rattle.container_core.specs.Shape.{ShapeView}
use Rattle.crew_core.specs.declared.outcome.Outcome.{Outcome}
use Rattle.crew_core.specs.declared.outcome.Outcome.TheVariants.{Sealed, Spoiled, Unissued}
use Rattle.crew_core.specs.Batch.{seat_of, issue_of, issues, IsAt, IsFaultAt, IsOutcome}
use Rattle.claim_core.specs.Claims.{times}
use Rattle.claim_core.proofs.Sums.{times_push}
use Rattle.crew_core.specs.declared.places.Done.{Done}
use Rattle.crew_core.specs.Lanes.{BatchView, IsDone, IsLaneStep, IsLaneWorked}
use Rattle.crew_core.specs.Places.{Ascends, done_of, jobs_of, outcomes_of}

-- a number just granted was never settled
open_number : (terms : Terms) (t n : ℕ) (before mine after mine' : List Entry) → Legal terms after → after ≡ before ++ entry t (Granted n) ∷ [] → calls_of t after ≡ mine'
    → mine' ≡ mine ++ entry t (Granted n) ∷ [] → (0 < times_granted n mine') × (times_settled n mine' ≡ 0)
open_number terms t n before mine after mine' legal is own grows =
    let e : Entry = entry t (Granted n) in
    let whole : Legal terms (before ++ e ∷ []) = subst (Legal terms) is legal in
    let reply = reply_of terms before e (whole before e [] refl) in
    let its = owned terms before (legal_front terms before (e ∷ []) whole) in
    let none : times_settled n before ≡ 0 = dite (ℕ_discrete (times_settled n before) 0) (λ z. z) (λ some. let b = its.below n (omega arith) in let r = reply.0 in absurd (omega arith)) in
    let same : times_settled n after ≡ times_settled n before = ap (times_settled n) is ∙ count_same (settles n) before e refl in
    let le : times_settled n mine' ≤ times_settled n after = subst (λ l. times_settled n l ≤ times_settled n after) own (count_calls_le (settles n) t after) in
    let more : times_granted n mine' ≡ times_granted n mine + 1 = ap (times_granted n) grows ∙ count_more (grants n) mine e (eq-eqb n n refl) in
    (omega arith, omega arith)

pub holds_granted : (old new : SeatView) (spent : SpentView) (n : ℕ) → Knows new → IsSameSeat old new → Extends old (Granted n) new → spent.number ≡ n → spent.device ≡ old.terms.range.device → Holds new spent
holds_granted old new spent n knows same extends number device =
    let is = extends.1 in
    let own : calls_of old.number new.seen ≡ new.mine = subst (λ t. calls_of t new.seen ≡ new.mine) same.number knows.own in
    let its = open_number new.terms old.number n (old.seen ++ extends.0) old.mine new.seen new.mine knows.legal (ap (λ v. v.seen) is) own (ap (λ v. v.mine) is) in (
      device ∙ sym (ap (λ t. t.range.device) same.terms),
      subst (λ m. 0 < times_granted m new.mine) (sym number) its.0,
      ap (λ m. times_settled m new.mine) number ∙ its.1,
    )

pub seen_more : (old new : SeatView) (e : Entry) (between : List Entry) → new.seen ≡ (old.seen ++ between) ++ e ∷ [] → Begins old.seen new.seen
seen_more old new e between is = (between ++ e ∷ [], is ∙ append_assoc old.seen between (e ∷ []))

-- an issue settles nothing
settles_none : (n number : ℕ) (o : Outcome) → times_settled n (issues number (o ∷ [])) ≡ 0
settles_none n number (Sealed seat bytes spent) = refl
settles_none n number (Spoiled seat spent) = refl
settles_none n number (Unissued seat NoNumber) = refl
settles_none n number (Unissued seat SeatClosed) = refl
settles_none n number (Unissued seat NoMemory) = refl

closed_keeps : (old new : SeatView) (more : List Entry) → new.mine ≡ old.mine ++ more → IsClosedSeat old → IsClosedSeat new
closed_keeps old new more is at =
    let whole : refused new.mine ≡ refused old.mine + refused more = ap refused is ∙ sum_by-append (λ x. cond (is_exhausted x) 1 0) old.mine more in omega arith

-- what an outcome says of a seat still holds once the seat has made other issues
fault_keeps : (old new : SeatView) (more : List Entry) (fault : IssueFault) → new.mine ≡ old.mine ++ more → IsFaultAt old fault → IsFaultAt new fault
fault_keeps old new more NoNumber is at = closed_keeps old new more is at
fault_keeps old new more SeatClosed is at = closed_keeps old new more is at
fault_keeps old new more NoMemory is at = tt

holds_keeps : (old new : SeatView) (more : List Entry) (spent : SpentView) → IsSameSeat old new → new.mine ≡ old.mine ++ more → times_settled spent.number more ≡ 0
    → Holds old spent → Holds new spent
holds_keeps old new more spent same is none h =
    let n = spent.number in
    let g : times_granted n new.mine ≡ times_granted n old.mine + times_granted n more = ap (times_granted n) is ∙ sum_by-append (λ x. cond (grants n x) 1 0) old.mine more in
    let s : times_settled n new.mine ≡ times_settled n old.mine + times_settled n more = ap (times_settled n) is ∙ sum_by-append (λ x. cond (settles n x) 1 0) old.mine more in
    let some = h.1 in
    let un = h.2 in
    (h.0 ∙ sym (ap (λ t. t.range.device) same.terms), omega arith, omega arith)

pub at_keeps : (key : List ℕ) (shape : ShapeView) (job : List ℕ) (lane : ℕ) (old new : SeatView) (o p : Outcome) → IsLaneStep key shape job lane old new o → IsAt old p → IsAt new p
at_keeps key shape job lane old new o (Sealed seat bytes spent) step at = holds_keeps old new (issues old.number (o ∷ [])) spent step.same step.mine (settles_none spent.number old.number o) at
at_keeps key shape job lane old new o (Spoiled seat spent) step at = holds_keeps old new (issues old.number (o ∷ [])) spent step.same step.mine (settles_none spent.number old.number o) at
at_keeps key shape job lane old new o (Unissued seat fault) step at = fault_keeps old new (issues old.number (o ∷ [])) fault step.mine at

-- the step of a job that got a number
pub step_granted : (key : List ℕ) (shape : ShapeView) (job : List ℕ) (lane : ℕ) (old new : SeatView) (n : ℕ) (o : Outcome) → IsSameSeat old new → Extends old (Granted n) new
    → issue_of o ≡ Granted n ∷ [] → IsOutcome key shape job o → seat_of o ≡ lane → IsAt new o → IsLaneStep key shape job lane old new o
step_granted key shape job lane old new n o same extends named outcome seat at = record {
  outcome = outcome;
  seat = seat;
  stands = at;
  mine = ap (λ v. v.mine) extends.1 ∙ sym (ap (λ es. old.mine ++ map (entry old.number) (es ++ [])) named);
  seen = seen_more old new (entry old.number (Granted n)) extends.0 (ap (λ v. v.seen) extends.1);
  same = same;
}

issues_push : (number : ℕ) (outcomes : List Outcome) (o : Outcome) → issues number (outcomes ++ o ∷ []) ≡ issues number outcomes ++ issues number (o ∷ [])
issues_push number outcomes o = ap (map (entry number)) (flat_map-append issue_of outcomes (o ∷ [])) ∙ map-append (entry number) (flat_map issue_of outcomes) (flat_map issue_of (o ∷ []))

-- an outcome of a list that is one longer
pub at_push : (outcomes : List Outcome) (o x : Outcome) (k : ℕ) → slice_get (outcomes ++ o ∷ []) k ≡ Some x
    → ((slice_get outcomes k ≡ Some x) × (k < length outcomes)) ⊎ ((o ≡ x) × (k ≡ length outcomes))
at_push outcomes o x k at =
    let inside = slice_get_within (outcomes ++ o ∷ []) k x at in
    let long = length_push outcomes o in
    let is : get_or (outcomes ++ o ∷ []) k x ≡ x = get_or_from_slice_get (outcomes ++ o ∷ []) k x x at in
    elim (cases_lt k (length outcomes)) [
      | inl low ↦ inl (slice_get-get_or outcomes k x low ∙ ap Some (sym (get_or_append_left outcomes (o ∷ []) x k low) ∙ is), low)
      | inr high ↦ let here : length outcomes ≡ k = omega arith in inr (sym (get_or_push outcomes o x k here) ∙ is, sym here)
    ]

-- what a lane has done before its first job
pub worked_none : (batch : BatchView) (lane : ℕ) (seat : SeatView) (done : List Done) → done ≡ []
    → IsLaneWorked batch lane seat seat done
worked_none batch lane seat done none = subst (IsLaneWorked batch lane seat seat) (sym none) record {
  each = λ k d below. absurd (omega arith);
  ascends = tt;
  mine = sym (append-nil seat.mine);
  seen = begins_refl seat.seen;
  same = record { ledger = refl; terms = refl; number = refl };
}

-- a number greater than all before it
ascends_push : (xs : List ℕ) (n : ℕ) → Ascends xs → ((x : ℕ) → 0 < times x xs → x < n) → Ascends (xs ++ n ∷ [])
ascends_push [] n up below = ((λ y has. absurd (omega arith)), tt)
ascends_push (x ∷ xs) n up below =
    let one : cond {A = ℕ} (nat_eq x x) 1 0 ≡ 1 = ap (λ b. cond {A = ℕ} b 1 0) (eq-eqb x x refl) in
    let here : 0 < times x (x ∷ xs) = omega arith in (
      (λ y has.
          let both = times_push y xs n in
          elim (cases_lt 0 (times y xs)) [
            | inl old ↦ up.0 y old
            | inr none ↦ elim (cases_eq n y) [
              | inl last ↦ subst (λ m. x < m) last (below x here)
              | inr other ↦
                  let e : cond {A = ℕ} (nat_eq n y) 1 0 ≡ 0 = ap (λ b. cond {A = ℕ} b 1 0) (ne_eqb n y other) in
                  absurd (omega arith)
            ]
          ]),
      ascends_push xs n up.1 (λ y has. below y (omega arith)),
    )

-- a lane has done one more job
pub worked_next : (batch : BatchView) (lane job : ℕ) (old was new : SeatView) (done : List Done) (o : Outcome)
    → IsLaneWorked batch lane old was done → IsLaneStep batch.key batch.shape (get_or batch.jobs job []) lane was new o
    → ((x : ℕ) → 0 < times x (jobs_of done) → x < job) → IsLaneWorked batch lane old new (done ++ done_of job o ∷ [])
worked_next batch lane job old was new done o worked step last = record {
  each =
      let before : All (IsDone batch lane new) done = λ k d below.
      let is = worked.each k d below in
      let its = get_or done k d in
      let stands = at_keeps batch.key batch.shape (get_or batch.jobs job []) lane was new o its.outcome step is.stands in
      record { outcome = is.outcome; seat = is.seat; stands = stands } in
      let this : IsDone batch lane new (done_of job o) =
      record { outcome = step.outcome; seat = step.seat; stands = step.stands } in
      All-push (IsDone batch lane new) done (done_of job o) before this;
  ascends = subst Ascends (sym (map-append (λ (d : Done). d.job) done (done_of job o ∷ [])))
      (ascends_push (jobs_of done) job worked.ascends last);
  mine = step.mine ∙ ap (λ l. l ++ issues was.number (o ∷ [])) worked.mine
      ∙ append_assoc old.mine (issues old.number (outcomes_of done)) (issues was.number (o ∷ []))
      ∙ ap (λ m. old.mine ++ (issues old.number (outcomes_of done) ++ issues m (o ∷ []))) worked.same.number
      ∙ ap (λ l. old.mine ++ l) (sym (issues_push old.number (outcomes_of done) o))
      ∙ ap (λ l. old.mine ++ issues old.number l) (sym (map-append (λ (d : Done). d.outcome) done (done_of job o ∷ [])));
  seen = begins_trans old.seen was.seen new.seen worked.seen step.seen;
  same = record {
    ledger = step.same.ledger ∙ worked.same.ledger;
    terms = step.same.terms ∙ worked.same.terms;
    number = step.same.number ∙ worked.same.number;
  };
}
