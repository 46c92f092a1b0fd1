-- What a batch returns, given what its lanes left.
use Rattle.std.proofs.Common.{◌≡◌, ℕ, zero, suc, ◌+◌, ◌<◌, ◌≤◌, cond, All, List, [], ◌∷◌, ◌++◌, length, get_or, refl, sym, ap, ◌∙◌, subst, arith, ne_eqb, append-nil, length-append, inl, inr}
use Rattle.std.specs.Prelude.{Some, slice_get}
use Rattle.std.proofs.lemmas.List.{get_or_append_left}
use Rattle.std.proofs.lemmas.Option.{slice_get-get_or, get_or_from_slice_get}
use Rattle.std.proofs.lemmas.List.Elements.{All-contains}
use Rattle.std.proofs.lemmas.Bool.{cases_lt}
use Rattle.journal_core.specs.History.{Begins}
use Rattle.journal_core.specs.Range.{range_of}
use Rattle.journal_core.proofs.Histories.{begins_refl}
use Rattle.ledger_core.specs.Shared.{LedgerId, SeatView, IsSameSeat, seat_view}
use Rattle.crew_core.specs.declared.outcome.Outcome.{Outcome}
use Rattle.crew_core.specs.Batch.{seat_of, of_seat, issues, IsOutcome, AreOutcomes, AreAmong, AreIssued, GoOn}
use Rattle.claim_core.specs.Claims.{times, once_below}
use Rattle.crew_core.specs.Lanes.{BatchView, AreLanes, AreReady, IsDone, IsLaneWorked}
use Rattle.crew_core.specs.Places.{LanePlacesView, AreDrawn, AreInOrder, all_jobs, done_at, done_of}

-- some seat, where the lists have none
no_seat : BatchView → SeatView
no_seat batch = seat_view batch.ledger record { range = range_of 0 0 0; seats = 0 } 0 [] []

-- no outcome names a seat past the lanes
of_none : (place lanes : ℕ) (out : List Outcome) → ((n : ℕ) (o : Outcome) → slice_get out n ≡ Some o → seat_of o < lanes) → lanes ≤ place → of_seat place out ≡ []
of_none place lanes [] among past = refl
of_none place lanes (o ∷ os) among past =
    let first = among zero o refl in
    ap (λ b. cond b (o ∷ of_seat place os) (of_seat place os)) (ne_eqb (seat_of o) place (λ e. absurd (omega arith))) ∙ of_none place lanes os (λ n x at. among (suc n) x at) past

-- after two prefixes of the same length
past_front : (xs ys rest : List SeatView) (i : ℕ) → length ys ≡ length xs → length xs ≤ i → slice_get (ys ++ rest) i ≡ slice_get (xs ++ rest) i
past_front [] [] rest i same past = refl
past_front [] (y ∷ ys) rest i same past = absurd (omega arith)
past_front (x ∷ xs) [] rest i same past = absurd (omega arith)
past_front (x ∷ xs) (y ∷ ys) rest zero same past = absurd (omega arith)
past_front (x ∷ xs) (y ∷ ys) rest (suc i) same past = past_front xs ys rest i (omega arith) (omega arith)

-- within a prefix
in_front : (xs rest : List SeatView) (i : ℕ) (v d : SeatView) → i < length xs → slice_get (xs ++ rest) i ≡ Some v → get_or xs i d ≡ v
in_front xs rest i v d low at = sym (get_or_append_left xs rest d i low) ∙ get_or_from_slice_get (xs ++ rest) i v d at

at_front : (xs rest : List SeatView) (i : ℕ) (d : SeatView) → i < length xs → slice_get (xs ++ rest) i ≡ Some (get_or xs i d)
at_front xs rest i d low = let long = length-append xs rest in slice_get-get_or (xs ++ rest) i d (omega arith) ∙ ap Some (get_or_append_left xs rest d i low)

-- before the first lane starts
pub ready : (batch : BatchView) (lanes room : ℕ) (ledger : LedgerId) (seats used rest : List SeatView)
    (places : List LanePlacesView) → seats ≡ used ++ rest → length used ≡ lanes → length places ≡ lanes → batch.ledger ≡ ledger
    → ((i : ℕ) (seat : SeatView) → slice_get seats i ≡ Some seat → seat.ledger ≡ ledger) → length batch.jobs ≤ room
    → All (λ p. (p.done ≡ []) × (room ≤ p.room)) places → AreReady batch lanes used places
ready batch lanes room ledger seats used rest places parts count places_count same ours few free = record {
  seats_count = count;
  places_count = places_count;
  ours = λ k d inside.
      ours k (get_or used k d) (ap (λ s. slice_get s k) parts ∙ at_front used rest k d inside) ∙ sym same;
  free = λ k d inside. let its = free k d inside in let more = its.1 in (its.0, omega arith);
}

module _ (batch : BatchView) (lanes : ℕ) (used used' : List SeatView) (places : List LanePlacesView)
    (worked : AreLanes batch 0 used used' places) (count : length used ≡ lanes) where
  places_are : length places ≡ lanes
  places_are = worked.places_count ∙ count

  lane_at : (i : ℕ) (d : SeatView) → i < lanes → IsLaneWorked batch i (get_or used i d) (get_or used' i d) (done_at places i)
  lane_at i d below =
      let none : 0 + i ≡ i = omega arith in
      let c = count in
      subst (λ m. IsLaneWorked batch m (get_or used i d) (get_or used' i d) (done_at places i)) none
      (worked.each i d (omega arith))

  pub past : (rest : List SeatView) (i : ℕ) → lanes ≤ i → slice_get (used' ++ rest) i ≡ slice_get (used ++ rest) i
  past rest i behind = past_front used used' rest i worked.seats_count (let c = count in omega arith)

  same_past : (rest : List SeatView) (i : ℕ) (v w : SeatView) → lanes ≤ i → slice_get (used ++ rest) i ≡ Some v
      → slice_get (used' ++ rest) i ≡ Some w → w ≡ v
  same_past rest i v w behind at_v at_w = let e = past rest i behind in cc

  pub drawn : ((x : ℕ) → times x (all_jobs places) ≡ once_below x (length batch.jobs))
      → AreDrawn (length batch.jobs) places
  drawn once = record {
    once = once;
    ascends = λ lane below. let p = places_are in (lane_at lane (no_seat batch) (omega arith)).ascends;
    seat = λ lane below k d inside.
        let p = places_are in
        ((lane_at lane (no_seat batch) (omega arith)).each k d inside).seat;
  }

  module _ (out : List Outcome) (ordered : AreInOrder (length batch.jobs) places out) where
    -- the lane that made an outcome
    made_at : (n : ℕ) (o : Outcome) → slice_get out n ≡ Some o
        → (lane : ℕ) × (lane < lanes) × IsDone batch lane (get_or used' lane (no_seat batch)) (done_of n o)
    made_at n o at =
        let from = ordered.each n o at in
        let below = from.1 in
        let p = places_are in
        let low : from.0 < lanes = omega arith in
        let its = (lane_at from.0 (no_seat batch) low).each in
        let P = IsDone batch from.0 (get_or used' from.0 (no_seat batch)) in
        (from.0, low, All-contains P (done_at places from.0) (done_of n o) its from.2)

    pub outcomes : AreOutcomes batch.key batch.shape batch.jobs out
    outcomes = record {
      count = ordered.count;
      each = λ n job o at_job at_out.
          subst (λ j. IsOutcome batch.key batch.shape j o) (get_or_from_slice_get batch.jobs n job [] at_job)
          (made_at n o at_out).2.outcome;
    }

    below_lanes : (n : ℕ) (o : Outcome) → slice_get out n ≡ Some o → seat_of o < lanes
    below_lanes n o at = let m = made_at n o at in let s = m.2.seat in let b = m.1 in omega arith

    module _ (rest : List SeatView) where
      pub among : AreAmong lanes (used' ++ rest) out
      among n o at =
          let m = made_at n o at in
          let c = count in
          let s = worked.seats_count in
          let b = m.1 in (
            below_lanes n o at,
            (
              get_or used' m.0 (no_seat batch),
              ap (slice_get (used' ++ rest)) m.2.seat ∙ at_front used' rest m.0 (no_seat batch) (omega arith),
              m.2.stands,
            ),
          )

      pub issued : AreIssued (used ++ rest) (used' ++ rest) out
      issued i v w at_v at_w = elim (cases_lt i lanes) [
        | inl low ↦
            let c = count in
            let s = worked.seats_count in
            let d = no_seat batch in
            let made = (lane_at i d low).mine in
            let p = places_are in
            let its = ordered.of i (omega arith) in
            let old = get_or used i d in
            let named = made ∙ ap (λ l. old.mine ++ issues old.number l) (sym its) in
            subst (λ a. w.mine ≡ a.mine ++ issues a.number (of_seat i out)) (in_front used rest i v d (omega arith) at_v)
            (subst (λ b. b.mine ≡ old.mine ++ issues old.number (of_seat i out))
            (in_front used' rest i w d (omega arith) at_w) named)
        | inr high ↦
            ap (λ b. b.mine) (same_past rest i v w high at_v at_w) ∙ sym (append-nil v.mine)
            ∙ ap (λ l. v.mine ++ issues v.number l) (sym (of_none i lanes out below_lanes high))
      ]

  pub go_on : (rest : List SeatView) → GoOn (used ++ rest) (used' ++ rest)
  go_on rest i v w at_v at_w = elim (cases_lt i lanes) [
    | inl low ↦
        let c = count in
        let s = worked.seats_count in
        let d = no_seat batch in
        let made = lane_at i d low in
        subst (λ a. IsSameSeat a w × Begins a.seen w.seen) (in_front used rest i v d (omega arith) at_v)
        (subst (λ b. IsSameSeat (get_or used i d) b × Begins (get_or used i d).seen b.seen)
        (in_front used' rest i w d (omega arith) at_w) (made.same, made.seen))
    | inr high ↦
        subst (λ b. IsSameSeat v b × Begins v.seen b.seen) (sym (same_past rest i v w high at_v at_w))
        (record { ledger = refl; terms = refl; number = refl }, begins_refl v.seen)
  ]
