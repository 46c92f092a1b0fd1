-- The lanes side by side.
use Rattle.std.proofs.Common.{◌≡◌, ℕ, ◌+◌, ◌-◌, List, ◌++◌, length, get_or, sym, ap, ◌∙◌, subst}
use Rattle.std.proofs.Common.{arith, length-append, inl, inr}
use Rattle.std.proofs.lemmas.List.{get_or_append_left, get_or-append_right}
use Rattle.std.proofs.lemmas.Bool.{cases_lt}
use Rattle.ledger_core.specs.Shared.{SeatView}
use Rattle.claim_core.specs.Claims.{ClaimantView, ClaimsView, joined}
use Rattle.crew_core.specs.Lanes.{BatchView, AreLanes, IsLaneWorked, ended}
use Rattle.crew_core.specs.Places.{LanePlacesView, all_jobs, no_places}
use Rattle.crew_core.proofs.OrderLemmas.{all_jobs-append}

-- lanes, and those after them
pub lanes_joined : (batch : BatchView) (count : ℕ) (old new old' new' : List SeatView)
    (places places' : List LanePlacesView) → length old ≡ count → AreLanes batch 0 old new places → AreLanes batch count old' new' places'
    → AreLanes batch 0 (old ++ old') (new ++ new') (places ++ places')
lanes_joined batch count old new old' new' places places' long one other = record {
  seats_count =
      let a = length-append new new' in
      let b = length-append old old' in
      let c = one.seats_count in
      let d = other.seats_count in
      omega arith;
  places_count =
      let a = length-append places places' in
      let b = length-append old old' in
      let c = one.places_count in
      let d = other.places_count in
      omega arith;
  each = λ i d below.
      let b = length-append old old' in
      let s = one.seats_count in
      let p = one.places_count in
      elim (cases_lt i (length old)) [
        | inl low ↦ rw (get_or_append_left old old' d i low, get_or_append_left new new' d i (omega arith))
            (subst (λ (q : LanePlacesView). IsLaneWorked batch (0 + i) (get_or old i d) (get_or new i d) q.done)
            (sym (get_or_append_left places places' no_places i (omega arith)))
            (one.each i d low))
        | inr high ↦
            let at : 0 + i ≡ count + (i - count) = omega arith in
            let olds = get_or-append_right old old' count i d long (omega arith) in
            let news = get_or-append_right new new' count i d (omega arith) (omega arith) in
            let P : LanePlacesView → Type 0 =
            λ q. IsLaneWorked batch (count + (i - count)) (get_or old' (i - count) d) (get_or new' (i - count) d) q.done in
            rw (olds, news, at)
            (subst P
            (sym (get_or-append_right places places' count i no_places (omega arith) (omega arith)))
            (other.each (i - count) d (omega arith)))
      ];
}

-- their claimants as one
pub ended_joined : (claims : ClaimsView) (last lanes : ℕ) (all ours theirs : ClaimantView)
    (places place : List LanePlacesView) → all ≡ joined ours theirs → ours ≡ ended claims last (all_jobs places) → theirs ≡ ended claims 1 (all_jobs place)
    → last + 1 ≡ lanes → all ≡ ended claims lanes (all_jobs (places ++ place))
ended_joined claims last lanes all ours theirs places place both first second count =
    both ∙ ap (λ v. joined v theirs) first ∙ ap (joined (ended claims last (all_jobs places))) second
    ∙ ap (ended claims (last + 1)) (sym (all_jobs-append places place))
    ∙ ap (λ n. ended claims n (all_jobs (places ++ place))) count
