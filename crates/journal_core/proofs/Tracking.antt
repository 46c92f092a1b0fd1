-- What a running ledger keeps determines what may follow its history, and stays right at each step.
use Rattle.std.proofs.Common.{◌≡◌, ◌≢◌, ◌↔◌, ℕ, ◌+◌, ◌-◌, ◌<◌, ◌≤◌, Bool, true, false, nat_lt, List, [], ◌∷◌, ◌++◌, length, refl, sym, ap, ◌∙◌, subst, arith, eq-eqb, ne_eqb, length-append, length-set, get_or-set_same, get_or-set_other}
use mathlib.Core.Logic.{dite}
use native.Mathlib.Decide.{ℕ_discrete}
use Rattle.std.proofs.lemmas.List.{get_or-replicate}
use Rattle.std.proofs.Math.ListN.{get_or-append}
use Rattle.std.proofs.Math.Seq.{get_or-append_seam}
use Rattle.std.proofs.lemmas.Bool.Decides.{nat_tests}
use Rattle.journal_core.specs.declared.entry.Way.{Way}
use Rattle.journal_core.specs.declared.entry.Way.TheVariants.{Sealed, Void}
use Rattle.journal_core.specs.declared.entry.Event.{Event}
use Rattle.journal_core.specs.declared.entry.Event.TheVariants.{Granted, Exhausted, Settled}
use Rattle.journal_core.specs.declared.entry.Entry.{Entry}
use Rattle.journal_core.specs.declared.entry.Tally.{Tally}
use Rattle.journal_core.specs.declared.standing.Issued.{Issued}
use Rattle.journal_core.specs.History.{Terms, IsLawful, entry, is_granted, is_exhausted, is_sealed, is_void, grants, settles, granted, refused, times_granted, times_settled, calls_of, tally_of, MayFollow, Legal}
use Rattle.journal_core.specs.Standing.{StandingView, issued, number_at, is_closed, fresh, CanReply, CanFollow, IsSmall, tally_after, after, Tracks}
use Rattle.journal_core.proofs.Histories.{MayReply, reply_of, follows}
use Rattle.journal_core.proofs.Bounds.{within, few_refusals}
use Rattle.journal_core.proofs.Owners.{in_range, owned, few_settled, calls_same, calls_other, calls_more, count_same, count_more}

none : (n : ℕ) → nat_lt 0 n ≡ false → n ≡ 0
none n e = grind (arith, nat_tests)

none_is : (n : ℕ) → n ≡ 0 → nat_lt 0 n ≡ false
none_is n e = grind (arith, nat_tests)

some_is : (n : ℕ) → 0 < n → nat_lt 0 n ≡ true
some_is n e = grind (arith, nat_tests)

same_issued : (x : Issued) (seat : ℕ) (settled : Bool) → x.seat ≡ seat → x.settled ≡ settled → x ≡ issued seat settled
same_issued x seat settled p q = λ i. issued (p i) (q i)

pub tracks_none : (terms : Terms) → Tracks (fresh terms) []
tracks_none terms = record {
  tally = refl;
  seats = refl;
  closed = λ seat h. get_or-replicate 64 seat false false h;
  count = refl;
  seat = λ k seat h. absurd (omega arith);
  settled = λ k h. absurd (omega arith);
}

-- what may follow

may_of : (s : StandingView) (h : List Entry) (t : ℕ) (event : Event) → Tracks s h → t < 64 → CanReply s t event → MayReply s.terms h t event
may_of s h t (Granted n) tracks low can =
    (can.1 ∙ ap (λ c. s.terms.range.lo + c) tracks.count, subst (λ c. c < s.terms.range.size) tracks.count can.0, none _ (sym (tracks.closed t low) ∙ can.2))
may_of s h t Exhausted tracks low can = (sym tracks.count ∙ can.0, none _ (sym (tracks.closed t low) ∙ can.1))
may_of s h t (Settled n way) tracks low can =
    let k : ℕ = n - s.terms.range.lo in
    let at : s.terms.range.lo + k ≡ n = omega arith in
    let inside : k < granted h = subst (λ c. k < c) tracks.count can.1 in (
      subst (λ m. 0 < times_granted m (calls_of t h)) at ((tracks.seat k t inside).0 (ap (λ (x : Issued). x.seat) can.2)),
      subst (λ m. times_settled m h ≡ 0) at (none _ (sym (tracks.settled k inside) ∙ ap (λ (x : Issued). x.settled) can.2)),
    )

can_of : (s : StandingView) (h : List Entry) (t : ℕ) (event : Event) → Tracks s h → Legal s.terms h → t < 64 → MayReply s.terms h t event → CanReply s t event
can_of s h t (Granted n) tracks legal low may =
    (subst (λ c. c < s.terms.range.size) (sym tracks.count) may.1, may.0 ∙ ap (λ c. s.terms.range.lo + c) (sym tracks.count), tracks.closed t low ∙ none_is _ may.2)
can_of s h t Exhausted tracks legal low may = (tracks.count ∙ may.0, tracks.closed t low ∙ none_is _ may.1)
can_of s h t (Settled n way) tracks legal low may =
    let range = in_range s.terms h legal t n may.0 in
    let k : ℕ = n - s.terms.range.lo in
    let at : n ≡ s.terms.range.lo + k = omega arith in
    let inside : k < granted h = omega arith in (
      range.0,
      subst (λ c. k < c) (sym tracks.count) inside,
      same_issued (number_at s k) t false ((tracks.seat k t inside).1 (subst (λ m. 0 < times_granted m (calls_of t h)) at may.0))
          (tracks.settled k inside ∙ none_is _ (subst (λ m. times_settled m h ≡ 0) at may.1)),
    )

-- the tests decide what may follow
pub can-may : (s : StandingView) (h : List Entry) (e : Entry) → Tracks s h → IsLawful s.terms → Legal s.terms h → CanFollow s e ↔ MayFollow s.terms h e
can-may s h e tracks lawful legal = (
  (λ can. follows s.terms h e can.0 (may_of s h e.seat e.event tracks (omega arith) can.1)),
  (λ may. let low : e.seat < 64 = omega arith in (may.seat, can_of s h e.seat e.event tracks legal low (reply_of s.terms h e may))),
)

pub small : (s : StandingView) (h : List Entry) → Tracks s h → IsLawful s.terms → Legal s.terms h → IsSmall s.tally
small s h tracks lawful legal =
    let a = within s.terms h legal in
    let b = few_refusals s.terms h legal in
    let c = few_settled s.terms h legal in
    let d = lawful.range.few in
    let f = lawful.few_seats in
    let g = ap (λ (t : Tally). t.granted) tracks.tally in
    let r = ap (λ (t : Tally). t.refused) tracks.tally in
    let x = ap (λ (t : Tally). t.sealed) tracks.tally in
    let v = ap (λ (t : Tally). t.void) tracks.tally in record {
      granted = omega arith;
      refused = omega arith;
      sealed = omega arith;
      void = omega arith;
    }

-- one more operation

tally_same : (a b : Tally) → a.granted ≡ b.granted → a.refused ≡ b.refused → a.sealed ≡ b.sealed → a.void ≡ b.void → a ≡ b
tally_same a b g r x v = λ i. record { granted = g i; refused = r i; sealed = x i; void = v i }

tally_push : (h : List Entry) (t : ℕ) (event : Event) → tally_after (tally_of h) event ≡ tally_of (h ++ entry t event ∷ [])
tally_push h t (Granted n) = let e = entry t (Granted n) in
    tally_same _ _ (sym (count_more is_granted h e refl)) (sym (count_same is_exhausted h e refl)) (sym (count_same is_sealed h e refl)) (sym (count_same is_void h e refl))
tally_push h t Exhausted = let e = entry t Exhausted in
    tally_same _ _ (sym (count_same is_granted h e refl)) (sym (count_more is_exhausted h e refl)) (sym (count_same is_sealed h e refl)) (sym (count_same is_void h e refl))
tally_push h t (Settled n Sealed) = let e = entry t (Settled n Sealed) in
    tally_same _ _ (sym (count_same is_granted h e refl)) (sym (count_same is_exhausted h e refl)) (sym (count_more is_sealed h e refl)) (sym (count_same is_void h e refl))
tally_push h t (Settled n Void) = let e = entry t (Settled n Void) in
    tally_same _ _ (sym (count_same is_granted h e refl)) (sym (count_same is_exhausted h e refl)) (sym (count_same is_sealed h e refl)) (sym (count_more is_void h e refl))

tally_step : (s : StandingView) (h : List Entry) (t : ℕ) (event : Event) → Tracks s h → tally_after s.tally event ≡ tally_of (h ++ entry t event ∷ [])
tally_step s h t event tracks = ap (λ (y : Tally). tally_after y event) tracks.tally ∙ tally_push h t event

-- an entry that isn't a refusal closes no seat
still_closed : (s : StandingView) (h : List Entry) (e : Entry) → Tracks s h → is_exhausted e ≡ false → (seat : ℕ) → seat < 64 → is_closed s seat ≡ nat_lt 0 (refused (calls_of seat (h ++ e ∷ [])))
still_closed s h e tracks is seat low = tracks.closed seat low ∙ ap (nat_lt 0) (sym (calls_same is_exhausted seat h e is))

-- the seat of a number whose grants did not change
still_seat : (s : StandingView) (h : List Entry) (e : Entry) (k seat : ℕ) → Tracks s h → k < granted h → grants (s.terms.range.lo + k) e ≡ false
    → (number_at s k).seat ≡ seat ↔ (0 < times_granted (s.terms.range.lo + k) (calls_of seat (h ++ e ∷ [])))
still_seat s h e k seat tracks inside is =
    subst (λ n. (number_at s k).seat ≡ seat ↔ (0 < n)) (sym (calls_same (grants (s.terms.range.lo + k)) seat h e is)) (tracks.seat k seat inside)

still_settled : (s : StandingView) (h : List Entry) (e : Entry) (k : ℕ) → Tracks s h → k < granted h → settles (s.terms.range.lo + k) e ≡ false
    → (number_at s k).settled ≡ nat_lt 0 (times_settled (s.terms.range.lo + k) (h ++ e ∷ []))
still_settled s h e k tracks inside is = tracks.settled k inside ∙ ap (nat_lt 0) (sym (count_same (settles (s.terms.range.lo + k)) h e is))

granted_seat : (s : StandingView) (h : List Entry) (t n k seat : ℕ) → Tracks s h → Legal s.terms h → n ≡ s.terms.range.lo + granted h → k < granted h + 1
    → (number_at (after s t (Granted n)) k).seat ≡ seat ↔ (0 < times_granted (s.terms.range.lo + k) (calls_of seat (h ++ entry t (Granted n) ∷ [])))
granted_seat s h t n k seat tracks legal is below =
    let e = entry t (Granted n) in
    let lo : ℕ = s.terms.range.lo in
    dite (ℕ_discrete k (granted h))
    (λ (last : k ≡ granted h).
    let at : number_at (after s t (Granted n)) k ≡ issued t false = ap (number_at (after s t (Granted n))) (last ∙ sym tracks.count) ∙ get_or-append_seam s.numbers (issued t false) [] (issued 64 true) in
    let this : lo + k ≡ n = omega arith in
    let passes : grants (lo + k) e ≡ true = eq-eqb (lo + k) n this in (
      (λ same. let c = calls_more (grants (lo + k)) seat h e (ap (λ (x : Issued). x.seat) (sym at) ∙ same) passes in omega arith),
      (λ some. dite (ℕ_discrete t seat)
          (λ same. ap (λ (x : Issued). x.seat) at ∙ same)
          (λ other. let c = calls_other (grants (lo + k)) seat h e other in let r = in_range s.terms h legal seat (lo + k) (omega arith) in absurd (omega arith))),
    ))
    (λ (before : k ≢ granted h).
    let inside : k < granted h = omega arith in
    let old : number_at (after s t (Granted n)) k ≡ number_at s k = get_or-append s.numbers (issued t false ∷ []) (issued 64 true) k (subst (λ c. k < c) (sym tracks.count) inside) in
    subst (λ (x : Issued). x.seat ≡ seat ↔ (0 < times_granted (lo + k) (calls_of seat (h ++ e ∷ [])))) (sym old)
    (still_seat s h e k seat tracks inside (ne_eqb (lo + k) n (λ same. before (omega arith)))))

granted_settled : (s : StandingView) (h : List Entry) (t n k : ℕ) → Tracks s h → Legal s.terms h → n ≡ s.terms.range.lo + granted h → k < granted h + 1
    → (number_at (after s t (Granted n)) k).settled ≡ nat_lt 0 (times_settled (s.terms.range.lo + k) (h ++ entry t (Granted n) ∷ []))
granted_settled s h t n k tracks legal is below =
    let e = entry t (Granted n) in
    let lo : ℕ = s.terms.range.lo in
    dite (ℕ_discrete k (granted h))
    (λ (last : k ≡ granted h).
    let at : number_at (after s t (Granted n)) k ≡ issued t false = ap (number_at (after s t (Granted n))) (last ∙ sym tracks.count) ∙ get_or-append_seam s.numbers (issued t false) [] (issued 64 true) in
    let c = count_same (settles (lo + k)) h e refl in
    let zero_yet : times_settled (lo + k) h ≡ 0 = dite (ℕ_discrete (times_settled (lo + k) h) 0) (λ z. z) (λ z. let b = (owned s.terms h legal).below (lo + k) (omega arith) in absurd (omega arith)) in
    ap (λ (x : Issued). x.settled) at ∙ sym (none_is _ (c ∙ zero_yet)))
    (λ (before : k ≢ granted h).
    let inside : k < granted h = omega arith in
    let old : number_at (after s t (Granted n)) k ≡ number_at s k = get_or-append s.numbers (issued t false ∷ []) (issued 64 true) k (subst (λ c. k < c) (sym tracks.count) inside) in
    ap (λ (x : Issued). x.settled) old ∙ still_settled s h e k tracks inside refl)

closed_after : (s : StandingView) (h : List Entry) (t : ℕ) → Tracks s h → t < 64 → (seat : ℕ) → seat < 64
    → is_closed (after s t Exhausted) seat ≡ nat_lt 0 (refused (calls_of seat (h ++ entry t Exhausted ∷ [])))
closed_after s h t tracks low seat below =
    let e = entry t Exhausted in
    dite (ℕ_discrete seat t)
    (λ (same : seat ≡ t).
    let c = calls_more is_exhausted seat h e (sym same) refl in
    let long : t < length s.closed = subst (λ n. t < n) (sym tracks.seats) low in
    ap (is_closed (after s t Exhausted)) same ∙ get_or-set_same s.closed t true false long ∙ sym (some_is _ (omega arith)))
    (λ (other : seat ≢ t). get_or-set_other s.closed t seat true false other ∙ tracks.closed seat below ∙ ap (nat_lt 0) (sym (calls_other is_exhausted seat h e (λ is. other (sym is)))))

grow : (s : StandingView) (h : List Entry) (t : ℕ) (event : Event) → Tracks s h → IsLawful s.terms → Legal s.terms h → t < s.terms.seats → MayReply s.terms h t event
    → Tracks (after s t event) (h ++ entry t event ∷ [])
grow s h t (Granted n) tracks lawful legal low may =
    let e = entry t (Granted n) in
    let more : granted (h ++ e ∷ []) ≡ granted h + 1 = count_more is_granted h e refl in record {
      tally = tally_step s h t (Granted n) tracks;
      seats = tracks.seats;
      closed = still_closed s h e tracks refl;
      count = length-append s.numbers (issued t false ∷ []) ∙ ap (λ c. c + 1) tracks.count ∙ sym more;
      seat = λ k seat below. granted_seat s h t n k seat tracks legal may.0 (subst (λ c. k < c) more below);
      settled = λ k below. granted_settled s h t n k tracks legal may.0 (subst (λ c. k < c) more below);
    }
grow s h t Exhausted tracks lawful legal low may =
    let e = entry t Exhausted in
    let same : granted (h ++ e ∷ []) ≡ granted h = count_same is_granted h e refl in record {
      tally = tally_step s h t Exhausted tracks;
      seats = length-set s.closed t true ∙ tracks.seats;
      closed = closed_after s h t tracks (omega (arith, lawful.few_seats));
      count = tracks.count ∙ sym same;
      seat = λ k seat below. still_seat s h e k seat tracks (subst (λ c. k < c) same below) refl;
      settled = λ k below. still_settled s h e k tracks (subst (λ c. k < c) same below) refl;
    }
grow s h t (Settled n way) tracks lawful legal low may =
    let e = entry t (Settled n way) in
    let lo : ℕ = s.terms.range.lo in
    let j : ℕ = n - lo in
    let can = can_of s h t (Settled n way) tracks legal (omega (arith, lawful.few_seats)) may in
    let at : lo + j ≡ n = let first : lo ≤ n = can.0 in omega arith in
    let same : granted (h ++ e ∷ []) ≡ granted h = count_same is_granted h e (not_granted way) in record {
      tally = tally_step s h t (Settled n way) tracks;
      seats = tracks.seats;
      closed = still_closed s h e tracks (not_exhausted way);
      count = length-set s.numbers j (issued t true) ∙ tracks.count ∙ sym same;
      seat = λ k seat below.
          let inside : k < granted h = subst (λ c. k < c) same below in
          let kept : (number_at (after s t (Settled n way)) k).seat ≡ (number_at s k).seat =
          dite (ℕ_discrete k j)
          (λ is. ap (λ m. (number_at (after s t (Settled n way)) m).seat) is ∙ ap (λ (x : Issued). x.seat) (get_or-set_same s.numbers j (issued t true) (issued 64 true) can.1)
          ∙ sym (ap (λ m. (number_at s m).seat) is ∙ ap (λ (x : Issued). x.seat) can.2))
          (λ is. ap (λ (x : Issued). x.seat) (get_or-set_other s.numbers j k (issued t true) (issued 64 true) is)) in
          subst (λ m. m ≡ seat ↔ (0 < times_granted (lo + k) (calls_of seat (h ++ e ∷ [])))) (sym kept) (still_seat s h e k seat tracks inside refl);
      settled = λ k below.
          let inside : k < granted h = subst (λ c. k < c) same below in
          dite (ℕ_discrete k j)
          (λ is.
          let this : lo + k ≡ n = ap (λ m. lo + m) is ∙ at in
          let c = count_more (settles (lo + k)) h e (eq-eqb (lo + k) n this) in
          ap (λ m. (number_at (after s t (Settled n way)) m).settled) is ∙ ap (λ (x : Issued). x.settled) (get_or-set_same s.numbers j (issued t true) (issued 64 true) can.1)
          ∙ sym (some_is _ (omega arith)))
          (λ is. ap (λ (x : Issued). x.settled) (get_or-set_other s.numbers j k (issued t true) (issued 64 true) is)
          ∙ still_settled s h e k tracks inside (ne_eqb (lo + k) n (λ this. is (omega arith))));
    }
  where
    not_granted : (w : Way) → is_granted (entry t (Settled n w)) ≡ false
    not_granted w = refl

    not_exhausted : (w : Way) → is_exhausted (entry t (Settled n w)) ≡ false
    not_exhausted w = refl

pub tracks_after : (s : StandingView) (h : List Entry) (e : Entry) → Tracks s h → IsLawful s.terms → Legal s.terms h → MayFollow s.terms h e → Tracks (after s e.seat e.event) (h ++ e ∷ [])
tracks_after s h e tracks lawful legal may = grow s h e.seat e.event tracks lawful legal may.seat (reply_of s.terms h e may)
