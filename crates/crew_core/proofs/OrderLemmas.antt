-- What all lanes have done, put in the order of the jobs.
-- So far the jobs below some number are in order, and each job from there on is left with one lane. A lane's jobs
-- ascend, so the one that has the next job left has it first: a smaller one before it would be in order already.
use Rattle.std.proofs.Common.{◌≡◌, ◌≢◌, ℕ, zero, suc, ◌+◌, ◌<◌, ◌≤◌, cond, nat_eq, List, [], ◌∷◌, ◌++◌, length}
use Rattle.std.proofs.Common.{get_or, set, Contains, refl, sym, ap, ◌∙◌, subst, arith, eq-eqb, ne_eqb, inl, inr}
use Rattle.std.proofs.Common.{append_assoc, append-nil, length-set}
use mathlib.Core.Logic.{dite}
use native.Mathlib.Decide.{ℕ_discrete}
use Rattle.std.specs.Prelude.{Some, slice_get}
use Rattle.std.proofs.lemmas.List.{length_push, map-append, get_or-set_same, get_or-set_other}
use Rattle.std.proofs.lemmas.List.Elements.{filter-append, All-contains, Contains-append_right}
use Rattle.std.proofs.lemmas.Bool.{cases_lt, cases_eq, lt-ltb, le-ltb}
use Rattle.claim_core.specs.Claims.{times, once_below}
use Rattle.claim_core.proofs.Sums.{times_append, once_more}
use Rattle.crew_core.specs.declared.outcome.Outcome.{Outcome}
use Rattle.crew_core.specs.declared.places.Done.{Done}
use Rattle.crew_core.specs.Batch.{seat_of, of_seat}
use Rattle.crew_core.specs.Places.{LanePlacesView, Ascends, AreDrawn, AreInOrder, BeginsWith, IsFrom, all_jobs, done_at}
use Rattle.crew_core.specs.Places.{done_of, jobs_of, no_places, outcomes_of}
use Rattle.crew_core.proofs.StepLemmas.{at_push}

once_in : (x n : ℕ) → x < n → once_below x n ≡ 1
once_in x n low = ap (λ b. cond {A = ℕ} b 1 0) (lt-ltb x n low)

once_out : (x n : ℕ) → n ≤ x → once_below x n ≡ 0
once_out x n high = ap (λ b. cond {A = ℕ} b 1 0) (le-ltb x n high)

once_most : (x n : ℕ) → once_below x n ≤ 1
once_most x n = elim (cases_lt x n) [
  | inl low ↦ let o = once_in x n low in omega arith
  | inr high ↦ let o = once_out x n high in omega arith
]

times_same : (x y : ℕ) (ys : List ℕ) → y ≡ x → times x (y ∷ ys) ≡ times x ys + 1
times_same x y ys same =
    let e : cond {A = ℕ} (nat_eq y x) 1 0 ≡ 1 = ap (λ b. cond {A = ℕ} b 1 0) (eq-eqb y x same) in
    omega arith

times_other : (x y : ℕ) (ys : List ℕ) → y ≢ x → times x (y ∷ ys) ≡ times x ys
times_other x y ys other =
    let e : cond {A = ℕ} (nat_eq y x) 1 0 ≡ 0 = ap (λ b. cond {A = ℕ} b 1 0) (ne_eqb y x other) in
    omega arith

-- the jobs of all lanes

pub all_jobs-append : (ps qs : List LanePlacesView) → all_jobs (ps ++ qs) ≡ all_jobs ps ++ all_jobs qs
all_jobs-append [] qs = refl
all_jobs-append (p ∷ ps) qs =
    ap (λ l. jobs_of p.done ++ l) (all_jobs-append ps qs)
    ∙ sym (append_assoc (jobs_of p.done) (all_jobs ps) (all_jobs qs))

pub all_jobs-one : (ps : List LanePlacesView) (p : LanePlacesView) → length ps ≡ 1 → all_jobs (set ps 0 p) ≡ jobs_of p.done
all_jobs-one [] p one = absurd (omega arith)
all_jobs-one (q ∷ []) p one = append-nil (jobs_of p.done)
all_jobs-one (q ∷ (r ∷ ps)) p one = absurd (omega arith)

-- a job that is among them is with some lane
some_lane : (x : ℕ) (ps : List LanePlacesView) → 0 < times x (all_jobs ps)
    → (lane : ℕ) × (lane < length ps) × (0 < times x (jobs_of (done_at ps lane)))
some_lane x [] has = absurd (omega arith)
some_lane x (p ∷ ps) has =
    let both = times_append x (jobs_of p.done) (all_jobs ps) in
    elim (cases_lt 0 (times x (jobs_of p.done))) [
      | inl here ↦ (0, omega arith, here)
      | inr none_here ↦
          let there = some_lane x ps (omega arith) in
          let below = there.1 in
          (suc there.0, omega arith, there.2)
    ]

at_most : (x : ℕ) (ps : List LanePlacesView) (lane : ℕ) → lane < length ps
    → times x (jobs_of (done_at ps lane)) ≤ times x (all_jobs ps)
at_most x [] lane below = absurd (omega arith)
at_most x (p ∷ ps) zero below = let both = times_append x (jobs_of p.done) (all_jobs ps) in omega arith
at_most x (p ∷ ps) (suc lane) below =
    let both = times_append x (jobs_of p.done) (all_jobs ps) in
    let there = at_most x ps lane (omega arith) in
    omega arith

times_set : (x : ℕ) (ps : List LanePlacesView) (lane : ℕ) (after : LanePlacesView) → lane < length ps
    → times x (all_jobs (set ps lane after)) + times x (jobs_of (done_at ps lane))
    ≡ times x (all_jobs ps) + times x (jobs_of after.done)
times_set x [] lane after below = absurd (omega arith)
times_set x (p ∷ ps) zero after below =
    let old = times_append x (jobs_of p.done) (all_jobs ps) in
    let new = times_append x (jobs_of after.done) (all_jobs ps) in
    omega arith
times_set x (p ∷ ps) (suc lane) after below =
    let old = times_append x (jobs_of p.done) (all_jobs ps) in
    let new = times_append x (jobs_of p.done) (all_jobs (set ps lane after)) in
    let there = times_set x ps lane after (omega arith) in
    omega arith

-- where no smaller job is left, the next one is first
first_is : (n : ℕ) (done : List Done) → 0 < times n (jobs_of done) → Ascends (jobs_of done)
    → ((x : ℕ) → x < n → times x (jobs_of done) ≡ 0) → BeginsWith n done
first_is n [] has up smaller = absurd (omega arith)
first_is n (d ∷ ds) has up smaller = elim (cases_eq d.job n) [
  | inl same ↦ same
  | inr other ↦
      let behind = times_other n d.job (jobs_of ds) other in
      let low = up.0 n (omega arith) in
      let here = times_same d.job d.job (jobs_of ds) refl in
      let nothing = smaller d.job low in
      absurd (omega arith)
]

nothing_left : (done : List Done) → ((x : ℕ) → times x (jobs_of done) ≡ 0) → done ≡ []
nothing_left [] nothing = refl
nothing_left (d ∷ ds) nothing =
    let here = times_same d.job d.job (jobs_of ds) refl in
    let is = nothing d.job in
    absurd (omega arith)

-- of what a lane did, a part is in order, and the rest is left
abbrev pub IsTaken : ℕ → List Outcome → List Done → List Done → Type 0
IsTaken lane out all left = (taken : List Done) × (all ≡ taken ++ left) × (of_seat lane out ≡ outcomes_of taken)

-- the jobs below this one are in order
pub record IsOrdering (jobs job : ℕ) (whole left : List LanePlacesView) (out : List Outcome) : Type 0 where
  pub places_count : length left ≡ length whole
  pub count : length out ≡ job
  pub each : (n : ℕ) (o : Outcome) → slice_get out n ≡ Some o → IsFrom whole n o
  pub of : (lane : ℕ) → lane < length whole → IsTaken lane out (done_at whole lane) (done_at left lane)
  pub ascends : (lane : ℕ) → lane < length whole → Ascends (jobs_of (done_at left lane))
  pub still : (x : ℕ) → times x (all_jobs left) + once_below x job ≡ once_below x jobs

pub ordering_none : (jobs : ℕ) (whole : List LanePlacesView) (out : List Outcome) → out ≡ [] → AreDrawn jobs whole
    → IsOrdering jobs 0 whole whole out
ordering_none jobs whole out nothing drawn = subst (IsOrdering jobs 0 whole whole) (sym nothing) record {
  places_count = refl;
  count = refl;
  each = λ n o at. absurd (cc);
  of = λ lane below. ([], refl, refl);
  ascends = drawn.ascends;
  still = λ x. let once = drawn.once x in let zero_below = once_out x 0 (omega arith) in omega arith;
}

-- some lane has the next job left, and has it first
pub next_lane : (jobs job : ℕ) (whole left : List LanePlacesView) (out : List Outcome) → job < jobs
    → IsOrdering jobs job whole left out → (lane : ℕ) × (lane < length left) × BeginsWith job (done_at left lane)
next_lane jobs job whole left out inside w =
    let is = w.still job in
    let one = once_in job jobs inside in
    let not_yet = once_out job job (omega arith) in
    let has = some_lane job left (omega arith) in
    let below = has.1 in
    let count = w.places_count in (
      has.0,
      below,
      first_is job (done_at left has.0) has.2 (w.ascends has.0 (omega arith)) (λ x low.
          let rest = w.still x in
          let done = once_in x job low in
          let most = once_most x jobs in
          let part = at_most x left has.0 below in
          omega arith),
    )

-- what one more outcome adds to those of a seat
of_seat_same : (lane : ℕ) (out : List Outcome) (o : Outcome) → seat_of o ≡ lane
    → of_seat lane (out ++ o ∷ []) ≡ of_seat lane out ++ o ∷ []
of_seat_same lane out o is =
    filter-append (λ x. nat_eq (seat_of x) lane) out (o ∷ [])
    ∙ ap (λ b. of_seat lane out ++ cond b (o ∷ []) []) (eq-eqb (seat_of o) lane is)

of_seat_other : (lane : ℕ) (out : List Outcome) (o : Outcome) → seat_of o ≢ lane
    → of_seat lane (out ++ o ∷ []) ≡ of_seat lane out
of_seat_other lane out o other =
    filter-append (λ x. nat_eq (seat_of x) lane) out (o ∷ [])
    ∙ ap (λ b. of_seat lane out ++ cond b (o ∷ []) []) (ne_eqb (seat_of o) lane other)
    ∙ append-nil (of_seat lane out)

-- one more job
module _ (jobs job lane : ℕ) (whole left left' : List LanePlacesView) (out : List Outcome) (o : Outcome)
    (after : LanePlacesView) (drawn : AreDrawn jobs whole) (w : IsOrdering jobs job whole left out) (below : lane < length left)
    (is : left' ≡ set left lane after) (taken : done_at left lane ≡ done_of job o ∷ after.done) where
  inside : lane < length whole
  inside = let p = w.places_count in let b = below in omega arith

  -- what the lane did: the part in order, this job, and the rest
  split : done_at whole lane ≡ (w.of lane inside).0 ++ done_of job o ∷ after.done
  split = (w.of lane inside).1 ∙ ap (λ l. (w.of lane inside).0 ++ l) taken

  has : Contains (done_at whole lane) (done_of job o)
  has =
      let first : Contains (done_of job o ∷ after.done) (done_of job o) = (0, omega arith, refl) in
      subst (λ l. Contains l (done_of job o)) (sym split)
      (Contains-append_right (w.of lane inside).0 (done_of job o ∷ after.done) (done_of job o) first)

  seat : seat_of o ≡ lane
  seat = All-contains (λ d. seat_of d.outcome ≡ lane) (done_at whole lane) (done_of job o) (drawn.seat lane inside) has

  left_here : done_at left' lane ≡ after.done
  left_here =
      ap (λ (p : LanePlacesView). p.done)
      (ap (λ l. get_or l lane no_places) is ∙ get_or-set_same left lane after no_places below)

  left_there : (i : ℕ) → i ≢ lane → done_at left' i ≡ done_at left i
  left_there i other =
      ap (λ (p : LanePlacesView). p.done)
      (ap (λ l. get_or l i no_places) is ∙ get_or-set_other left lane i after no_places other)

  of_here : IsTaken lane (out ++ o ∷ []) (done_at whole lane) (done_at left' lane)
  of_here =
      let front = w.of lane inside in (
        front.0 ++ done_of job o ∷ [],
        split ∙ sym (append_assoc front.0 (done_of job o ∷ []) after.done)
            ∙ ap (λ l. (front.0 ++ done_of job o ∷ []) ++ l) (sym left_here),
        of_seat_same lane out o seat ∙ ap (λ l. l ++ o ∷ []) front.2
            ∙ sym (map-append (λ (d : Done). d.outcome) front.0 (done_of job o ∷ [])),
      )

  of_there : (i : ℕ) → i < length whole → i ≢ lane → IsTaken i (out ++ o ∷ []) (done_at whole i) (done_at left' i)
  of_there i under other =
      let front = w.of i under in (
        front.0,
        front.1 ∙ ap (λ l. front.0 ++ l) (sym (left_there i other)),
        of_seat_other i out o (λ s. other (sym s ∙ seat)) ∙ front.2,
      )

  pub ordering_next : IsOrdering jobs (job + 1) whole left' (out ++ o ∷ [])
  ordering_next = record {
    places_count = ap length is ∙ length-set left lane after ∙ w.places_count;
    count = length_push out o ∙ ap (λ m. m + 1) w.count;
    each = λ n x at. elim (at_push out o x n at) [
      | inl before ↦ w.each n x before.0
      | inr here ↦
          subst (λ y. IsFrom whole n y) here.0
          (subst (λ m. IsFrom whole m o) (sym (here.1 ∙ w.count)) (lane, inside, has))
    ];
    of = λ i under. dite (ℕ_discrete i lane)
        (λ same. subst (λ j. IsTaken j (out ++ o ∷ []) (done_at whole j) (done_at left' j)) (sym same) of_here)
        (λ other. of_there i under other);
    ascends = λ i under. dite (ℕ_discrete i lane)
        (λ same.
        let was = subst (λ l. Ascends (jobs_of l)) taken (w.ascends lane inside) in
        let is = subst (λ l. Ascends (jobs_of l)) (sym left_here) was.1 in
        subst (λ j. Ascends (jobs_of (done_at left' j))) (sym same) is)
        (λ other. subst (λ l. Ascends (jobs_of l)) (sym (left_there i other)) (w.ascends i under));
    still = λ x.
        let one : times x (all_jobs left') ≡ times x (all_jobs (set left lane after)) =
        ap (λ l. times x (all_jobs l)) is in
        let moved = times_set x left lane after below in
        let gone : times x (jobs_of (done_at left lane))
        ≡ cond {A = ℕ} (nat_eq job x) 1 0 + times x (jobs_of after.done) =
        ap (λ l. times x (jobs_of l)) taken in
        let was = w.still x in
        let more = once_more x job in
        omega arith;
  }

-- all jobs are in order
pub in_order : (jobs : ℕ) (whole left : List LanePlacesView) (out : List Outcome) → IsOrdering jobs jobs whole left out
    → AreInOrder jobs whole out
in_order jobs whole left out w = record {
  count = w.count;
  each = w.each;
  of = λ lane below.
      let part = w.of lane below in
      let count = w.places_count in
      let nothing = nothing_left (done_at left lane) (λ x.
      let is = w.still x in
      let part = at_most x left lane (omega arith) in
      omega arith) in
      part.2 ∙ ap outcomes_of (sym (part.1 ∙ ap (λ l. part.0 ++ l) nothing ∙ append-nil part.0));
}
