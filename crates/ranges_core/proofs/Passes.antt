-- One pass over the rows of `taken`: what is still to come, after each row, makes the runs of all rows of `mark`.
use Rattle.std.proofs.Common.{IsPermutation, ◌≡◌, ◌≤◌, ◌+◌, ℕ, pos, List, [], ◌∷◌, ◌++◌, map, Bool, true, refl, sym, ap, subst, ◌∙◌}
use Rattle.std.specs.List.{list_all}
use Rattle.std.proofs.lemmas.Bool.{and_parts}
use Rattle.sqlite.specs.declared.types.Value.TheVariants.{Int, Blob}
use Rattle.sqlite.specs.Order.{Row, column}
use Rattle.sqlite.specs.Effect.{Database}
use Rattle.sqlite.specs.State.{State, Shows}
use Rattle.ranges_core.specs.Reads.{is_for, is_mark_row, is_taken_row, shown_mark, shown_taken}
use Rattle.ranges_core.specs.Reservations.{Adjacent, HoldLists, Lists, end_from, range_in}
use Rattle.ranges_core.specs.Runs.{Chain, IsBefore, Runs, OwnRunFrom, RunsFrom, LeavesRuns}
use Rattle.ranges_core.proofs.Runs.{holds_runs}
use Rattle.ranges_core.proofs.Shown.{lists_read}

pub runs_of : (marks taken : List Row) → RunsFrom 0 marks taken → Runs marks taken
runs_of [] taken h = h
runs_of (m ∷ marks) taken h = (
  h.0,
  h.1,
  h.2,
  record { key = h.3.key; device = h.3.device; is_key = h.3.is_key; is_device = h.3.is_device; own = h.3.own; adjacent = h.3.adjacent; next = h.3.next },
  h.4,
)

-- a row of `mark` whose ranges are complete
pub passes : (end : ℕ) (m : Row) (marks more : List Row) → OwnRunFrom end m [] → RunsFrom 0 marks more → RunsFrom end (m ∷ marks) more
passes end m marks more own h = ([], more, refl, own, runs_of marks more h)

-- a row of `taken` that begins where the one before it ended
pub takes : (end e : ℕ) (m row : Row) (marks more : List Row) (key : List ℕ) (device : ℕ) → column m 1 ≡ Blob key → column m 2 ≡ Int (pos device) → is_for key device row ≡ true
    → (range_in row).lo ≡ end → 1 ≤ (range_in row).size → e ≡ end + (range_in row).size → RunsFrom e (m ∷ marks) more → RunsFrom end (m ∷ marks) (row ∷ more)
takes end e m row marks more key device is_key is_device mine lo some sum h =
    let it = h.3 in
    let same_key : it.key ≡ key = cc in
    let same_device : it.device ≡ device = cc in (
      row ∷ h.0,
      h.1,
      ap (λ l. row ∷ l) h.2,
      record {
        key = key;
        device = device;
        is_key = is_key;
        is_device = is_device;
        own = (mine, rw (same_key, same_device) at it.own);
        adjacent = (lo, some, subst (λ n. Adjacent n (map range_in h.0)) sum it.adjacent);
        next = it.next ∙ ap (λ n. end_from n (map range_in h.0)) (sum ∙ ap (λ n. n + (range_in row).size) (sym lo));
      },
      h.4,
    )

append_none : {X : Type 0} (xs : List X) → xs ++ [] ≡ xs
append_none [] = refl
append_none (x ∷ xs) = ap (λ l. x ∷ l) (append_none xs)

append_more : {A : Type 0} (xs : List A) (x : A) (ys : List A) → xs ++ x ∷ ys ≡ (xs ++ x ∷ []) ++ ys
append_more [] x ys = refl
append_more (y ∷ xs) x ys = ap (λ l. y ∷ l) (append_more xs x ys)

-- ---- the rows that were given

pub leaves_first : (marks : List Row) → LeavesRuns marks [] 0 marks
unfolding LeavesRuns
leaves_first marks more h = runs_of marks more h

pub leaves_next : (all given : List Row) (row : Row) (end next : ℕ) (marks rest : List Row) → LeavesRuns all given end marks
    → ((more : List Row) → RunsFrom next rest more → RunsFrom end marks (row ∷ more)) → LeavesRuns all (given ++ row ∷ []) next rest
unfolding LeavesRuns
leaves_next all given row end next marks rest leaves takes more h = subst (Runs all) (append_more given row more) (leaves (row ∷ more) (takes more h))

pub leaves_none : (all given : List Row) (end : ℕ) (marks : List Row) → LeavesRuns all given end marks → RunsFrom end marks [] → Runs all given
unfolding LeavesRuns
leaves_none all given end marks leaves h = subst (Runs all) (append_none given) (leaves [] h)

pub all_more : (p : Row → Bool) (xs : List Row) (x : Row) → list_all p xs ≡ true → p x ≡ true → list_all p (xs ++ x ∷ []) ≡ true
all_more p [] x h is = rw is refl
all_more p (y ∷ xs) x h is =
    let a = and_parts (p y) (list_all p xs) h in let more : list_all p (xs ++ x ∷ []) ≡ true = all_more p xs x a.1 is in rw (a.0, more) refl

-- what one pass found, of tables that did not change meanwhile
pub pass_holds : (db mid : Database) (marks taken : List Row) → mid ≡ db → IsPermutation (map shown_mark (db.trees 0)) marks → IsPermutation (map shown_taken (mid.trees 2)) taken
    → list_all is_mark_row marks ≡ true → list_all is_taken_row taken ≡ true → Chain IsBefore marks → Runs marks taken → (lists : Lists) × HoldLists (db.trees 0) (db.trees 2) lists
pass_holds db mid marks taken same p q of_marks of_taken chain runs =
    let held = holds_runs marks taken of_marks of_taken chain runs in
    let read = subst (λ (d : Database). IsPermutation (map shown_taken (d.trees 2)) taken) same q in
    (held.0, lists_read (db.trees 0) (db.trees 2) marks taken p read held.0 held.1)

pub shows_then : (a b c : State) → Shows a b a.now a.committed a.in_transaction → Shows b c b.now b.committed b.in_transaction → Shows a c a.now a.committed a.in_transaction
shows_then a b c p q = record { was_open = p.was_open; is_open = q.is_open; now_is = q.now_is ∙ p.now_is; committed_is = q.committed_is ∙ p.committed_is; mode = q.mode ∙ p.mode }
