-- What a query of one table returns.
use Rattle.std.proofs.Common.{◌≡◌, ℕ, List, [], ◌∷◌, map, filter, flat_map, Bool, true, false, cond, ◌++◌, refl, sym, ap, subst, ◌∙◌, IsPermutation, Result, Ok, Err, IfErr, IfOk, OnOk, IsTrue, Option, Some, None, inl, inr, ◌⊎◌}
use Rattle.std.specs.List.{list_all}
use Rattle.std.proofs.lemmas.List.Sorted.{IsPermutation-map}
use Rattle.sqlite_resolve.specs.declared.compiled.Compiled.{Compiled}
use Rattle.sqlite_schema.specs.declared.command.Returning.{Returning}
use Rattle.sqlite.specs.declared.error.Error.{Error}
use Rattle.sqlite.specs.Order.{Row}
use Rattle.sqlite.specs.Term.{Term, holds, eval_all}
use Rattle.sqlite.specs.Query.{Query, IsAnswer, output, Output}
use Rattle.sqlite.specs.Listing.{understood}
use Rattle.sqlite.proofs.Callers.{IsPlain}
use Rattle.sqlite.specs.Tree.{Trees}
use Rattle.sqlite_sql.specs.Term.{Env}
use Rattle.sqlite_value.specs.declared.keys.Key.{Key}
use Rattle.sqlite.specs.State.{State, Shown, ShowsRows, KeepsCommit, Fails, IsUnchanged, IsNotRun, FailsToShow, FailsToQuery, IsTooLate}
use Rattle.ranges_core.proofs.Texts.{query_of}

abbrev pub picks : List Term → Row → Row → Bool
picks terms params row = list_all (holds (params ∷ row ∷ [])) terms

abbrev pub showing : List Term → Row → Row → Row
showing project params row = eval_all project (params ∷ row ∷ [])

abbrev ordered_query : ℕ → List Term → List Term → List (Term × Key) → Query
ordered_query tree terms project order = record (query_of tree terms project) { order = order }

abbrev matched : List Term → Row → List Row → List Env
matched terms params rows = flat_map (λ r. cond (picks terms params r) ((params ∷ r ∷ []) ∷ []) []) rows

shows : (tree : ℕ) (terms project : List Term) (order : List (Term × Key)) (params : Row) (rows : List Row)
    → map (λ (o : Output). o.1) (map (output (ordered_query tree terms project order)) (matched terms params rows)) ≡ map (showing project params) (filter (picks terms params) rows)
shows tree terms project order params [] = refl
shows tree terms project order params (r ∷ rows) =
    elim (picks terms params r) as (λ b. map (λ (o : Output). o.1) (map (output (ordered_query tree terms project order)) (cond b ((params ∷ r ∷ []) ∷ []) [] ++ matched terms params rows)) ≡ map (showing project params) (cond b (r ∷ filter (picks terms params) rows) (filter (picks terms params) rows)))
    [ true ↦ ap (λ l. showing project params r ∷ l) (shows tree terms project order params rows) | false ↦ shows tree terms project order params rows ]

-- the answer has what the query returns for each row that it selects
pub answers : (tree : ℕ) (terms project : List Term) (order : List (Term × Key)) (db : Trees) (params : Row) (rows : List Row)
    → IsAnswer (ordered_query tree terms project order) db params rows
    → IsPermutation (map (showing project params) (filter (picks terms params) (db tree))) rows
answers tree terms project order db params rows a =
    let q = ordered_query tree terms project order in
    let staged : a.staged ≡ matched terms params (db tree) = a.grouped in
    let kept : map (λ (o : Output). o.1) a.kept ≡ map (showing project params) (filter (picks terms params) (db tree)) =
    ap (map (λ (o : Output). o.1)) (a.distinct ∙ ap (map (output q)) staged) ∙ shows tree terms project order params (db tree) in
    let moved = IsPermutation-map (λ (o : Output). o.1) a.kept a.ordered a.same in
    rw a.shown (subst (λ l. IsPermutation l (map (λ (o : Output). o.1) a.ordered)) kept moved)

pub if_ok : {A E : Type 0} (r : Result A E) (P Q : A → Type 0) → ((a : A) → P a → Q a) → IfOk r P → IfOk r Q
if_ok (Ok a) P Q step h = step a h
if_ok (Err e) P Q step h = h

pub on_to : {A E : Type 0} (r : Result A E) (P Q : Type 0) → (P → Q) → OnOk r P → OnOk r Q
on_to (Ok a) P Q step h = step h
on_to (Err e) P Q step h = h

pub both_ok : {A E : Type 0} (r : Result A E) (P Q R : A → Type 0) → ((a : A) → P a → Q a → R a) → IfOk r P → IfOk r Q → IfOk r R
both_ok (Ok a) P Q R step h k = step a h k
both_ok (Err e) P Q R step h k = h

pub on_ok : {A E : Type 0} (r : Result A E) (P : A → Type 0) (U : Type 0) → ((a : A) → P a → U) → IfOk r P → OnOk r U
on_ok (Ok a) P U step h = step a h
on_ok (Err e) P U step h = h

module _ (old new : State) (sql : List ℕ) (params : Row) where
  shows_open : (c : Compiled) (full : Row) (rows : List Row) (o : Option Returning) → ShowsRows old new sql c full rows o → IsTrue old.is_open
  shows_open c full rows None s = s.3.0.was_open
  shows_open c full rows (Some what) s = s.1.shown.was_open

  pub shown_open : (rows : List Row) → Shown sql params old new rows → IsTrue old.is_open
  unfolding Shown
  shown_open rows h = shows_open h.0 _ rows h.0.returning h.2

  kept_by : IsTrue old.is_open → new.committed ≡ old.committed → KeepsCommit old new
  kept_by was same = record { was_open = λ _. was; committed = λ _. same }

  shows_kept : IsTrue old.in_transaction → (c : Compiled) (full : Row) (rows : List Row) (o : Option Returning) → ShowsRows old new sql c full rows o → KeepsCommit old new
  shows_kept inside c full rows None s = kept_by s.3.0.was_open s.3.0.committed_is
  shows_kept inside c full rows (Some what) s = kept_by s.1.shown.was_open (rw inside at s.1.shown.committed_is)

  shown_kept : IsTrue old.in_transaction → (rows : List Row) → Shown sql params old new rows → KeepsCommit old new
  unfolding Shown
  shown_kept inside rows h = shows_kept inside h.0 _ rows h.0.returning h.2

  shows_mode : IsTrue old.in_transaction → (c : Compiled) (full : Row) (rows : List Row) (o : Option Returning) → ShowsRows old new sql c full rows o → IsTrue new.in_transaction
  shows_mode inside c full rows None s = s.3.0.mode ∙ inside
  shows_mode inside c full rows (Some what) s = s.1.shown.mode ∙ inside

  pub shown_mode : IsTrue old.in_transaction → (rows : List Row) → Shown sql params old new rows → IsTrue new.in_transaction
  unfolding Shown
  shown_mode inside rows h = shows_mode inside h.0 _ rows h.0.returning h.2

  fails_kept : (U : Type 0) (e : Error) → Fails old new U e → KeepsCommit old new
  fails_kept U e f = record { was_open = f.3.was_open; committed = λ up. (f.3.undone up).1 }

  unchanged_kept : IsUnchanged old new → KeepsCommit old new
  unchanged_kept same = kept_by same.0.was_open same.0.committed_is

  not_run_kept : (e : Error) → IsNotRun old new sql params e → KeepsCommit old new
  unfolding IsNotRun
  not_run_kept e (inl h) = unchanged_kept h.1
  not_run_kept e (inr f) = fails_kept _ e f

  fails_to_show_kept : (c : Compiled) (full : Row) (e : Error) (o : Option Returning) → FailsToShow old new sql c full e o → KeepsCommit old new
  fails_to_show_kept c full e None h = unchanged_kept h.3
  fails_to_show_kept c full e (Some what) (inl h) = unchanged_kept h.1
  fails_to_show_kept c full e (Some what) (inr f) = fails_kept _ e f

  query_fails_kept : (e : Error) → FailsToQuery sql params old new e ⊎ IsTooLate sql params old new e → KeepsCommit old new
  unfolding FailsToQuery
  query_fails_kept e (inl (inl h)) = not_run_kept e h
  query_fails_kept e (inl (inr h)) = fails_to_show_kept h.0 _ e h.0.returning h.2
  query_fails_kept e (inr late) = unchanged_kept late.5

  pub query_kept : {A : Type 0} (items : A → List Row) (r : Result A Error) → IsTrue old.in_transaction → IfOk r (λ a. Shown sql params old new (items a))
      → IfErr r (λ e. FailsToQuery sql params old new e ⊎ IsTooLate sql params old new e) → KeepsCommit old new
  query_kept items (Ok a) inside ok err = shown_kept inside (items a) ok
  query_kept items (Err e) inside ok err = query_fails_kept e err

-- a query that does not write changes nothing
pub shown_same : (old new : State) (sql : List ℕ) (params : Row) (rows : List Row) → IsPlain (understood old.now.schema sql) → Shown sql params old new rows → IsUnchanged old new
unfolding Shown
shown_same old new sql params rows plain h = let none = (subst IsPlain h.1.is plain).0 in (subst (ShowsRows old new sql h.0 _ rows) none h.2).3

-- if the connection is open it was open before; if no write waited for a commit, nothing changed
abbrev pub Untouched : State → State → Type 0
Untouched old new = IsTrue new.is_open → IsTrue old.is_open × (old.now ≡ old.committed → (new.now ≡ old.now) × (new.committed ≡ old.committed))

module _ (old new : State) (sql : List ℕ) (params : Row) where
  unchanged_untouched : IsUnchanged old new → Untouched old new
  unchanged_untouched same up = (same.0.was_open, λ _. (same.0.now_is, same.0.committed_is))

  fails_untouched : (U : Type 0) (e : Error) → Fails old new U e → Untouched old new
  fails_untouched U e f up = (f.3.was_open up, λ settled. ((f.3.undone up).0 ∙ sym settled, (f.3.undone up).1))

  not_run_untouched : (e : Error) → IsNotRun old new sql params e → Untouched old new
  unfolding IsNotRun
  not_run_untouched e (inl h) = unchanged_untouched h.1
  not_run_untouched e (inr f) = fails_untouched _ e f

  fails_to_show_untouched : (c : Compiled) (full : Row) (e : Error) (o : Option Returning) → FailsToShow old new sql c full e o → Untouched old new
  fails_to_show_untouched c full e None h = unchanged_untouched h.3
  fails_to_show_untouched c full e (Some what) (inl h) = unchanged_untouched h.1
  fails_to_show_untouched c full e (Some what) (inr f) = fails_untouched _ e f

  pub query_fails_untouched : (e : Error) → FailsToQuery sql params old new e → Untouched old new
  unfolding FailsToQuery
  query_fails_untouched e (inl h) = not_run_untouched e h
  query_fails_untouched e (inr h) = fails_to_show_untouched h.0 _ e h.0.returning h.2

  -- a query that does not write leaves everything unchanged
  pub query_untouched : {A : Type 0} → IsPlain (understood old.now.schema sql) → (items : A → List Row) (r : Result A Error) → IfOk r (λ a. Shown sql params old new (items a))
      → IfErr r (FailsToQuery sql params old new) → Untouched old new
  query_untouched plain items (Ok a) ok err = unchanged_untouched (shown_same old new sql params (items a) plain ok)
  query_untouched plain items (Err e) ok err = query_fails_untouched e err
