-- What the statements do to the rows.
use Rattle.std.proofs.Common.{◌≡◌, ◌⊎◌, inl, inr, ℕ, ℤ, pos, List, [], ◌∷◌, filter, Bool, true, false, cond, None, Ok, Err, Result, OnOk, refl, sym, ap, subst, ◌∙◌}
use Rattle.sqlite.specs.declared.types.Value.{Value}
use Rattle.sqlite.specs.declared.types.Value.TheVariants.{Null, Int, Blob}
use Rattle.sqlite.specs.Order.{Row, column}
use Rattle.sqlite.specs.Ops.{unary}
use Rattle.sqlite.specs.Term.{Term}
use Rattle.sqlite.specs.Kind.TheVariants.{Integer}
use Rattle.sqlite.specs.Source.TheVariants.{Values}
use Rattle.sqlite.specs.Command.TheVariants.{Insert, Update}
use Rattle.sqlite.specs.Edit.{Edit, edit_of, next_rowid, are_fresh, put_all, without_all}
use Rattle.sqlite_rules.specs.Calls.{ids_of}
use Rattle.sqlite.specs.Cast.{cast}
use Rattle.sqlite.specs.Rowids.TheVariants.{Chosen, Given}
use Rattle.sqlite.specs.Does.{Tally, Does}
use Rattle.sqlite.specs.Rows.{Written}
use Rattle.sqlite.specs.Program.{overlay}
use Rattle.sqlite.specs.Tree.{Trees, without_rowid}
use Rattle.sqlite.specs.declared.error.Error.{Error}
use Rattle.sqlite.specs.Listing.{understood}
use Rattle.sqlite.specs.Effect.{Database}
use Rattle.sqlite.specs.State.{State, mode_of, Executes, ExecutesInside}
use Rattle.sqlite.proofs.Callers.{statement_of, runs_as, one_step, one_permutation}
use Rattle.ranges_core.specs.Tables.{mark_table, taken_table, ledger_schema, IsLedger}
use Rattle.ranges_core.specs.Reservations.{mark_row, taken_row}
use Rattle.ranges_core.specs.Writes.{Took, Entered, Moved}
use Rattle.ranges_core.proofs.Asks.{picks, answers}
use Rattle.ranges_core.proofs.Texts.{take_text, take_terms, take_is, take_plain, enter_text, enter_terms, enter_is, enter_plain, move_text, move_query, move_is, move_plain, of_owner}

either : (b : Bool) (x : Value) → cond b x x ≡ x
either true x = refl
either false x = refl

cast_int : (n : ℤ) → cast Integer (Int n) ≡ Int n
unfolding unary
cast_int n = either _ (Int n)

cast_null : cast Integer Null ≡ Null
unfolding unary
cast_null = either _ Null

-- a part that gave a value did not stop early
pub went : {B E R : Type 0} {b : B} {Stops : E → Type 0} → ((stop : E) × Stops stop × (Ok b ≡ Err stop)) ⊎ R → R
went (inl stopped) = absurd (let e = stopped.2 in cc)
went (inr on) = on

pub same_value : {B E : Type 0} {a b : B} → ◌≡◌ {A = Result B E} (Ok a) (Ok b) → a ≡ b
same_value e = cc

mark_is_other : ◌≡◌ {A = ℕ} 0 2 → ⊥
mark_is_other e = cc

taken_is_other : ◌≡◌ {A = ℕ} 2 0 → ⊥
taken_is_other e = cc

module _ (c d : List Term) where
  pub takes : (old new : State) (key : List ℕ) (device lo size : ℕ) (count : ℕ) → old.now.schema ≡ ledger_schema c d
      → Executes take_text (Blob key ∷ Int (pos device) ∷ Int (pos lo) ∷ Int (pos size) ∷ []) old new (Ok count) → Took old.now new.now key device lo size
  takes old new key device lo size count has h =
      let params = Blob key ∷ Int (pos device) ∷ Int (pos lo) ∷ Int (pos size) ∷ [] in
      let db = old.now.trees in
      let schema = ledger_schema c d in
      let command = Insert 1 (Values take_terms 5) in
      let w = runs_as take_text params old new schema has command (take_is c d) (take_plain c d) count h in
      let text = statement_of take_text (understood schema take_text) in
      let done = went (subst (λ s. Does old.step_limit (mode_of old) params (record old.now { schema = s }) text None command (Ok (w.tally, new.now))) has w.changed) in
      let now = ap (λ (p : Tally × Database). p.1) (same_value (went (went done.2).2).2) in
      let given = went done.1 in
      let written = went (went given.2).2 in
      let counted = went written.2 in
      let trees : done.0.trees ≡ written.0 = ap (λ (it : Written). it.trees) (same_value counted.2) ∙ same_value counted.1 in
      let made : Edit = edit_of db (taken_table d 2) [] Chosen 0 given.0 in
      let step = one_step schema _ db written.0 made refl written.1 in
      let row = taken_row (next_rowid (db 2)) key device lo size in
      let news : made.news ≡ row ∷ [] = ap (λ all. (edit_of db (taken_table d 2) [] Chosen 0 all).news) given.1.1 ∙ rw (cast_null, cast_int (pos device), cast_int (pos lo), cast_int (pos size)) in
      record {
        schema = ap (λ (x : Database). x.schema) now ∙ sym has;
        row = record {
          put = ap (λ (x : Database). x.trees 2) now ∙ ap (λ (t : Trees). t 2) trees ∙ step.rows ∙ rw news;
          fresh = subst (λ n. are_fresh (db 2) n ≡ true) news step.fresh;
        };
        marks = ap (λ (x : Database). x.trees 0) now ∙ ap (λ (t : Trees). t 0) trees ∙ step.tables.0 mark_is_other;
        sound = w.sound;
      }

  pub enters : (old new : State) (key : List ℕ) (device next : ℕ) (count : ℕ) → old.now.schema ≡ ledger_schema c d
      → Executes enter_text (Blob key ∷ Int (pos device) ∷ Int (pos next) ∷ []) old new (Ok count) → Entered old.now new.now key device next
  enters old new key device next count has h =
      let params = Blob key ∷ Int (pos device) ∷ Int (pos next) ∷ [] in
      let db = old.now.trees in
      let schema = ledger_schema c d in
      let command = Insert 0 (Values enter_terms 4) in
      let w = runs_as enter_text params old new schema has command (enter_is c d) (enter_plain c d) count h in
      let text = statement_of enter_text (understood schema enter_text) in
      let done = went (subst (λ s. Does old.step_limit (mode_of old) params (record old.now { schema = s }) text None command (Ok (w.tally, new.now))) has w.changed) in
      let now = ap (λ (p : Tally × Database). p.1) (same_value (went (went done.2).2).2) in
      let given = went done.1 in
      let written = went (went given.2).2 in
      let counted = went written.2 in
      let trees : done.0.trees ≡ written.0 = ap (λ (it : Written). it.trees) (same_value counted.2) ∙ same_value counted.1 in
      let made : Edit = edit_of db (mark_table c 0) [] Chosen 0 given.0 in
      let step = one_step schema _ db written.0 made refl written.1 in
      let row = mark_row (next_rowid (db 0)) key device next in
      let news : made.news ≡ row ∷ [] = ap (λ all. (edit_of db (mark_table c 0) [] Chosen 0 all).news) given.1.1 ∙ rw (cast_null, cast_int (pos device), cast_int (pos next)) in
      record {
        schema = ap (λ (x : Database). x.schema) now ∙ sym has;
        row = record {
          put = ap (λ (x : Database). x.trees 0) now ∙ ap (λ (t : Trees). t 0) trees ∙ step.rows ∙ rw news;
          fresh = subst (λ n. are_fresh (db 0) n ≡ true) news step.fresh;
        };
        taken = ap (λ (x : Database). x.trees 2) now ∙ ap (λ (t : Trees). t 2) trees ∙ step.tables.1.0 taken_is_other;
      }

  -- if one row is of the key ID and device
  pub updates : (old new : State) (key k : List ℕ) (device e next : ℕ) (id : ℤ) (r : Row) (count : ℕ) → old.now.schema ≡ ledger_schema c d
      → filter (picks of_owner (Blob key ∷ Int (pos device) ∷ Int (pos next) ∷ [])) (old.now.trees 0) ≡ r ∷ []
      → column r 0 ≡ Int id → column r 1 ≡ Blob k → column r 2 ≡ Int (pos e)
      → Executes move_text (Blob key ∷ Int (pos device) ∷ Int (pos next) ∷ []) old new (Ok count) → Moved old.now new.now k e next id
  updates old new key k device e next id r count has one is_id is_key is_device h =
      let params = Blob key ∷ Int (pos device) ∷ Int (pos next) ∷ [] in
      let db = old.now.trees in
      let schema = ledger_schema c d in
      let command = Update 0 (record { lets = []; body = move_query }) in
      let w = runs_as move_text params old new schema has command (move_is c d) (move_plain c d) count h in
      let text = statement_of move_text (understood schema move_text) in
      let done = went (subst (λ s. Does old.step_limit (mode_of old) params (record old.now { schema = s }) text None command (Ok (w.tally, new.now))) has w.changed) in
      let now = ap (λ (p : Tally × Database). p.1) (same_value (went (went done.2).2).2) in
      let read = went done.1 in
      let written = went read.2 in
      let trees : done.0.trees ≡ written.0 = ap (λ (it : Written). it.trees) (same_value written.2) in
      let shown : read.0 ≡ (Int id ∷ Int id ∷ Blob k ∷ Int (pos e) ∷ Int (pos next) ∷ []) ∷ [] =
      one_permutation _ read.0 (rw one at (answers 0 of_owner _ [] (overlay db []) params read.0 (read.1.answer Null))) ∙ rw (is_id, is_key, is_device) in
      let made : Edit = edit_of db (mark_table c 0) (ids_of read.0) Given 1 read.0 in
      let step = one_step schema _ db written.0 made refl written.1 in
      let row = mark_row id k e next in
      let left : made.gone ≡ id ∷ [] = ap ids_of shown in
      let news : made.news ≡ row ∷ [] = ap (λ all. (edit_of db (mark_table c 0) (ids_of all) Given 1 all).news) shown ∙ rw (cast_int id, cast_int (pos e), cast_int (pos next)) in
      record {
        schema = ap (λ (x : Database). x.schema) now ∙ sym has;
        row = record {
          put = ap (λ (x : Database). x.trees 0) now ∙ ap (λ (t : Trees). t 0) trees ∙ step.rows
              ∙ ap (λ gone. put_all (without_all (db 0) gone) made.news) left ∙ ap (put_all (without_all (db 0) (id ∷ []))) news;
          fresh = subst (λ n. are_fresh (without_rowid id (db 0)) n ≡ true) news (subst (λ gone. are_fresh (without_all (db 0) gone) made.news ≡ true) left step.fresh);
        };
        taken = ap (λ (x : Database). x.trees 2) now ∙ ap (λ (t : Trees). t 2) trees ∙ step.tables.1.0 taken_is_other;
      }

pub takes_inside : (old new : State) (key : List ℕ) (device lo size : ℕ) (r : Result ℕ Error) → IsLedger old.now.schema
    → ExecutesInside 0 take_text (Blob key ∷ Int (pos device) ∷ Int (pos lo) ∷ Int (pos size) ∷ []) old new r → OnOk r (Took old.now new.now key device lo size)
takes_inside old new key device lo size (Ok count) has h = takes has.0 has.1 old new key device lo size count has.2 h.0
takes_inside old new key device lo size (Err e) has h = tt

pub enters_inside : (old new : State) (key : List ℕ) (device next : ℕ) (r : Result ℕ Error) → IsLedger old.now.schema
    → ExecutesInside 0 enter_text (Blob key ∷ Int (pos device) ∷ Int (pos next) ∷ []) old new r → OnOk r (Entered old.now new.now key device next)
enters_inside old new key device next (Ok count) has h = enters has.0 has.1 old new key device next count has.2 h.0
enters_inside old new key device next (Err e) has h = tt
