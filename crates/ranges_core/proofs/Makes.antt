-- What the two CREATE TABLE statements do.
use Rattle.std.proofs.Common.{◌≡◌, ℕ, List, [], false, None, Ok, Err, Result, OnOk, refl, sym, ap, subst, ◌∙◌}
use Rattle.sqlite.specs.Table.{Table}
use Rattle.sqlite.specs.Schema.{Schema}
use Rattle.sqlite.specs.Command.TheVariants.{CreateTable}
use Rattle.sqlite.specs.Compile.{table_defined_by}
use Rattle.sqlite.specs.Change.{created, next_tree, KeepsRows}
use Rattle.sqlite.specs.Does.{Tally, lacks_sequence}
use Rattle.sqlite.specs.declared.error.Error.{Error}
use Rattle.sqlite.specs.Listing.{understood}
use Rattle.sqlite.specs.Effect.{Database, IsDatabase}
use Rattle.sqlite.specs.State.{State, Writes, Executes, ExecutesInside}
use Rattle.sqlite_tied.specs.Compute.{everything}
use Rattle.sqlite.proofs.Callers.{IsPlain, command_of, statement_of, runs_as}
use Rattle.ranges_core.specs.Tables.{mark_text, taken_text, no_schema, mark_checks, taken_checks, mark_table, taken_table, mark_schema, ledger_schema}
use Rattle.ranges_core.specs.Writes.{IsEmptyLedger}
use Rattle.ranges_core.proofs.Effects.{went, same_value}
use Rattle.ranges_core.proofs.Texts.{mark_is, taken_is, creates_mark, creates_taken}

makes_mark : (command_of (understood no_schema mark_text) ≡ CreateTable) × (statement_of mark_text (understood no_schema mark_text) ≡ mark_text)
unfolding understood everything
makes_mark = (refl, refl)

makes_taken : (command_of (understood mark_schema taken_text) ≡ CreateTable) × (statement_of taken_text (understood mark_schema taken_text) ≡ taken_text)
unfolding understood everything
makes_taken = (refl, refl)

mark_plain : IsPlain (understood no_schema mark_text)
unfolding understood everything
mark_plain = (refl, refl)

taken_plain : IsPlain (understood mark_schema taken_text)
unfolding understood everything
taken_plain = (refl, refl)

pub record Makes (old new : State) (before : Schema) (table : Table) (after : Schema) : Type 0 where
  pub sound : IsDatabase new.now
  pub schema : new.now.schema ≡ after
  pub empty : new.now.trees (next_tree before) ≡ []
  pub others : KeepsRows before.tables old.now.trees new.now.trees

makes : (text : List ℕ) (before : Schema) (table : Table) (after : Schema) → command_of (understood before text) ≡ CreateTable → statement_of text (understood before text) ≡ text
    → IsPlain (understood before text) → table_defined_by text ≡ Ok table → created before table ≡ after → lacks_sequence after ≡ false
    → (old new : State) (count : ℕ) → old.now.schema ≡ before → Executes text [] old new (Ok count) → Makes old new before table after
makes text before table after command whole plain defined gives uncounted old new count has h =
    let w = subst (λ t. Writes old new None CreateTable t [] count) whole (runs_as text [] old new before has CreateTable command plain count h) in
    let all = went w.changed in
    let first = went all.1 in
    let made = first.1 in
    let both : Ok made.table ≡ Ok table = sym made.defined ∙ defined in
    let same : made.table ≡ table = same_value both in
    let schema : first.0.schema ≡ after = made.is ∙ ap (λ s. created s made.table) has ∙ ap (created before) same ∙ gives in
    let none : lacks_sequence first.0.schema ≡ false = ap lacks_sequence schema ∙ uncounted in
    let now : new.now ≡ first.0 = ap (λ (p : Tally × Database). p.1) (same_value all.2) ∙ same_value (rw none at first.2) in
    record {
      sound = w.sound;
      schema = ap (λ (d : Database). d.schema) now ∙ schema;
      empty = ap (λ (d : Database). d.trees (next_tree before)) now ∙ subst (λ s. first.0.trees (next_tree s) ≡ []) has made.empty;
      others = subst (λ (d : Database). KeepsRows before.tables old.now.trees d.trees) (sym now) (subst (λ (s : Schema). KeepsRows s.tables old.now.trees first.0.trees) has made.others);
    }

pub makes_mark_inside : (old new : State) (r : Result ℕ Error) → old.now.schema ≡ no_schema → ExecutesInside 0 mark_text [] old new r
    → OnOk r ((new.now.schema ≡ mark_schema) × (new.now.trees 0 ≡ []))
makes_mark_inside old new (Ok count) has h =
    let it = makes mark_text no_schema (mark_table mark_checks 0) mark_schema makes_mark.0 makes_mark.1 mark_plain mark_is creates_mark refl old new count has h.0 in (it.schema, it.empty)
makes_mark_inside old new (Err e) has h = tt

pub makes_taken_inside : (old new : State) (r : Result ℕ Error) → old.now.schema ≡ mark_schema → old.now.trees 0 ≡ [] → ExecutesInside 0 taken_text [] old new r
    → OnOk r (IsEmptyLedger new.now)
makes_taken_inside old new (Ok count) has none h =
    let it = makes taken_text mark_schema (taken_table taken_checks 0) (ledger_schema mark_checks taken_checks) makes_taken.0 makes_taken.1 taken_plain taken_is creates_taken refl old new count has h.0 in
    record { sound = it.sound; tables = (mark_checks, taken_checks, it.schema); marks = it.others.0 ∙ none; taken = it.empty }
makes_taken_inside old new (Err e) has none h = tt
