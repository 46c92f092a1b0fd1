-- What the SQL texts mean under the schema of a ledger file, whatever its CHECKs.
use Rattle.std.proofs.Common.{◌≡◌, ℕ, List, [], ◌∷◌, codes, Ok, refl, negsuc, pos, None, false}
use Rattle.sqlite.specs.declared.types.Value.TheVariants.{Null, Int}
use Rattle.sqlite.specs.Collation.TheVariants.{Binary}
use Rattle.sqlite.specs.Term.{Term, lit, col, op1, op2}
use Rattle.sqlite_value.specs.Keys.{ascending}
use Rattle.sqlite.specs.Query.{Query, inner, end}
use Rattle.sqlite.specs.Source.TheVariants.{Values}
use Rattle.sqlite.specs.Command.{Command}
use Rattle.sqlite.specs.Command.TheVariants.{Insert, Update, Select}
use Rattle.sqlite_sql.specs.declared.ops.BinaryOp.TheVariants.{Compare}
use Rattle.sqlite_sql.specs.declared.ops.UnaryOp.TheVariants.{ToNumeric}
use Rattle.sqlite_sql.specs.declared.ops.CompareOp.TheVariants.{Eq}
use Rattle.sqlite.specs.Compile.{table_defined_by}
use Rattle.sqlite.specs.Change.{created}
use Rattle.sqlite_tied.specs.Compute.{everything}
use Rattle.sqlite.specs.Listing.{understood, reads_listing}
use Rattle.sqlite.proofs.Callers.{IsPlain, command_of}
use Rattle.ranges_core.specs.Reads.{next_text, ranges_text, marks_text, takings_text, ids_text}
use Rattle.ranges_core.specs.Tables.{mark_text, taken_text, no_schema, mark_checks, taken_checks, mark_table, taken_table, mark_schema, ledger_schema}

pub mark_is : table_defined_by mark_text ≡ Ok (mark_table mark_checks 0)
unfolding understood everything
mark_is = refl

pub taken_is : table_defined_by taken_text ≡ Ok (taken_table taken_checks 0)
unfolding understood everything
taken_is = refl

pub creates_mark : created no_schema (mark_table mark_checks 0) ≡ mark_schema
unfolding everything
creates_mark = refl

pub creates_taken : created mark_schema (taken_table taken_checks 0) ≡ ledger_schema mark_checks taken_checks
unfolding everything
creates_taken = refl

-- ---- the writes

abbrev pub take_text : List ℕ
take_text = codes "INSERT INTO taken (key_id, device, lo, size) VALUES (?1, ?2, ?3, ?4)"

abbrev pub enter_text : List ℕ
enter_text = codes "INSERT INTO mark (key_id, device, next) VALUES (?1, ?2, ?3)"

abbrev pub move_text : List ℕ
move_text = codes "UPDATE mark SET next = ?3 WHERE key_id = ?1 AND device = ?2"

abbrev pub take_terms : List Term
take_terms = lit Null ∷ col 0 0 ∷ col 0 1 ∷ col 0 2 ∷ col 0 3 ∷ []

abbrev pub enter_terms : List Term
enter_terms = lit Null ∷ col 0 0 ∷ col 0 1 ∷ col 0 2 ∷ []

-- a query of one table
abbrev pub query_of : ℕ → List Term → List Term → Query
query_of tree filter project = record {
  from = inner tree end;
  filter = filter;
  group = None;
  project = project;
  distinct = false;
  collations = [];
  order = [];
  limit = lit (Int (negsuc 0));
  offset = lit (Int (pos 0));
}

-- the rows of a key ID and device
abbrev pub of_owner : List Term
of_owner = op2 (Compare Eq Binary) (col 1 1) (col 0 0) ∷ op2 (Compare Eq Binary) (col 1 2) (op1 ToNumeric (col 0 1)) ∷ []

abbrev pub move_query : Query
move_query = query_of 0 of_owner (col 1 0 ∷ col 1 0 ∷ col 1 1 ∷ col 1 2 ∷ col 0 2 ∷ [])

abbrev pub next_query : Query
next_query = query_of 0 of_owner (col 1 3 ∷ [])

abbrev pub ranges_query : Query
ranges_query = record (query_of 2 of_owner (col 1 3 ∷ col 1 4 ∷ [])) { order = (col 1 3, ascending Binary) ∷ [] }

abbrev pub marks_query : Query
marks_query = record (query_of 0 [] (col 1 0 ∷ col 1 1 ∷ col 1 2 ∷ col 1 3 ∷ [])) { order = (col 1 1, ascending Binary) ∷ (col 1 2, ascending Binary) ∷ [] }

abbrev pub ids_query : Query
ids_query = record (query_of 0 [] (col 1 0 ∷ [])) { order = (col 1 0, ascending Binary) ∷ [] }

abbrev pub takings_query : Query
takings_query = record (query_of 2 [] (col 1 0 ∷ col 1 1 ∷ col 1 2 ∷ col 1 3 ∷ col 1 4 ∷ [])) { order = (col 1 1, ascending Binary) ∷ (col 1 2, ascending Binary) ∷ (col 1 3, ascending Binary) ∷ [] }

abbrev pub shows : Query → List (List ℕ) → Command
shows query names = Select (record { lets = []; body = query }) names

module _ (c d : List Term) where
  pub take_is : command_of (understood (ledger_schema c d) take_text) ≡ Insert 1 (Values take_terms 5)
  unfolding understood everything
  take_is = refl

  pub enter_is : command_of (understood (ledger_schema c d) enter_text) ≡ Insert 0 (Values enter_terms 4)
  unfolding understood everything
  enter_is = refl

  pub move_is : command_of (understood (ledger_schema c d) move_text) ≡ Update 0 (record { lets = []; body = move_query })
  unfolding understood everything
  move_is = refl

  pub next_is : command_of (understood (ledger_schema c d) next_text) ≡ shows next_query (codes "next" ∷ [])
  unfolding understood everything
  next_is = refl

  pub ranges_are : command_of (understood (ledger_schema c d) ranges_text) ≡ shows ranges_query (codes "lo" ∷ codes "size" ∷ [])
  unfolding understood everything
  ranges_are = refl

  pub marks_are : command_of (understood (ledger_schema c d) marks_text) ≡ shows marks_query (codes "rowid" ∷ codes "key_id" ∷ codes "device" ∷ codes "next" ∷ [])
  unfolding understood everything
  marks_are = refl

  pub takings_are : command_of (understood (ledger_schema c d) takings_text) ≡ shows takings_query (codes "rowid" ∷ codes "key_id" ∷ codes "device" ∷ codes "lo" ∷ codes "size" ∷ [])
  unfolding understood everything
  takings_are = refl

  pub ids_are : command_of (understood (ledger_schema c d) ids_text) ≡ shows ids_query (codes "rowid" ∷ [])
  unfolding understood everything
  ids_are = refl

  pub take_plain : IsPlain (understood (ledger_schema c d) take_text)
  unfolding understood everything
  take_plain = (refl, refl)

  pub enter_plain : IsPlain (understood (ledger_schema c d) enter_text)
  unfolding understood everything
  enter_plain = (refl, refl)

  pub move_plain : IsPlain (understood (ledger_schema c d) move_text)
  unfolding understood everything
  move_plain = (refl, refl)

  pub next_plain : IsPlain (understood (ledger_schema c d) next_text)
  unfolding understood everything
  next_plain = (refl, refl)

  pub ranges_plain : IsPlain (understood (ledger_schema c d) ranges_text)
  unfolding understood everything
  ranges_plain = (refl, refl)

  pub marks_plain : IsPlain (understood (ledger_schema c d) marks_text)
  unfolding understood everything
  marks_plain = (refl, refl)

  pub takings_plain : IsPlain (understood (ledger_schema c d) takings_text)
  unfolding understood everything
  takings_plain = (refl, refl)

  pub ids_plain : IsPlain (understood (ledger_schema c d) ids_text)
  unfolding understood everything
  ids_plain = (refl, refl)

  pub ids_unlisted : reads_listing (ledger_schema c d) ids_text ≡ false
  unfolding understood everything
  ids_unlisted = refl

  pub next_unlisted : reads_listing (ledger_schema c d) next_text ≡ false
  unfolding understood everything
  next_unlisted = refl

  pub ranges_unlisted : reads_listing (ledger_schema c d) ranges_text ≡ false
  unfolding understood everything
  ranges_unlisted = refl

  pub marks_unlisted : reads_listing (ledger_schema c d) marks_text ≡ false
  unfolding understood everything
  marks_unlisted = refl

  pub takings_unlisted : reads_listing (ledger_schema c d) takings_text ≡ false
  unfolding understood everything
  takings_unlisted = refl
