-- The two tables of a ledger file.
use Rattle.std.specs.Prelude.{◌≡◌, Bool, true, false, ◌&&◌, [], ◌∷◌, Option, None, Some, is_some}
use Rattle.std.specs.Prelude.{slice_get, option_and_then, codes, List, ℕ, pos}
use Rattle.std.specs.List.{list_all}
use Rattle.journal_core.specs.Range.{number_limit}
use Rattle.sqlite.specs.declared.types.Value.TheVariants.{Null, Int}
use Rattle.sqlite.specs.Collation.TheVariants.{Binary}
use Rattle.sqlite.specs.Table.{Table}
use Rattle.sqlite.specs.Schema.{Schema}
use Rattle.sqlite.specs.Kind.TheVariants.{Integer, Any}
use Rattle.sqlite.specs.Term.{Term, lit, col, op2}
use Rattle.sqlite_schema.specs.declared.schema.Column.{Column}
use Rattle.sqlite_schema.specs.declared.schema.Index.{Index}
use Rattle.sqlite_schema.specs.declared.schema.Kind.{Kind}
use Rattle.sqlite_schema.specs.Names.{table_named, column_named}
use Rattle.sqlite_value.specs.Keys.{plain}
use Rattle.sqlite_sql.specs.declared.ops.BinaryOp.TheVariants.{Compare, And, Arith}
use Rattle.sqlite_sql.specs.declared.ops.ArithOp.TheVariants.{Add}
use Rattle.sqlite_sql.specs.declared.ops.CompareOp.TheVariants.{Ge, Le}

-- ---- the statements that make the tables

abbrev pub mark_text : List ℕ
mark_text = codes "CREATE TABLE mark (key_id BLOB NOT NULL, device INTEGER NOT NULL, next INTEGER NOT NULL, PRIMARY KEY (key_id, device), CHECK (next >= 0 AND next <= 4294967296))"

abbrev pub taken_text : List ℕ
taken_text = codes "CREATE TABLE taken (key_id BLOB NOT NULL, device INTEGER NOT NULL, lo INTEGER NOT NULL, size INTEGER NOT NULL, PRIMARY KEY (key_id, device, lo), CHECK (lo >= 0 AND size >= 1 AND lo + size <= 4294967296))"

-- ---- the tables as the database understands them

abbrev pub no_schema : Schema
no_schema = record { tables = []; indexes = []; views = [] }

abbrev pub required : List ℕ → Kind → Column
required name kind = record {
  name = name;
  kind = kind;
  is_strict = false;
  not_null = true;
  default = Null;
  collation = Binary;
}

abbrev pub at_least : Term → ℕ → Term
at_least t n = op2 (Compare Ge Binary) t (lit (Int (pos n)))

abbrev pub at_most : Term → ℕ → Term
at_most t n = op2 (Compare Le Binary) t (lit (Int (pos n)))

abbrev pub mark_checks : List Term
mark_checks = op2 And (at_least (col 1 3) 0) (at_most (col 1 3) number_limit) ∷ []

abbrev pub taken_checks : List Term
taken_checks =
    op2 And (op2 And (at_least (col 1 3) 0) (at_least (col 1 4) 1))
    (at_most (op2 (Arith Add) (col 1 3) (col 1 4)) number_limit)
    ∷ []

-- a table of NOT NULL columns, with a primary key over these columns
abbrev pub keyed_table : List ℕ → ℕ → List Column → List ℕ → List Term → Table
keyed_table name tree columns places checks = record {
  name = name;
  tree = tree;
  columns = columns;
  key = None;
  primary = places;
  uniques = places ∷ [];
  orders = plain ∷ [];
  checks = checks;
  references = [];
  computed = [];
  stamps = record { places = []; terms = []; formats = [] };
  is_counted = false;
}

abbrev pub mark_columns : List Column
mark_columns = required (codes "key_id") Any ∷ required (codes "device") Integer ∷ required (codes "next") Integer ∷ []

abbrev pub taken_columns : List Column
taken_columns =
    required (codes "key_id") Any ∷ required (codes "device") Integer
    ∷ required (codes "lo") Integer ∷ required (codes "size") Integer ∷ []

abbrev pub mark_table : List Term → ℕ → Table
mark_table checks tree = keyed_table (codes "mark") tree mark_columns (1 ∷ 2 ∷ []) checks

abbrev pub taken_table : List Term → ℕ → Table
taken_table checks tree = keyed_table (codes "taken") tree taken_columns (1 ∷ 2 ∷ 3 ∷ []) checks

abbrev pub index_for : List ℕ → ℕ → ℕ → List ℕ → Index
index_for name tree table places = record {
  name = name;
  tree = tree;
  table = table;
  columns = places;
  order = plain;
  is_unique = true;
}

abbrev pub mark_index : Index
mark_index = index_for (codes "sqlite_autoindex_mark_1") 1 0 (1 ∷ 2 ∷ [])

abbrev pub taken_index : Index
taken_index = index_for (codes "sqlite_autoindex_taken_1") 3 2 (1 ∷ 2 ∷ 3 ∷ [])

-- `mark` alone, as it is between the two statements
abbrev pub mark_schema : Schema
mark_schema = record { tables = mark_table mark_checks 0 ∷ []; indexes = mark_index ∷ []; views = [] }

-- both tables and nothing else, with these CHECKs: the rows of `mark` are tree 0, and those of `taken` tree 2
abbrev pub ledger_schema : List Term → List Term → Schema
ledger_schema c d = record {
  tables = mark_table c 0 ∷ taken_table d 2 ∷ [];
  indexes = mark_index ∷ taken_index ∷ [];
  views = [];
}

-- both tables and nothing else, whatever their CHECKs
abbrev pub IsLedger : Schema → Type 0
IsLedger schema = (c : List Term) × (d : List Term) × (schema ≡ ledger_schema c d)

-- ---- tables that can be read by these column names

-- the table of this name; SQL ignores case in names
abbrev pub table_at : Schema → List ℕ → Option Table
table_at schema name = option_and_then (slice_get schema.tables) (table_named schema name)

abbrev pub has_columns : List (List ℕ) → Table → Bool
has_columns names table = list_all (λ name. is_some (column_named table name)) names

abbrev pub is_readable : Option Table → List (List ℕ) → Bool
is_readable None names = false
is_readable (Some table) names = has_columns names table

abbrev pub mark_names : List (List ℕ)
mark_names = codes "key_id" ∷ codes "device" ∷ codes "next" ∷ []

abbrev pub taken_names : List (List ℕ)
taken_names = codes "key_id" ∷ codes "device" ∷ codes "lo" ∷ codes "size" ∷ []

-- both tables can be read by their column names
abbrev pub are_readable : Schema → Bool
are_readable schema =
    is_readable (table_at schema (codes "mark")) mark_names && is_readable (table_at schema (codes "taken")) taken_names
