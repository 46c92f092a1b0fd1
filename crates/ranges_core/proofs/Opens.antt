-- A database that opens as a ledger is not bad in the sense of `IsBad`.
use Rattle.std.proofs.Common.{◌≡◌, List, [], true, inl, inr, refl, sym, ap, ◌∙◌}
use Rattle.std.proofs.lemmas.Bool.{true≢false}
use Rattle.sqlite.specs.Term.{Term}
use Rattle.sqlite.specs.Table.{Table}
use Rattle.sqlite.specs.Schema.{Schema}
use Rattle.sqlite.specs.Effect.{Database}
use Rattle.sqlite.specs.Listing.{understood}
use Rattle.sqlite_tied.specs.Compute.{everything}
use Rattle.ranges_core.specs.Faults.{IsBad}
use Rattle.ranges_core.specs.Reservations.{Lists, Holds}
use Rattle.ranges_core.specs.Tables.{are_readable, ledger_schema, no_schema}

readable : (c d : List Term) → are_readable (ledger_schema c d) ≡ true
unfolding understood everything
readable c d = refl

pub never_ledger : (db : Database) (lists : Lists) → Holds db lists → IsBad db → ⊥
never_ledger db lists hold (inl bad) = true≢false (sym (readable hold.tables.0 hold.tables.1) ∙ sym (ap are_readable hold.tables.2) ∙ bad.1)
never_ledger db lists hold (inr none) = none.1 lists hold.rows

no_tables : (s : Schema) (c d : List Term) → s ≡ no_schema → s ≡ ledger_schema c d → ⊥
no_tables s c d p q = let e : ◌≡◌ {A = List Table} [] _ = ap (λ (x : Schema). x.tables) (sym p ∙ q) in cc

pub never_blank : (db : Database) → db.schema ≡ no_schema → IsBad db → ⊥
never_blank db is (inl bad) = bad.0 is
never_blank db is (inr none) = no_tables db.schema none.0.0 none.0.1 is none.0.2
