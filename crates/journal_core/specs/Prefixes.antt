-- The prefixes that a ledger grants.
use Rattle.std.specs.Prelude.{◌≡◌, ◌≢◌, ℕ, ◌+◌, ◌≤◌, ◌<◌, List, slice_get, Some}
use Rattle.journal_core.specs.declared.entry.Event.TheVariants.{Granted}
use Rattle.journal_core.specs.declared.entry.Entry.{Entry}
use Rattle.journal_core.specs.Range.{prefix_of}
use Rattle.journal_core.specs.History.{Terms, entry}

-- all numbers granted are in the range, and no two grants have one prefix
pub record GrantsOnce (terms : Terms) (history : List Entry) : Type 0 where
  pub inside : (i number seat : ℕ) → slice_get history i ≡ Some (entry seat (Granted number))
      → (terms.range.lo ≤ number) × (number < terms.range.lo + terms.range.size)
  pub once : (i j m n s t : ℕ) → i ≢ j → slice_get history i ≡ Some (entry s (Granted m))
      → slice_get history j ≡ Some (entry t (Granted n))
      → prefix_of terms.range.device m ≢ prefix_of terms.range.device n
