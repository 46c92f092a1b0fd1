-- When a ledger file is older than a container.
use Rattle.std.specs.Prelude.{◌≡◌, ◌≤◌, ℕ, List}
use Rattle.system_ledger.specs.declared.holdings.Holding.{Holding}

-- what the file holds of the container's key and device ends before its number. The numbers given are 0 to `given` - 1
pub record EndsBefore (hint : List ℕ) (device number : ℕ) (holding : Holding) : Type 0 where
  pub same_key : holding.key ≡ hint
  pub same_device : holding.device ≡ device
  pub few : holding.given ≤ number
