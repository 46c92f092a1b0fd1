-- How a grant comes back.
pub use Rattle.ledger_core.specs.Shared.{spent_as}
