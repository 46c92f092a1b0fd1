use Rattle.std.specs.List.{AllWithin}
use Rattle.system_ledger.specs.Older.{EndsBefore}
use Rattle.system_ledger.proofs.older.is_older.Given as goal

abbrev pub invariant-loop-holding : goal.invariant-loop-holding
invariant-loop-holding l = AllWithin (λ holding. ¬ EndsBefore l.hint l.device l.number holding) l.held 0 l.holding-index
