use Rattle.std.specs.List.{AllWithin}
use Rattle.system_ledger.specs.Marks.{IsKeptBy}
use Rattle.system_ledger.proofs.marks.is_kept.Given as goal

abbrev pub invariant-loop-other : goal.invariant-loop-other
invariant-loop-other l = AllWithin (λ other. ¬ IsKeptBy l.mark other) l.others 0 l.other-index
