use Rattle.std.specs.List.{AllWithin, Any}
use Rattle.system_ledger.specs.Marks.{IsKeptBy}
use Rattle.system_ledger.proofs.marks.keeps_marks.Given as goal

abbrev pub invariant-loop-mark : goal.invariant-loop-mark
invariant-loop-mark l = AllWithin (λ mark. Any (IsKeptBy mark) l.others) l.marks 0 l.mark-index
