use Rattle.std.proofs.Common.{◌≡◌, take}
use Rattle.ledger_core.specs.Placing.{written}
use Rattle.ledger_core.proofs.close.fill.Given as goal

abbrev pub invariant-loop-record : goal.invariant-loop-record
invariant-loop-record l = l.entries.items ≡ written (take l.record-index l.log) l.initial.entries.items
