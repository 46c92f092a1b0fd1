-- What a run that seals prints on standard error if it ended with status 2.
use Rattle.std.specs.Prelude.{List, ℕ, ◌++◌, codes}
use Rattle.reserve_core.specs.Faults.{reserve_text}
-- standard error took a complaint, or a prefix of one
pub use Rattle.command_core.specs.Printing.{Complains}
use Rattle.sealer_core.specs.declared.trouble.RunFault.{RunFault}
use Rattle.sealer_core.specs.declared.trouble.RunFault.TheVariants.{Unreserved, NoLedger, NoJournal, JournalCut, Unrecorded}

abbrev pub complaint : RunFault → List ℕ
complaint (Unreserved fault) = codes "ledger: " ++ reserve_text fault
complaint NoLedger = codes "ledger: out of memory"
complaint NoJournal = codes "journal: out of memory"
complaint JournalCut = codes "journal: write failed"
complaint Unrecorded = codes "witness: write failed"
