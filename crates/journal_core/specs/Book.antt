-- The ledger of one thread.
use Rattle.std.specs.Prelude.{ℕ}
use Rattle.journal_core.specs.declared.book.BookFault.{BookFault}
use Rattle.journal_core.specs.declared.book.BookFault.TheVariants.{Exhausted, SeatClosed, NotOpen}
use Rattle.journal_core.specs.declared.book.BookFault.TheVariants.{OutOfMemory, BadSeats}

-- the fault's number
abbrev pub fault_number : BookFault → ℕ
fault_number Exhausted = 20
fault_number SeatClosed = 21
fault_number NotOpen = 22
fault_number OutOfMemory = 23
fault_number BadSeats = 25
