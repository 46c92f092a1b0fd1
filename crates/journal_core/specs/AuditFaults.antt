-- Why an audit failed.
use Rattle.std.specs.Prelude.{ℕ, Bool, true, false, Result, Ok, Err}
use Rattle.journal_core.specs.declared.auditing.AuditFault.{AuditFault}
use Rattle.journal_core.specs.declared.auditing.AuditFault.TheVariants.{OutOfMemory, Read, Write}

-- the fault's number
abbrev pub fault_number : AuditFault → ℕ
fault_number OutOfMemory = 23
fault_number Read = 26
fault_number Write = 27

-- whether the reader failed, and whether the writer did

abbrev pub is_read : {T : Type 0} → Result T AuditFault → Bool
is_read (Ok x) = false
is_read (Err OutOfMemory) = false
is_read (Err Read) = true
is_read (Err Write) = false

abbrev pub is_write : {T : Type 0} → Result T AuditFault → Bool
is_write (Ok x) = false
is_write (Err OutOfMemory) = false
is_write (Err Read) = false
is_write (Err Write) = true
