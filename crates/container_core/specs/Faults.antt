-- The numbers of the faults, and their texts.
use Rattle.std.specs.Prelude.{ℕ, Bool, true, false, List, ◌++◌, codes}
use Rattle.std.specs.Fmt.{decimal}
use Rattle.container_core.specs.declared.fault.OpenFault.{OpenFault}
use Rattle.container_core.specs.declared.fault.OpenFault.TheVariants.{TooLong, ShortHeader, BadMagic, BadVersion}
use Rattle.container_core.specs.declared.fault.OpenFault.TheVariants.{BadExponent, KeyMismatch, BadLength, Forged}
use Rattle.container_core.specs.declared.fault.OpenFault.TheVariants.{OutOfMemory, Read, Write}
use Rattle.container_core.specs.declared.fault.SealFault.{SealFault}
use Rattle.container_core.specs.declared.fault.SealFault.TheVariants as sealing

abbrev pub open_number : OpenFault → ℕ
open_number TooLong = 1
open_number ShortHeader = 2
open_number BadMagic = 3
open_number BadVersion = 4
open_number BadExponent = 5
open_number KeyMismatch = 6
open_number BadLength = 7
open_number (Forged chunk) = 8
open_number OutOfMemory = 9
open_number Read = 10
open_number Write = 16

-- a fault of the bytes themselves, not of memory, a reader or a writer
abbrev pub IsOfBytes : OpenFault → Type 0
IsOfBytes OutOfMemory = ⊥
IsOfBytes Read = ⊥
IsOfBytes Write = ⊥
IsOfBytes _ = Unit {0}

abbrev pub seal_number : SealFault → ℕ
seal_number sealing.TooLong = 11
seal_number sealing.OutOfMemory = 12
seal_number sealing.Read = 13
seal_number sealing.Write = 14
seal_number sealing.TooManyChunks = 15

-- whether this is the fault of a failed read
abbrev pub is_failed_read : SealFault → Bool
is_failed_read sealing.Read = true
is_failed_read _ = false

-- whether this is the fault of a failed write
abbrev pub is_failed_write : SealFault → Bool
is_failed_write sealing.Write = true
is_failed_write _ = false

-- what the program prints for a fault
abbrev pub open_text : OpenFault → List ℕ
open_text TooLong = codes "too long"
open_text ShortHeader = codes "header cut short"
open_text BadMagic = codes "not a sealed file"
open_text BadVersion = codes "unknown version"
open_text BadExponent = codes "unknown chunk size"
open_text KeyMismatch = codes "sealed under another key"
open_text BadLength = codes "wrong length"
open_text (Forged chunk) = codes "chunk " ++ decimal chunk ++ codes " does not check"
open_text OutOfMemory = codes "out of memory"
open_text Read = codes "read failed"
open_text Write = codes "write failed"

abbrev pub seal_text : SealFault → List ℕ
seal_text sealing.TooLong = codes "too long"
seal_text sealing.OutOfMemory = codes "out of memory"
seal_text sealing.Read = codes "read failed"
seal_text sealing.Write = codes "write failed"
seal_text sealing.TooManyChunks = codes "too many chunks"
