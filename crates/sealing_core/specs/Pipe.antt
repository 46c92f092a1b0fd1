-- What a pipe did with its reader and its writer.
use Rattle.std.specs.Prelude.{◌≡◌, ℕ, ◌+◌, ◌*◌, ◌<◌, ◌≤◌, Bool, false, List, length, Result, Ok, Err, OnOk}
use Rattle.std.specs.Prelude.{OnErr, IfOk, IfSome}
use Rattle.container_core.specs.Container.{size_in}
use Rattle.container_core.specs.Faults.{is_failed_read, is_failed_write}
use Rattle.container_core.specs.declared.fault.SealFault.{SealFault}
use Rattle.container_core.specs.declared.fault.SealFault.TheVariants as sealing_fault
use Rattle.io_core.specs.Reads.{ConsumesExactly, ConsumesUpTo}
use Rattle.io_core.specs.Streams.{IsAtEnd, Appends, AppendsFront, LacksSome, counted}
use Rattle.io_core.specs.Views.{IoView}
use Rattle.sealing_core.specs.Order.{behind}

-- whether a read failed
abbrev pub read_failed : {A : Type 0} → Result A SealFault → Bool
read_failed (Ok value) = false
read_failed (Err fault) = is_failed_read fault

-- whether a write failed
abbrev pub write_failed : {A : Type 0} → Result A SealFault → Bool
write_failed (Ok value) = false
write_failed (Err fault) = is_failed_write fault

-- a stream that is too long has too many chunks
abbrev pub answer_of_stream : Result ℕ SealFault → Result ℕ SealFault
answer_of_stream (Ok n) = Ok n
answer_of_stream (Err sealing_fault.TooLong) = Err sealing_fault.TooManyChunks
answer_of_stream (Err fault) = Err fault

-- all that is written of a stream: its header, then STREAM of the input's chunks
abbrev pub whole : List ℕ → List ℕ → List ℕ → List ℕ
whole key header input = behind header key header input

-- The input is what the reader had left, if that is known.
pub record HasPiped (key header : List ℕ) (most : ℕ) (old new : IoView) (result : Result ℕ SealFault) : Type 0 where
  -- nothing is left unread
  pub end : OnOk result (IsAtEnd new.left)
  -- what was written is the header, and STREAM of the input's chunks
  pub written : OnOk result (IfSome old.left (λ input. Appends old.taken new.taken (whole key header input)))
  -- the result is the input's length
  pub answer : IfOk result (λ n. IfSome old.left (λ input. n ≡ length input))
  -- there are at most as many chunks as allowed; if there are more, exactly one byte after these was read
  pub within : OnOk result (IfSome old.left (λ input. length input ≤ most * size_in header))
  pub more : result ≡ Err sealing_fault.TooManyChunks → IfSome old.left (λ input. most * size_in header < length input)
  pub one : result ≡ Err sealing_fault.TooManyChunks → ConsumesExactly old.left new.left (most * size_in header + 1)
  pub bound : ConsumesUpTo old.left new.left (most * size_in header + 1)
  -- on a fault a front of that was written: if a write failed not all, and if memory was refused at most the header
  pub begun : OnErr result (IfSome old.left (λ input. AppendsFront old.taken new.taken (whole key header input)))
  pub short : result ≡ Err sealing_fault.Write
      → IfSome old.left (λ input. LacksSome old.taken new.taken (whole key header input))
  pub few : result ≡ Err sealing_fault.OutOfMemory → AppendsFront old.taken new.taken header
  -- a stream is never too long
  pub endless : result ≡ Err sealing_fault.TooLong → ⊥
  -- the result is `Read` if and only if a read failed, and `Write` if and only if a write failed
  pub read : new.read_failures ≡ counted (read_failed result) old.read_failures
  pub write : new.write_failures ≡ counted (write_failed result) old.write_failures
