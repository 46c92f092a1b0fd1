-- What a sealing in rounds did with its reader and its writer.
use Rattle.std.specs.Prelude.{◌≡◌, ◌≢◌, ℕ, ◌+◌, ◌*◌, ◌<◌, ◌≤◌, List, ◌++◌, length, Result, Err, OnOk, OnErr}
use Rattle.std.specs.Prelude.{IfOk, IfSome}
use Rattle.container_core.specs.Container.{size_in}
use Rattle.container_core.specs.declared.fault.SealFault.{SealFault}
use Rattle.container_core.specs.declared.fault.SealFault.TheVariants as sealing_fault
use Rattle.io_core.specs.Reads.{ConsumesExactly, ConsumesUpTo}
use Rattle.io_core.specs.Streams.{Appends, Consumes, IsAtEnd, Keeps, counted}
use Rattle.io_core.specs.Views.{IoView}
use Rattle.sealing_core.specs.Order.{HasBegun, IsCutOff, behind, chunks_so_far}
use Rattle.sealing_core.specs.Pipe.{read_failed, write_failed}

-- full rounds were read and written whole, and the round in hand was read and dropped; the byte after each of those
-- rounds is within the limit
abbrev pub DropsInHand : List ℕ → List ℕ → List ℕ → ℕ → ℕ → IoView → IoView → Type 0
DropsInHand front key header most window old new = (past : List ℕ) × (held : List ℕ) × (rounds : ℕ)
    × Consumes old.left new.left (past ++ held) × (length past ≡ rounds * (window * size_in header))
    × (0 < length past → length past < most) × (0 < length held) × (length held ≤ window * size_in header + 1)
    × Appends old.taken new.taken (chunks_so_far front key header past)

-- The input is what the reader had left, if that is known. `front`, the header, is written before its first chunk and
-- with it.
pub record HasSealedRounds (front key header : List ℕ) (most window : ℕ) (old new : IoView)
    (result : Result ℕ SealFault) : Type 0 where
  -- nothing is left unread
  pub end : OnOk result (IsAtEnd new.left)
  -- what was written is the front, and STREAM of the input's chunks
  pub written : OnOk result (IfSome old.left (λ input. Appends old.taken new.taken (behind front key header input)))
  -- the result is the input's length, which is within the limit
  pub answer : IfOk result (λ n. IfSome old.left (λ input. n ≡ length input))
  pub within : OnOk result (IfSome old.left (λ input. length input ≤ most))
  -- of an input that is too long one byte past the limit was read, and never another; the rounds before the one in hand
  -- were written
  pub more : result ≡ Err sealing_fault.TooLong → IfSome old.left (λ input. most < length input)
  pub one : result ≡ Err sealing_fault.TooLong → ConsumesExactly old.left new.left (most + 1)
  pub bound : ConsumesUpTo old.left new.left (most + 1)
  pub dropped : result ≡ Err sealing_fault.TooLong → DropsInHand front key header most window old new
  -- on a fault a front of that was written, and if a write failed not all
  pub begun : OnErr result (HasBegun front key header old.left old.taken new.taken)
  pub short : result ≡ Err sealing_fault.Write → IsCutOff front key header old.left old.taken new.taken
  -- memory is refused only before anything is written
  pub unwritten : result ≡ Err sealing_fault.OutOfMemory → Keeps old.taken new.taken
  -- the length is limited in bytes, not chunks
  pub by_bytes : result ≢ Err sealing_fault.TooManyChunks
  -- the result is `Read` if and only if a read failed, and `Write` if and only if a write failed
  pub read : new.read_failures ≡ counted (read_failed result) old.read_failures
  pub write : new.write_failures ≡ counted (write_failed result) old.write_failures
