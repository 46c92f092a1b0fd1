-- What the contract of the engine that seals a stream cites.
use Rattle.std.specs.Prelude.{◌≡◌, ◌≢◌, ℕ, ◌+◌, ◌*◌, ◌<◌, ◌≤◌, List, length}
use Rattle.std.specs.Prelude.{Result, Err, IfOk, OnOk, OnErr, IfSome}
use Rattle.container_core.specs.Container.{container, header_of}
use Rattle.container_core.specs.Shape.{ShapeView, size_of}
use Rattle.container_core.specs.declared.fault.SealFault.{SealFault}
use Rattle.container_core.specs.declared.fault.SealFault.TheVariants as sealing_fault
use Rattle.sealing_core.specs.Engine.{seal_read_failed, seal_write_failed}
use Rattle.io_core.specs.Reads.{ConsumesExactly, ConsumesUpTo}
use Rattle.io_core.specs.Streams.{Appends, AppendsFront, IsAtEnd, LacksSome, counted}
use Rattle.io_core.specs.Views.{IoView}

-- What it did with a stream. The input is what the reader had left, where that is known.
pub record HasPipedContainer (key : List ℕ) (shape : ShapeView) (prefix : List ℕ) (most : ℕ) (old new : IoView)
    (result : Result ℕ SealFault) : Type 0 where
  -- nothing is left unread, and what was written is the container of the whole input
  pub end : OnOk result (IsAtEnd new.left)
  pub written : OnOk result
      (IfSome old.left (λ input. Appends old.taken new.taken (container key shape prefix input)))
  -- the result is the input's length
  pub answer : IfOk result (λ n. IfSome old.left (λ input. n ≡ length input))
  -- there are no more chunks than were allowed; where there are more, one byte after these was read, and no other
  pub within : OnOk result (IfSome old.left (λ input. length input ≤ most * size_of shape))
  pub more : result ≡ Err sealing_fault.TooManyChunks
      → IfSome old.left (λ input. most * size_of shape < length input)
  pub one : result ≡ Err sealing_fault.TooManyChunks → ConsumesExactly old.left new.left (most * size_of shape + 1)
  pub bound : ConsumesUpTo old.left new.left (most * size_of shape + 1)
  -- at a fault a prefix of that container was written; where a write failed not all, and where memory was refused no
  -- more than the header
  pub begun : OnErr result
      (IfSome old.left (λ input. AppendsFront old.taken new.taken (container key shape prefix input)))
  pub short : result ≡ Err sealing_fault.Write
      → IfSome old.left (λ input. LacksSome old.taken new.taken (container key shape prefix input))
  pub few : result ≡ Err sealing_fault.OutOfMemory → AppendsFront old.taken new.taken (header_of key shape prefix)
  -- a stream is never too long
  pub endless : result ≢ Err sealing_fault.TooLong
  -- a failed read is Read, a failed write is Write, and no other fault is
  pub read : new.read_failures ≡ counted (seal_read_failed result) old.read_failures
  pub write : new.write_failures ≡ counted (seal_write_failed result) old.write_failures
