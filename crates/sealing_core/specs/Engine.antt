-- What the contracts of the engines that seal cite: what an engine did with its reader and its writer.
use Rattle.std.specs.Prelude.{◌≡◌, ◌≢◌, ℕ, ◌+◌, ◌*◌, ◌<◌, ◌≤◌, ◌++◌, Bool, false, List, [], ◌∷◌, length, Option}
use Rattle.std.specs.Prelude.{Result, Ok, Err, IfOk, OnOk, OnErr, IfSome}
use Rattle.container_core.specs.Chunks.{chunks}
use Rattle.container_core.specs.Container.{container, header_of}
use Rattle.container_core.specs.Shape.{ShapeView, size_of}
use Rattle.container_core.specs.declared.fault.SealFault.{SealFault}
use Rattle.container_core.specs.declared.fault.SealFault.TheVariants as sealing_fault
use Rattle.container_core.specs.Faults.{is_failed_read, is_failed_write}
use Rattle.container_core.specs.Stream.{stream_by}
use Rattle.io_core.specs.Reads.{ConsumesExactly, ConsumesUpTo}
use Rattle.io_core.specs.Streams.{Appends, AppendsFront, Consumes, IsAtEnd, Keeps, LacksSome, counted}
use Rattle.io_core.specs.Views.{IoView}

-- whether a sealing ended by a failed read
abbrev pub seal_read_failed : {A : Type 0} → Result A SealFault → Bool
seal_read_failed (Ok value) = false
seal_read_failed (Err fault) = is_failed_read fault

-- whether a sealing ended by a failed write
abbrev pub seal_write_failed : {A : Type 0} → Result A SealFault → Bool
seal_write_failed (Ok value) = false
seal_write_failed (Err fault) = is_failed_write fault

-- What an engine that seals did with its reader, which had `left` left before and `left'` after.
pub record HasReadPlain {A : Type 0} (most : ℕ) (left left' : Option (List ℕ)) (failures failures' : Option ℕ)
    (result : Result A SealFault) : Type 0 where
  -- nothing is left unread
  pub end : OnOk result (IsAtEnd left')
  -- an input that is too long has more bytes; of these one past the longest was read
  pub more : result ≡ Err sealing_fault.TooLong → IfSome left (λ input. most < length input)
  pub too_long : result ≡ Err sealing_fault.TooLong → ConsumesExactly left left' (most + 1)
  pub bound : ConsumesUpTo left left' (most + 1)
  -- a failed read is Read, and no other fault is
  pub read : failures' ≡ counted (seal_read_failed result) failures

-- What it did with its writer. The input is what the reader had left.
pub record HasWrittenContainer (key : List ℕ) (shape : ShapeView) (prefix : List ℕ) (most : ℕ) (old new : IoView)
    (result : Result ℕ SealFault) : Type 0 where
  -- what was written is the container of the whole input
  pub written : OnOk result
      (IfSome old.left (λ input. Appends old.taken new.taken (container key shape prefix input)))
  pub within : OnOk result (IfSome old.left (λ input. length input ≤ most))
  -- where a write failed, a proper prefix of that was written; at another fault nothing
  pub unwritten : result ≢ Err sealing_fault.Write → OnErr result (Keeps old.taken new.taken)
  pub begun : result ≡ Err sealing_fault.Write
      → IfSome old.left (λ input. AppendsFront old.taken new.taken (container key shape prefix input))
  pub short : result ≡ Err sealing_fault.Write
      → IfSome old.left (λ input. LacksSome old.taken new.taken (container key shape prefix input))
  -- a failed write is Write, and no other fault is
  pub write : new.write_failures ≡ counted (seal_write_failed result) old.write_failures
  -- the result is the input's length
  pub length : IfOk result (λ n. IfSome old.left (λ input. n ≡ length input))

-- what was written begins the container of the input, or of some plaintext where the input isn't known
abbrev pub BeginsContainer : List ℕ → ShapeView → List ℕ → Option (List ℕ) → Option (List ℕ) → Option (List ℕ) → Type 0
BeginsContainer key shape prefix left taken taken' = (plain : List ℕ) × IfSome left (λ input. input ≡ plain)
    × AppendsFront taken taken' (container key shape prefix plain)

-- the same, and not all of it
abbrev pub CutsContainer : List ℕ → ShapeView → List ℕ → Option (List ℕ) → Option (List ℕ) → Option (List ℕ) → Type 0
CutsContainer key shape prefix left taken taken' = (plain : List ℕ) × IfSome left (λ input. input ≡ plain)
    × AppendsFront taken taken' (container key shape prefix plain)
    × LacksSome taken taken' (container key shape prefix plain)

-- what is written once these bytes are sealed in full rounds of chunks of a size, none of which is the last: nothing
-- before the first round
abbrev pub rounds_so_far : ℕ → List ℕ → List ℕ → List ℕ → List ℕ
rounds_so_far size key header [] = []
rounds_so_far size key header (byte ∷ bytes) = header ++ stream_by key header 0 false (chunks size (byte ∷ bytes))

-- what was read is some full rounds, which were written whole, and the current round, which was dropped; the byte that
-- follows each of those rounds is within the limit
abbrev pub DropsRound : List ℕ → ShapeView → List ℕ → ℕ → ℕ → IoView → IoView → Type 0
DropsRound key shape prefix most window old new = (past : List ℕ) × (held : List ℕ) × (rounds : ℕ)
    × Consumes old.left new.left (past ++ held) × (length past ≡ rounds * (window * size_of shape))
    × (0 < length past → length past < most) × (0 < length held) × (length held ≤ window * size_of shape + 1)
    × Appends old.taken new.taken (rounds_so_far (size_of shape) key (header_of key shape prefix) past)

-- What an engine that seals in rounds of `window` chunks did with its writer. The input is what the reader had left.
pub record HasWrittenRounds (key : List ℕ) (shape : ShapeView) (prefix : List ℕ) (most window : ℕ) (old new : IoView)
    (result : Result ℕ SealFault) : Type 0 where
  -- what was written is the container of the whole input
  pub written : OnOk result
      (IfSome old.left (λ input. Appends old.taken new.taken (container key shape prefix input)))
  pub within : OnOk result (IfSome old.left (λ input. length input ≤ most))
  -- at a fault a prefix of that was written, and where a write failed not all
  pub begun : OnErr result (BeginsContainer key shape prefix old.left old.taken new.taken)
  pub short : result ≡ Err sealing_fault.Write → CutsContainer key shape prefix old.left old.taken new.taken
  -- of an input that is too long the rounds before the current one were written
  pub dropped : result ≡ Err sealing_fault.TooLong → DropsRound key shape prefix most window old new
  -- where memory is refused, nothing was written
  pub unwritten : result ≡ Err sealing_fault.OutOfMemory → Keeps old.taken new.taken
  -- a failed write is Write, and no other fault is
  pub write : new.write_failures ≡ counted (seal_write_failed result) old.write_failures
  -- the result is the input's length
  pub length : IfOk result (λ n. IfSome old.left (λ input. n ≡ length input))
