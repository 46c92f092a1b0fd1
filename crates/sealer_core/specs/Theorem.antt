-- No nonce is used twice: any runs under one key, and the chunks that their outputs held.
-- A run is a call of `seal_all` or `pipe_all` at one moment: after it ended, or when it was killed, also within a write.
-- What is known of it is the same in all cases: the record of its outputs, with what each held by then (`whole`). It is
-- sound: each output holds a prefix of what it may, and no two have one number. A call that reserved no numbers of the key
-- and device, or ended or was killed before its record had the key, wrote nothing under them: it is between two runs.
-- Assumed is:
-- - The record is known (`rest` and `taken` are `Some`), and true; or, of a `pipe_all` that ended, what its reader and
--   writer report. The program's own tell nothing of real files; but a call can't know which it has, and does the same.
-- - A run's keeper was made of the ledger's files that it found. (`IsFound`.)
-- - Nobody else writes these files, rolls them back or uses a copy. What happens between two runs passes on the ranges
--   that were found. (`PassesOn`: what the files held they still hold. Laws of `reserve_core` show it of most calls.)
-- - A disk returns what was written to it, and keeps what was synced. (`AreClean`, `outcomes`.)
-- - No two ledger files share key and device. (All runs of a device are in one list.)
-- - A chunk's number has 32 bits. (`HasChunk`. The limits of calls allow no more chunks.)
-- - Of killed runs: the ledger file shown to `start` is the call's own. A write that was cut off left a front of its bytes.
use Rattle.std.specs.Prelude.{◌≡◌, ◌⊎◌, ℕ, suc, ◌+◌, ◌*◌, ◌^◌, ◌<◌, ◌≤◌, List, [], ◌∷◌, length, slice_get, None, Some}
use Rattle.sha2.specs.Sha256.{sha256}
use Rattle.io_core.specs.Streams.{IsFront}
use Rattle.container_core.specs.Chunks.{tag_size}
use Rattle.container_core.specs.Container.{container, header_of}
use Rattle.container_core.specs.Nonces.{container_nonces}
use Rattle.container_core.specs.Shape.{ShapeView, size_of}
use Rattle.folder_core.specs.Changes.{allowed, new_output, started, stream_name, whole}
use Rattle.folder_core.specs.Record.{Container, Created, IsSound, Output, RunRecord}
use Rattle.journal_core.specs.Range.{IsLawfulRange, Numbers}
use Rattle.sqlite.specs.Files.{over_files}
use Rattle.sqlite.specs.Held.{Held}
use Rattle.sqlite_disk.specs.declared.Disk.{Ghosts}
use Rattle.sqlite_disk.specs.declared.Files.{Files}
use Rattle.sqlite_store.specs.declared.store.FileStore.{FileStore}
use Rattle.sqlite_wal.specs.Files.{outcomes}
use Rattle.sqlite_wal.specs.Reads.{AreClean}
use Rattle.sqlite_wal.specs.Recovery.{Image}
use Rattle.ranges_core.specs.Reservations.{Lists, next_of}
use Rattle.reserve_core.specs.NextRun.{AreIn, IsFound, PassesOn}
use Rattle.sealer_core.specs.Sealing.{FoldsFiles, range_asked}

-- ---- a run

-- A run, over any disk: the ledger's files as found, and as its fold left them, perhaps over a crash; its outputs' record.
pub record Run : Type 0 where
  pub start : Image
  pub files : Image
  pub written : RunRecord

-- The record is of this key and range.
abbrev pub IsKeyedBy : List ℕ → Numbers → RunRecord → Type 0
IsKeyedBy key range r = r.under ≡ Some (record { key = key; range = range })

-- A run under the key as a device.
pub record IsRun (key : List ℕ) (device : ℕ) (run : Run) : Type 0 where
  -- its range is a lawful one of the device
  pub range : Numbers
  pub keyed : IsKeyedBy key range run.written
  pub lawful : IsLawfulRange range
  pub of_device : range.device ≡ device
  pub sound : ∥ IsSound run.written ∥₁
  -- the range is after all of the key's and device's that the files held before it
  pub behind : (lists : Lists) → AreIn lists run.start → next_of (lists (sha256 key) device) ≤ range.lo
  -- and after it they hold lists over which the next range begins no earlier than this one ends
  pub stands : (lists : Lists) × AreIn lists run.files × (range.lo + range.size ≤ next_of (lists (sha256 key) device))

-- Any runs under the key: those of each device in order, on its ledger file. What one left there is still held at the next.
pub record AreRunsOf (key : List ℕ) (runs : ℕ → List Run) : Type 0 where
  pub each : (device i : ℕ) (run : Run) → slice_get (runs device) i ≡ Some run → IsRun key device run
  pub in_turn : (device i : ℕ) (one other : Run) → slice_get (runs device) i ≡ Some one
      → slice_get (runs device) (suc i) ≡ Some other → PassesOn one.files other.start

-- ---- a call: its ledger file, and a stream without a record

-- The call's keeper was made of what it found in the files. It reserved this range and folded it, the disk returned what
-- was written, and these files were left.
abbrev pub FoldsFrom : {D F : Type 0} {g : Ghosts D} → (Held (FileStore D g) → F) → (Files D → F) → List ℕ → ℕ → Image
    → Files D → Numbers → Type 0
FoldsFrom {g} kept folded key_id device start left range = (count : ℕ) × (keeper : _) × IsFound over_files start keeper
    × FoldsFiles kept folded (range_asked key_id device count) (kept keeper) (folded left) range × AreClean g left.log left.db

-- A crash left this of the two files that a run folded, as the contract of their disk allows; or it left this, and the
-- log was lost.
abbrev pub IsLeftOf : {D : Type 0} → Ghosts D → Files D → Image → Type 0
IsLeftOf g left files = (crashed : Image) × outcomes g left.log left.db crashed
    × ((files ≡ crashed) ⊎ (files ≡ record crashed { log = [] }))

-- The record of a run that has one output: a stream that waits.
abbrev pub stream_record : List ℕ → Numbers → RunRecord
stream_record key range =
    started key range (record { under = None; entries = Created (new_output stream_name) ∷ []; in_hand = None })

-- The same after the stream took these bytes, in hand under some number; or no container began, and they are none.
abbrev pub IsOfStream : List ℕ → Numbers → ShapeView → List ℕ → RunRecord → Type 0
IsOfStream key range shape bytes r = ((bytes ≡ []) × (r ≡ stream_record key range))
    ⊎ ((number : ℕ) × (r ≡ whole (allowed 0 (Container number shape) (stream_record key range)) bytes))

-- ---- outputs and chunks

-- Where an output is: its device, its run among those of the device, and its place in the record of the run.
pub record Position : Type 0 where
  pub device : ℕ
  pub run : ℕ
  pub entry : ℕ

-- At this place is an output that may hold a container, under a number and in a shape.
pub record IsOutputAt (runs : ℕ → List Run) (place : Position) : Type 0 where
  pub run : Run
  pub at_run : slice_get (runs place.device) place.run ≡ Some run
  pub output : Output
  pub at_entry : slice_get run.written.entries place.entry ≡ Some (Created output)
  pub number : ℕ
  pub shape : ShapeView
  pub content : output.content ≡ Container number shape

-- The bytes begin some container under the key, and have some of this chunk, whose number has 32 bits. It may have been
-- sealed under this nonce: a chunk that is cut may be the last one, or not. Of the key a header has the hint alone.
pub record HasChunk (key bytes : List ℕ) (chunk : ℕ) (nonce : List ℕ) : Type 0 where
  pub shape : ShapeView
  pub prefix : List ℕ
  pub plain : List ℕ
  pub seven : length prefix ≡ 7
  pub begins : IsFront bytes (container key shape prefix plain)
  pub reached : length (header_of key shape prefix) + chunk * (size_of shape + tag_size) < length bytes
  pub numbered : chunk < 2 ^ 32
  pub nonce_is : slice_get (container_nonces key shape prefix plain) chunk ≡ Some nonce
