-- The log beside an empty ledger file, after a run was cut off while it made the two.
use Rattle.std.specs.Prelude.{◌≡◌, ◌⊎◌, ◌≤◌, ℕ, List, [], length, slice_index, slice_set, take}
use Rattle.sqlite_wal.specs.Format.{be32, IsSigned}
use Rattle.sqlite_wal.specs.Recovery.{Passes}

-- no frame of the log has checksums that hold, for pages of any size
abbrev pub HasNoFrame : List ℕ → Type 0
HasNoFrame log = (page_size i : ℕ) → 512 ≤ page_size → ¬ Passes page_size log i

-- the header has the number of the first round: that of a log made with its file, never of one begun by a fold
abbrev pub IsOfFirstRound : List ℕ → Type 0
IsOfFirstRound log = (16 ≤ length log) × (be32 log 12 ≡ 0xffff_ffff)

-- The first byte is 0, as from the first write of a log until its header is whole.
abbrev pub IsShut : List ℕ → Type 0
IsShut log = slice_index log 0 ≡ 0

-- there is a header whose checksum holds once the first byte is set
abbrev pub HasLogHeader : List ℕ → Type 0
HasLogHeader log = (32 ≤ length log) × IsSigned (slice_set (take 32 log) 0 0x37)

-- It has no room for a frame with a page. It is empty, or of the first round, or was cut off in a write of its header.
abbrev pub HasOnlyBegun : List ℕ → Type 0
HasOnlyBegun log = (length log ≤ 56) × ((log ≡ []) ⊎ (IsOfFirstRound log ⊎ (IsShut log × (¬ HasLogHeader log))))
