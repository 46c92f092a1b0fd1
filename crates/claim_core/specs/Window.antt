-- The number of chunks of a round of a file if none is asked for. `chunk` is the plaintext bytes of a chunk.
use Rattle.std.specs.Prelude.{ℕ, ◌/◌, ◌==◌, min, max, if◌then◌else◌, ◌^◌}

-- as many as `bytes` have: with one worker at least 1 and at most 16; with several at least one each and at most 256
abbrev pub chunks_in : ℕ → ℕ → ℕ → ℕ
chunks_in bytes chunk workers = if workers == 1 then max (min (bytes / chunk) 16) 1
    else max (min (bytes / chunk) 256) workers

-- for sealing: as many as 1 MiB has
abbrev pub usual : ℕ → ℕ → ℕ
usual chunk workers = chunks_in (2 ^ 20) chunk workers

-- for opening or checking: as many as 256 KiB has
abbrev pub usual_opening : ℕ → ℕ → ℕ
usual_opening chunk workers = chunks_in (2 ^ 18) chunk workers
