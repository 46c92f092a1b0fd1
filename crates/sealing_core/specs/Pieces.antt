-- What a job and a piece are, in terms of the input if it is known. Both are a block: `each` consecutive chunks. Only
-- the input's last block may have fewer.
use Rattle.std.specs.Prelude.{◌≡◌, ℕ, ◌+◌, ◌*◌, ◌^◌, ◌<◌, ◌≤◌, Bool, true, false, List, [], ◌∷◌, ◌++◌, length, take}
use Rattle.std.specs.Prelude.{Option, IfSome, ⊤}
use Rattle.container_core.specs.Chunks.{chunks, max_chunks}
use Rattle.container_core.specs.Container.{size_in}
use Rattle.container_core.specs.Stream.{stream_by}
use Rattle.sealing_core.specs.declared.piece.Task.{Task}
use Rattle.sealing_core.specs.declared.piece.Task.TheVariants.{Job, Stop}
use Rattle.sealing_core.specs.declared.piece.Piece.{Piece}

-- plaintext bytes of a block of `each` chunks, under a header
abbrev pub block : ℕ → List ℕ → ℕ
block each header = each * size_in header

-- the bytes of a sealed block: each chunk has its tag after it
abbrev pub room : ℕ → List ℕ → ℕ
room each header = each * (size_in header + 16)

-- a block has at least one chunk, and is no longer than the longest chunk
abbrev pub IsBlock : ℕ → List ℕ → Type 0
IsBlock each header = (0 < each) × (block each header ≤ 2 ^ 20)

-- the bytes are in the input after `number` full blocks of `size` bytes; something follows, unless it is the last
pub record StandsIn (size : ℕ) (input : List ℕ) (number : ℕ) (last : Bool) (chunk : List ℕ) : Type 0 where
  pub before : List ℕ
  pub after : List ℕ
  pub is : input ≡ before ++ (chunk ++ after)
  pub behind : length before ≡ number * size
  pub more : last ≡ false → 0 < length after
  pub end : last ≡ true → after ≡ []

-- the part of this number of an input cut into parts of `size` bytes: a full one, or the last
pub record IsChunk (size : ℕ) (told : Option (List ℕ)) (number : ℕ) (last : Bool) (chunk : List ℕ) : Type 0 where
  pub few : length chunk ≤ size
  pub full : last ≡ false → length chunk ≡ size
  pub some : 0 < number → 0 < length chunk
  pub of : IfSome told (λ input. StandsIn size input number last chunk)

-- the bytes are the sealed chunks of the block of this number. Chunk numbers continue those of the blocks before. In
-- the last block the last chunk is STREAM's last
pub record IsPart (each : ℕ) (key header : List ℕ) (told : Option (List ℕ)) (number : ℕ) (last : Bool) (bytes : List ℕ)
    : Type 0 where
  pub text : List ℕ
  pub chunk : IsChunk (block each header) told number last text
  pub is : bytes ≡ stream_by key header (each * number) last (chunks (size_in header) text)

-- a job is a number and that full block of the input, in a buffer with room for its tags; its chunk numbers have 32
-- bits
abbrev pub IsTask : ℕ → List ℕ → Option (List ℕ) → Task → Type 0
IsTask each header told (Job number buffer) = (length buffer.items ≡ room each header)
    × IsChunk (block each header) told number false (take (block each header) buffer.items)
    × (each * (number + 1) ≤ max_chunks)
IsTask each header told Stop = ⊤

-- a piece is a number and that block's sealed bytes
abbrev pub IsPiece : ℕ → List ℕ → List ℕ → Option (List ℕ) → Piece → Type 0
IsPiece each key header told piece = (length piece.buffer.items ≡ room each header)
    × IsPart each key header told piece.number false piece.buffer.items

abbrev pub task_numbers : Task → List ℕ
task_numbers (Job number buffer) = number ∷ []
task_numbers Stop = []

abbrev pub piece_numbers : Piece → List ℕ
piece_numbers piece = piece.number ∷ []
