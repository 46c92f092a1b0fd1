-- Cuts, as contracts see them; and what a header always holds.
use Rattle.std.specs.Prelude.{ℕ, ◌*◌, ◌≤◌, List, length, slice_index}
use Rattle.container_core.specs.Chunks.{max_chunks, most_chunk}

-- a cut is a size of chunks and the number of plaintext bytes
pub record CutView : Type 0 where
  pub size : ℕ
  pub plain : ℕ

pub record IsCut (cut : CutView) : Type 0 where
  pub least : 4096 ≤ cut.size
  pub most : cut.size ≤ most_chunk
  pub few : cut.plain ≤ max_chunks * cut.size

-- what always holds of a header's bytes
pub record IsHeader (bytes : List ℕ) : Type 0 where
  pub least : 12 ≤ slice_index bytes 9
  pub most : slice_index bytes 9 ≤ 20
  pub long : 24 ≤ length bytes
