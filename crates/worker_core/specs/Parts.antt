-- How many bytes the parts and the pieces of a round have.
use Rattle.std.specs.Prelude.{◌≡◌, ℕ, ◌+◌, ◌^◌, ◌≤◌, List, length}
use Rattle.container_core.specs.declared.TheConstants.{TAG}
use Rattle.container_core.specs.Chunks.{body_length, chunk_count}
use Rattle.container_core.specs.Container.{size_in}
use Rattle.container_core.specs.Views.{CutView}
use Rattle.worker_core.specs.declared.round.Task.{Task}
use Rattle.worker_core.specs.declared.round.Task.TheVariants.{Sealing, Opening, Checking}

-- how many bytes the body of a round has, of `plain` plaintext bytes in chunks of `size`: the plaintext, or its sealed
-- chunks
abbrev pub body_bytes : Task → ℕ → ℕ → ℕ
body_bytes Sealing size plain = plain
body_bytes Opening size plain = body_length size plain
body_bytes Checking size plain = body_length size plain

-- how many bytes of room a piece needs
abbrev pub room_of : Task → ℕ → ℕ
room_of Sealing size = size + TAG
room_of Opening size = size
room_of Checking size = 0

-- the most bytes of a part, and the least
abbrev pub part_size : Task → ℕ → ℕ
part_size Sealing size = size
part_size Opening size = size + TAG
part_size Checking size = size + TAG

abbrev pub least_part : Task → ℕ
least_part Sealing = 0
least_part Opening = TAG
least_part Checking = TAG

-- a body is cut into the chunks of its header, as `cut.plain` plaintext bytes are, and the number of each chunk has 32
-- bits
pub record IsCutBy (task : Task) (header : List ℕ) (first : ℕ) (cut : CutView) (body : List ℕ) : Type 0 where
  pub size : cut.size ≡ size_in header
  pub bytes : length body ≡ body_bytes task cut.size cut.plain
  pub numbers : first + chunk_count cut.size cut.plain ≤ 2 ^ 32
