-- The round in hand, and the last block.
use Rattle.std.specs.Prelude.{◌≡◌, ℕ, ◌+◌, ◌*◌, ◌^◌, ◌<◌, ◌≤◌, true, false, List, [], ◌∷◌, length, take, Option}
use Rattle.std.specs.Prelude.{if◌then◌else◌, ◌⊎◌, ⊤}
use Rattle.std.specs.VecDeque.{deque_capacity}
use Rattle.container_core.specs.Container.{size_in}
use Rattle.sealing_core.specs.declared.piece.Task.{Task}
use Rattle.sealing_core.specs.declared.round.Plan.{Plan}
use Rattle.sealing_core.specs.declared.round.Round.{Round}
use Rattle.sealing_core.specs.declared.early.Early.{Early}
use Rattle.sealing_core.specs.Hands.{HandsView}
use Rattle.sealing_core.specs.Intake.{HasRead}
use Rattle.sealing_core.specs.Order.{IsOrdered}
use Rattle.sealing_core.specs.Pieces.{block, room, IsBlock, IsChunk, IsPart, IsTask, task_numbers}
use Rattle.container_core.specs.Chunks.{max_chunks}

-- something may be read, no round is empty or larger than what may be held, and chunk numbers have 32 bits. So do those
-- of a block after the last byte of the limit. If a round waits for the next one to be put, two may be held
pub record IsPlan (each : ℕ) (header : List ℕ) (plan : Plan) : Type 0 where
  pub limit : (0 < plan.limit) × (plan.limit ≤ 2 ^ 53)
  pub group : 0 < plan.group
  pub depth : plan.group ≤ plan.depth
  pub rounds : (plan.eager ≡ true) ⊎ (2 * plan.group ≤ plan.depth)
  pub same : plan.each ≡ each
  pub fits : IsBlock each header
  pub numbers : plan.limit + block each header ≤ 2 ^ 32 * size_in header + 1

-- jobs, of which the first has this number
abbrev pub AreJobs : ℕ → List ℕ → Option (List ℕ) → ℕ → List Task → Type 0
AreJobs each header told number [] = ⊤
AreJobs each header told number (t ∷ ts) = IsTask each header told t × (task_numbers t ≡ number ∷ [])
    × AreJobs each header told (number + 1) ts

-- the last block is in its buffer, until it is sealed there
pub record IsLast (each : ℕ) (key header : List ℕ) (told : Option (List ℕ)) (number : ℕ) (round : Round) : Type 0 where
  pub long : length round.last.items ≡ room each header
  pub filled : round.is_sealed ≡ false → round.filled ≤ block each header
  pub within : round.filled ≤ room each header
  pub plain : round.is_sealed ≡ false
      → IsChunk (block each header) told number true (take round.filled round.last.items)
  pub sealed : round.is_sealed ≡ true → IsPart each key header told number true (take round.filled round.last.items)

-- the last block of the input is in its buffer, and its chunk numbers have 32 bits
pub record MayEnd (each : ℕ) (header : List ℕ) (round : Round) : Type 0 where
  pub some : 0 < round.intake.blocks
  pub numbers : each * round.intake.blocks ≤ max_chunks
  pub long : length round.last.items ≡ room each header
  pub filled : round.is_sealed ≡ false → round.filled ≤ block each header
  pub within : round.filled ≤ room each header

-- after `put` blocks that were put these are in hand, and the last one if the input ended
pub record IsInHand (each : ℕ) (key header : List ℕ) (told left : Option (List ℕ)) (limit put : ℕ) (round : Round)
    : Type 0 where
  pub read : HasRead (block each header) limit told left round.intake
  pub jobs : AreJobs each header told put round.held.items
  pub count : round.intake.blocks ≡ put + length round.held.items + (if round.intake.ended then 1 else 0)
  pub few : round.intake.blocks ≤ max_chunks
  pub numbers : each * round.intake.blocks ≤ max_chunks
  pub unsealed : round.intake.ended ≡ false → round.is_sealed ≡ false
  pub last : round.intake.ended ≡ true → IsLast each key header told (put + length round.held.items) round

-- `put` blocks were put, in full rounds, and the byte after them is within the limit
abbrev pub AreRounds : ℕ → ℕ → ℕ → ℕ → Type 0
AreRounds size limit group put = (rounds : ℕ) × (put ≡ rounds * group) × (0 < put → put * size + 1 < limit)

-- no full round is in hand, and no job if the input ended
abbrev pub IsHanded : ℕ → Round → Type 0
IsHanded group round = (round.intake.ended ≡ false → length round.held.items < group)
    × (round.intake.ended ≡ true → round.held.items ≡ [])

-- what was read, put, and is in hand
pub record IsUnderWay (each : ℕ) (key header : List ℕ) (told left : Option (List ℕ)) (plan : Plan) (early : Early)
    (hands : HandsView) (round : Round) : Type 0 where
  pub put : ℕ
  pub order : IsOrdered each key header told put early hands.jobs hands.pieces
  pub hand : IsInHand each key header told left plan.limit put round
  pub rounds : round.intake.ended ≡ false → AreRounds (block each header) plan.limit plan.group put

-- what the caller's thread begins with: at most one round was read, and nothing was put
pub record IsRead (each : ℕ) (key header : List ℕ) (told left : Option (List ℕ)) (plan : Plan) (round : Round)
    : Type 0 where
  pub hand : IsInHand each key header told left plan.limit 0 round
  pub few : length round.held.items ≤ plan.group
  pub room : plan.group ≤ deque_capacity round.held
  pub within : round.intake.over ≡ false
