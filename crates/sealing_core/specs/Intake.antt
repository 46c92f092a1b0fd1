-- What the caller's thread has read of the input.
use Rattle.std.specs.Prelude.{◌≡◌, ℕ, ◌+◌, ◌*◌, ◌<◌, ◌≤◌, true, false, List, [], ◌∷◌, ◌++◌, length, Option, Some, None}
use Rattle.io_core.specs.Streams.{Consumes, IsAtEnd}
use Rattle.sealing_core.specs.declared.intake.Intake.{Intake}

-- the byte that was seen after the blocks
abbrev pub seen : Option ℕ → List ℕ
seen None = []
seen (Some byte) = byte ∷ []

-- whole blocks, and the byte after the last of them; no byte before the first
pub record IsGoing (size : ℕ) (intake : Intake) (bytes : List ℕ) : Type 0 where
  pub past : List ℕ
  pub read : bytes ≡ past ++ seen intake.ahead
  pub whole : length past ≡ intake.blocks * size
  pub first : intake.blocks ≡ 0 → intake.ahead ≡ None
  pub behind : 0 < intake.blocks → length (seen intake.ahead) ≡ 1

-- what was read of what the reader had at first: fewer bytes than the limit so far; or all of them; or as many as the
-- limit, and it is too long
pub record HasRead (size limit : ℕ) (left left' : Option (List ℕ)) (intake : Intake) : Type 0 where
  pub bytes : List ℕ
  pub consumed : Consumes left left' bytes
  pub bound : length bytes ≤ limit
  pub sum : intake.ended ≡ false → intake.total ≡ intake.blocks * size
  pub going : intake.ended ≡ false → intake.over ≡ false → IsGoing size intake bytes × (length bytes < limit)
  pub end : intake.ended ≡ true → IsAtEnd left' × (intake.total ≡ length bytes) × (length bytes < limit)
  pub over : intake.over ≡ true → (length bytes ≡ limit) × (limit ≤ intake.total + size + 1)
