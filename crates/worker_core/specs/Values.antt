-- What the pieces of a round are.
use Rattle.std.specs.Prelude.{ℕ, ◌+◌, Bool, ◌&&◌, List, [], ◌∷◌, Option, Some, option_map}
use Rattle.container_core.specs.Chunks.{chunks, sealed_chunks}
use Rattle.container_core.specs.Container.{size_in}
use Rattle.container_core.specs.Stream.{is_nil, sealed_chunk, opened_chunk}
use Rattle.worker_core.specs.declared.round.Task.{Task}
use Rattle.worker_core.specs.declared.round.Task.TheVariants.{Sealing, Opening, Checking}
use Rattle.worker_core.specs.Views.{RoundView}

-- what comes of each part of a list, with its number; the last part is the last of all if the flag says so, and no
-- other part is
unfoldable pub numbered : {A : Type 0} → (ℕ → Bool → List ℕ → A) → ℕ → Bool → List (List ℕ) → List A
numbered f number last [] = []
numbered f number last (part ∷ rest) = f number (is_nil rest && last) part ∷ numbered f (number + 1) last rest

-- the parts of a body, by chunk size: the chunks of a plaintext, or sealed chunks
abbrev pub parts_of : Task → ℕ → List ℕ → List (List ℕ)
parts_of Sealing size plain = chunks size plain
parts_of Opening size sealed = sealed_chunks size sealed
parts_of Checking size sealed = sealed_chunks size sealed

-- what comes of one part: the chunk sealed; the chunk opened, if it checks; or no bytes, if it checks
abbrev pub value_at : Task → List ℕ → List ℕ → ℕ → Bool → List ℕ → Option (List ℕ)
value_at Sealing key header number last part = Some (sealed_chunk key header number last part)
value_at Opening key header number last part = opened_chunk key header number last part
value_at Checking key header number last part = option_map (λ _. []) (opened_chunk key header number last part)

-- the values of all pieces of a round, in order; its first chunk has this number, and the flag says whether its last
-- chunk is the last of all
unfoldable pub values_of : Task → List ℕ → List ℕ → ℕ → Bool → List ℕ → List (Option (List ℕ))
values_of task key header first last body =
    numbered (value_at task key header) first last (parts_of task (size_in header) body)

-- a round of a body
abbrev pub round_of : Task → List ℕ → List ℕ → ℕ → Bool → List ℕ → RoundView
round_of task key header first last body =
    record { task = task; size = size_in header; first = first; values = values_of task key header first last body }
