-- What the contracts of a spooled input cite.
use Rattle.std.specs.Prelude.{ℕ, List, ◌++◌, Option, None, Some, option_map}
use Rattle.folder_core.specs.declared.spool.Stage.{Stage}
use Rattle.folder_core.specs.declared.spool.Stage.TheVariants.{First, Lost, Again}

-- The bytes that were kept, and then those that are left, if both are known.
abbrev pub joined : Option (List ℕ) → Option (List ℕ) → Option (List ℕ)
joined None left = None
joined (Some kept) left = option_map (λ rest. kept ++ rest) left

-- What is left to be read at a stage: of the input, or of the spool.
abbrev pub left_at : Stage → Option (List ℕ) → Option (List ℕ) → Option (List ℕ)
left_at First input spool = input
left_at Lost input spool = input
left_at Again input spool = spool

-- The same of failed reads.
abbrev pub count_at : Stage → Option ℕ → Option ℕ → Option ℕ
count_at First input spool = input
count_at Lost input spool = input
count_at Again input spool = spool
