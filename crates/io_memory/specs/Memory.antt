-- The views of the readers and writers in memory.
use Rattle.std.specs.Prelude.{ℕ, List, Option}

-- the view of a reader in memory: the bytes left, and how many calls failed
pub record Reading : Type 0 where
  pub left : List ℕ
  pub failures : Option ℕ

-- the view of a writer in memory: the bytes taken, and how many calls failed
pub record Writing : Type 0 where
  pub taken : List ℕ
  pub failures : Option ℕ

abbrev pub reading : List ℕ → Option ℕ → Reading
reading left failures = record { left = left; failures = failures }

abbrev pub writing : List ℕ → Option ℕ → Writing
writing taken failures = record { taken = taken; failures = failures }
