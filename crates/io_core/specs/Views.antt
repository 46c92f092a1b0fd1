-- A reader and a writer together, as contracts see them at a moment.
use Rattle.std.specs.Prelude.{ℕ, List, Option}

-- What the reader has left, and how many reads failed; what the writer took, and how many writes failed. Each as far as
-- it is known.
pub record IoView : Type 0 where
  pub left : Option (List ℕ)
  pub read_failures : Option ℕ
  pub taken : Option (List ℕ)
  pub write_failures : Option ℕ

abbrev pub io_view : Option (List ℕ) → Option ℕ → Option (List ℕ) → Option ℕ → IoView
io_view left read_failures taken write_failures =
    record { left = left; read_failures = read_failures; taken = taken; write_failures = write_failures }
