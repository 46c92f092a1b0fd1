-- A window over an input, as contracts see it.
use Rattle.std.specs.Prelude.{ℕ, List}

-- the bytes that it holds, and how many it has room for
pub record WindowView : Type 0 where
  pub held : List ℕ
  pub room : ℕ
