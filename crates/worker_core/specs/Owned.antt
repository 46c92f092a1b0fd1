-- A round that owns its bytes, as contracts see it.
use Rattle.std.specs.Prelude.{ℕ, List}
use Rattle.worker_core.specs.Views.{RoundView}

-- the round; all bytes of its buffer, which may have more after the round's; and how many the buffer has room for
pub record OwnedView : Type 0 where
  pub round : RoundView
  pub bytes : List ℕ
  pub room : ℕ
