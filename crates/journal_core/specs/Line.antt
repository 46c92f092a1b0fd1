-- Words of a line.
use Rattle.std.specs.Prelude.{◌≢◌, ℕ, ◌<◌, List, length, slice_index}

abbrev pub HasNoSpace : List ℕ → Type 0
HasNoSpace word = (i : ℕ) → i < length word → slice_index word i ≢ 32
