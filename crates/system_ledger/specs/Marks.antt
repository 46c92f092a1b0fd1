-- The marks of a ledger, and which other marks keep them: with these no key and device has fewer numbers.
use Rattle.std.specs.Prelude.{◌≡◌, ◌≤ℤ◌, List}
use Rattle.std.specs.List.{All, Any}
use Rattle.system_ledger.specs.declared.marks.Mark.{Mark}

-- the other mark has the same key and device, and its next number is not less
pub record IsKeptBy (mark other : Mark) : Type 0 where
  pub key : other.key.items ≡ mark.key.items
  pub device : other.device ≡ mark.device
  pub next : mark.next ≤ℤ other.next

-- each of these marks is kept by one of the others
abbrev pub AreKeptBy : List Mark → List Mark → Type 0
AreKeptBy marks others = All (λ mark. Any (IsKeptBy mark) others) marks
