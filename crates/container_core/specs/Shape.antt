-- The shape of a container: its version, the size of its chunks, and in version 2 a label.
use Rattle.std.specs.Prelude.{◌≡◌, ℕ, ◌≤◌, ◌^◌, List, length, Option, Some, None, IfSome}

-- the exponent of the size of the chunks, and the label; version 1 has none
pub record ShapeView : Type 0 where
  pub exponent : ℕ
  pub label : Option (List ℕ)

-- version 1: chunks of 2 ^ 16 bytes
abbrev pub one : ShapeView
one = record { exponent = 16; label = None }

-- version 2
abbrev pub two : ℕ → List ℕ → ShapeView
two exponent label = record { exponent = exponent; label = Some label }

-- the exponents that version 2 has
pub record IsExponent (exponent : ℕ) : Type 0 where
  pub least : 12 ≤ exponent
  pub most : exponent ≤ 20

-- version 1 has one exponent. (A label whose length is a byte has at most 255 bytes.)
abbrev pub IsShapeOf : ℕ → Option (List ℕ) → Type 0
IsShapeOf exponent None = exponent ≡ 16
IsShapeOf exponent (Some label) = IsExponent exponent

abbrev pub IsShape : ShapeView → Type 0
IsShape shape = IsShapeOf shape.exponent shape.label

-- a label has at most 255 bytes
abbrev pub IsShort : Option (List ℕ) → Type 0
IsShort label = IfSome label (λ bytes. length bytes ≤ 255)

-- how many plaintext bytes every chunk but the last has
abbrev pub size_of : ShapeView → ℕ
size_of shape = 2 ^ shape.exponent
