-- What `pipe` writes to its output, where it is known what its input has.
use Rattle.std.specs.Prelude.{◌≡◌, ◌⊎◌, ℕ, List, [], ◌∷◌, Option, Some, IfSome, codes, length}
use Rattle.clap.specs.Matches.{first_value, found_of}
use Rattle.clap.specs.declared.parser.matches.ArgMatches.{ArgMatches}
use Rattle.container_core.specs.Container.{container}
use Rattle.container_core.specs.Shape.{ShapeView}
use Rattle.io_core.specs.Streams.{Appends, AppendsFront, Keeps}
use Rattle.journal_core.specs.Range.{prefix_of}
use Rattle.command_core.specs.declared.line.FileFault.TheVariants.{NoNumber, Unsealed}
use Rattle.command_core.specs.declared.line.FileOutcome.{FileOutcome}
use Rattle.command_core.specs.declared.line.FileOutcome.TheVariants.{Sealed, Failed}
use Rattle.command_line.specs.Asked.{shape_asked}
use Rattle.command_line.specs.Given.{number_given}
use Rattle.sealer.specs.Status.{IsStatusOf}

-- Under this key, in this shape and with this device, over an output that had taken `old` and has taken `new` now.
module _ (key : List ℕ) (shape : ShapeView) (device : ℕ) (input old new : Option (List ℕ)) where
  -- It took a front of the container of the input under some number: nothing, a part or all of it.
  abbrev pub TakesFront : Type 0
  TakesFront = (number : ℕ)
      × IfSome input (λ plain. AppendsFront old new (container key shape (prefix_of device number) plain))

  -- An outcome that `pipe` can have. At `sealed` the output took the container of all of the input under the number of
  -- the line, which has the input's length too. At `no number` it took nothing.
  abbrev pub IsOfPiping : FileOutcome → Type 0
  IsOfPiping (Sealed number bytes) = IfSome input (λ plain. (bytes ≡ length plain)
      × Appends old new (container key shape (prefix_of device number) plain))
  IsOfPiping (Failed NoNumber) = Keeps old new
  IsOfPiping (Failed (Unsealed fault)) = TakesFront
  IsOfPiping _ = ⊥

  -- What became of the stream, whatever the status is, and the status and the line that standard error took.
  abbrev pub PipesUnder : ℕ → Option (List ℕ) → Option (List ℕ) → Type 0
  PipesUnder status errors errors' = TakesFront × IsStatusOf (λ name. IsOfPiping) status (codes "-" ∷ []) errors errors'

-- The status is 2 and the output took nothing; or, under some key, in the shape and with the device that the options ask
-- for, it took a front of the input's container. Then the status is 2, or standard error has the stream's line and the
-- output took what that says.
abbrev pub PipesAsAsked : ArgMatches → Option (List ℕ) → ℕ → Option (List ℕ) → Option (List ℕ) → Option (List ℕ)
    → Option (List ℕ) → Type 0
PipesAsAsked matches input status old new errors errors' = ((status ≡ 2) × Keeps old new)
    ⊎ ((key : List ℕ) × (device : ℕ) × (number_given matches (codes "device") ≡ Some device)
    × PipesUnder key (shape_asked (number_given matches (codes "exponent"))
    (first_value (found_of matches) (codes "label"))) device input old new status errors errors')
