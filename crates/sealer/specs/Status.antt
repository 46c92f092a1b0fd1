-- The exit status of a run, by what it printed.
use Rattle.std.specs.Prelude.{◌≡◌, ◌⊎◌, ◌++◌, ℕ, Bool, List, [], Option, Some, All, codes, false, map, option_map}
use Rattle.clap.specs.Matches.{first_value, found_of}
use Rattle.clap.specs.Simple.{subcommand_rows_of}
use Rattle.clap.specs.Walk.{rows_of}
use Rattle.clap.specs.declared.parser.matches.ArgMatches.{ArgMatches}
use Rattle.io_core.specs.Streams.{Appends}
use Rattle.command_core.specs.declared.line.FileOutcome.{FileOutcome}
use Rattle.command_core.specs.Lines.{FileLine, lines_text, status_of_lines}
use Rattle.command_core.specs.Work.{IsOfOpening, IsOfVerifying}
use Rattle.command_line.specs.Given.{AreFactsAsked, IsFlag}
use Rattle.sealer_core.specs.Sealing.{IsOfSealing}
use Rattle.sealer.specs.declared.OverFiles.{OverFiles}
use Rattle.sealer.specs.declared.OverFiles.TheVariants.{Seal, Read}
use Rattle.command_line.specs.declared.opening.Reading.{Reading}
use Rattle.command_line.specs.declared.opening.Reading.TheVariants.{Open, Verify}
use Rattle.sealer.specs.Names.{AreNames}
use Rattle.system_files.specs.Kept.{IsSplit, kept_text}

-- The status is 2; or the stream took a line for each of these names, in order and whole, each with an outcome that
-- fits. Then the status is that of the lines: 1 if some file failed, else 0.
abbrev pub IsStatusOf : (List ℕ → FileOutcome → Type 0) → ℕ → List (List ℕ) → Option (List ℕ) → Option (List ℕ) → Type 0
IsStatusOf fits status names old new = (status ≡ 2) ⊎ ((lines : List FileLine)
    × (map (λ line. line.name) lines ≡ names) × All (λ line. fits line.name line.outcome) lines
    × (status ≡ status_of_lines lines) × Appends old new (lines_text lines))

-- The same for a command over these files. The status is 2; or with `--skip-existing` a line for each file that is kept
-- comes first, and then the others are processed.
abbrev pub IsStatusOver : (List ℕ → FileOutcome → Type 0) → ArgMatches → ℕ → List (List ℕ) → Option (List ℕ)
    → Option (List ℕ) → Type 0
IsStatusOver fits matches status names old new = (status ≡ 2) ⊎ ((skip : Bool)
    × IsFlag matches (codes "skip-existing") skip
    × (kept : List (List ℕ)) × (others : List (List ℕ)) × IsSplit names kept others × (skip ≡ false → kept ≡ [])
    × (lines : List FileLine) × (map (λ line. line.name) lines ≡ others)
    × All (λ line. fits line.name line.outcome) lines × (status ≡ status_of_lines lines)
    × Appends old new (kept_text kept ++ lines_text lines))

-- The same for the names of the command line and of its list, which `-` reads from the input.
abbrev pub IsStatusOfRun : (List ℕ → FileOutcome → Type 0) → ArgMatches → Option (List ℕ) → ℕ → Option (List ℕ)
    → Option (List ℕ) → Type 0
IsStatusOfRun fits matches input status old new = (status ≡ 2) ⊎ ((names : List (List ℕ))
    × AreNames matches input names × IsStatusOver fits matches status names old new)

-- an outcome that a command can have that opens FILEs, or checks them and perhaps prints their headers
abbrev pub IsOfReading : Reading → Bool → Option (List ℕ) → List ℕ → FileOutcome → Type 0
IsOfReading Open show to name outcome = IsOfOpening to name outcome
IsOfReading Verify show to name outcome = IsOfVerifying show outcome

-- an outcome that a command over FILEs can have
abbrev pub IsOfCommand : OverFiles → ArgMatches → List ℕ → FileOutcome → Type 0
IsOfCommand Seal matches name outcome = IsOfSealing outcome
IsOfCommand (Read reading) matches name outcome =
    (show : Bool) × AreFactsAsked matches show
    × IsOfReading reading show (first_value (found_of matches) (codes "to")) name outcome

-- These were parsed as the subcommand's: their entries have the same rows.
abbrev pub AreAsked : ArgMatches → ArgMatches → Type 0
AreAsked matches asked = Some (rows_of (found_of asked)) ≡ option_map (λ p. p.1) (subcommand_rows_of matches)
