-- The exit status of an audit, by what it read and printed.
use Rattle.std.specs.Prelude.{◌≡◌, ◌⊎◌, ◌∷◌, ◌++◌, ℕ, Bool, List, [], Option, IfSome, codes, false}
use Rattle.clap.specs.declared.parser.matches.ArgMatches.{ArgMatches}
use Rattle.command_line.specs.Given.{IsFlag}
use Rattle.sealing_core.specs.Status.{status_of}
use Rattle.io_core.specs.Streams.{Appends}
use Rattle.journal_core.specs.declared.verdict.Verdict.{Verdict}
use Rattle.ledger_core.specs.Verdict.{IsVerdict, verdict_text}

-- The status is 2; or the verdict on the input was printed, and the status is the verdict's.
abbrev pub IsPlain : Option (List ℕ) → ℕ → Option (List ℕ) → Option (List ℕ) → Type 0
IsPlain input status old new = (status ≡ 2) ⊎ ((verdict : Verdict) × (status ≡ status_of verdict)
    × IfSome input (λ journal. IsVerdict journal verdict)
    × Appends old new (verdict_text verdict ++ 10 ∷ []))

-- So it is without `--against`.
abbrev pub IsAudited : ArgMatches → Option (List ℕ) → ℕ → Option (List ℕ) → Option (List ℕ) → Type 0
IsAudited matches input status old new =
    (against : Bool) × IsFlag matches (codes "against") against × (against ≡ false → IsPlain input status old new)
