-- Exit statuses.
use Rattle.std.specs.Prelude.{ℕ}
use Rattle.journal_core.specs.declared.verdict.Verdict.{Verdict}
use Rattle.journal_core.specs.declared.verdict.Verdict.TheVariants.{Legal, Malformed, Illegal}

-- of an audit
abbrev pub status_of : Verdict → ℕ
status_of (Legal tally) = 0
status_of (Malformed line) = 1
status_of (Illegal line) = 1
