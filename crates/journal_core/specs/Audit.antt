-- What an audit keeps of the bytes that it has read.
use Rattle.std.specs.Prelude.{◌≡◌, ℕ, List, ◌++◌, length, take, All}
use Rattle.journal_core.specs.declared.progress.Progress.{Progress}
use Rattle.journal_core.specs.Judged.{Judged}
use Rattle.journal_core.specs.Text.{ended_lines}
use Rattle.journal_core.specs.Verdict.{IsLine}

-- the audit has read these lines and the prefix of one more
pub record Audits (progress : Progress) (lines : List (List ℕ)) (rest : List ℕ) : Type 0 where
  pub count : progress.lines ≡ length lines
  pub kept : take progress.kept_len progress.kept ≡ take 35 rest
  pub each : All IsLine lines
  pub last : IsLine rest
  pub state : Judged progress.state lines

-- the audit has read these bytes
pub record HasRead (progress : Progress) (bytes : List ℕ) : Type 0 where
  pub lines : List (List ℕ)
  pub rest : List ℕ
  pub whole : bytes ≡ ended_lines lines ++ rest
  pub audits : Audits progress lines rest
