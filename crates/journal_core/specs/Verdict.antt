-- The verdict on a journal: any list of bytes is a legal journal, or has a first line that is malformed or illegal.
use Rattle.std.specs.Prelude.{◌≡◌, ◌≢◌, ◌⊎◌, ℕ, ◌+◌, ◌-◌, ◌<◌, List, [], ◌∷◌, ◌++◌, length, All, ⊤, codes}
use Rattle.std.specs.Fmt.{decimal}
use Rattle.journal_core.specs.declared.entry.Event.{Event}
use Rattle.journal_core.specs.declared.entry.Event.TheVariants.{Granted, Exhausted, Settled}
use Rattle.journal_core.specs.declared.entry.Entry.{Entry}
use Rattle.journal_core.specs.declared.verdict.Verdict.{Verdict}
use Rattle.journal_core.specs.declared.verdict.Verdict.TheVariants.{Legal as IsLegal, Malformed, Illegal}
use Rattle.journal_core.specs.History.{Terms, IsLawful, MayFollow, Legal, tally_of}
use Rattle.journal_core.specs.Range.{number_limit}
use Rattle.journal_core.specs.Text.{terms_text, entry_text, ended_lines, journal_lines}

-- a line has no line feed in it
abbrev pub IsLine : List ℕ → Type 0
IsLine line = All (λ byte. byte ≢ 10) line

-- the bytes are ended lines, cut at each line feed, and a rest: what follows the last line feed, or all bytes if there
-- is none
pub record IsCut (bytes : List ℕ) (lines : List (List ℕ)) (rest : List ℕ) : Type 0 where
  pub whole : bytes ≡ ended_lines lines ++ rest
  pub each : All IsLine lines
  pub last : IsLine rest

abbrev pub IsNumberOf32Bits : Event → Type 0
IsNumberOf32Bits (Granted n) = n < number_limit
IsNumberOf32Bits Exhausted = ⊤
IsNumberOf32Bits (Settled n way) = n < number_limit

-- the entry can be written as a line: its seat is 0 to 63, and its number is below 2^32
pub record IsWritable (e : Entry) : Type 0 where
  pub seat : e.seat < 64
  pub number : IsNumberOf32Bits e.event

-- the line is well formed: the first is a lawful range line, each later one an entry
abbrev pub IsWellFormed : List (List ℕ) → List ℕ → Type 0
IsWellFormed [] line = (terms : Terms) × IsLawful terms × (line ≡ terms_text terms)
IsWellFormed (first ∷ lines) line = (e : Entry) × IsWritable e × (line ≡ entry_text e)

-- no line yet, or a range line and the entries of a legal history
abbrev pub IsSound : List (List ℕ) → Type 0
IsSound [] = ⊤
IsSound (first ∷ lines) =
    (terms : Terms) × (history : List Entry) × (first ∷ lines ≡ journal_lines terms history) × IsLawful terms
    × Legal terms history

-- an ended line follows these, and isn't well formed
abbrev pub IsIllFormed : List (List ℕ) → List (List ℕ) → Type 0
IsIllFormed before lines =
    (line : List ℕ) × (later : List (List ℕ)) × (lines ≡ before ++ line ∷ later) × ¬ IsWellFormed before line

-- what follows the last line feed is an unended line: it has a byte, or the input is empty
abbrev pub IsUnended : List (List ℕ) → List ℕ → Type 0
IsUnended lines rest = rest ≡ [] → lines ≡ []

-- the line after the sound ones is malformed: an ended line that isn't well formed, or an unended one
abbrev pub IsMalformed : List (List ℕ) → List (List ℕ) → List ℕ → Type 0
IsMalformed before lines rest = IsIllFormed before lines ⊎ ((lines ≡ before) × IsUnended before rest)

-- the line after the sound ones is an entry that may not follow them
abbrev pub IsIllegal : Terms → List Entry → List (List ℕ) → Type 0
IsIllegal terms history lines =
    (e : Entry) × (later : List (List ℕ)) × (lines ≡ journal_lines terms history ++ entry_text e ∷ later)
    × IsWritable e × ¬ MayFollow terms history e

-- the verdict on lines and a rest; lines are counted from 1
abbrev pub Judges : List (List ℕ) → List ℕ → Verdict → Type 0
Judges lines rest (IsLegal tally) =
    (terms : Terms) × (history : List Entry) × (lines ≡ journal_lines terms history) × (rest ≡ []) × IsLawful terms
    × Legal terms history × (tally ≡ tally_of history)
Judges lines rest (Malformed n) =
    (before : List (List ℕ)) × IsSound before × IsMalformed before lines rest × (n ≡ length before + 1)
Judges lines rest (Illegal n) =
    (terms : Terms) × (history : List Entry) × IsLawful terms × Legal terms history
    × IsIllegal terms history lines × (n ≡ length history + 2)

-- the verdict on these bytes
pub record IsVerdict (bytes : List ℕ) (verdict : Verdict) : Type 0 where
  pub lines : List (List ℕ)
  pub rest : List ℕ
  pub cut : IsCut bytes lines rest
  pub judged : Judges lines rest verdict

-- the verdict's line; open numbers are those granted and not settled
abbrev pub verdict_text : Verdict → List ℕ
verdict_text (IsLegal tally) =
    codes "legal: " ++ decimal tally.granted ++ codes " granted, " ++ decimal tally.sealed ++ codes " sealed, "
    ++ decimal tally.void ++ codes " void, " ++ decimal (tally.granted - tally.sealed - tally.void) ++ codes " open, "
    ++ decimal tally.refused ++ codes " refused"
verdict_text (Malformed n) = codes "malformed line " ++ decimal n
verdict_text (Illegal n) = codes "illegal line " ++ decimal n
