-- The journal's text: a range line, then a line for each entry. Each ends with a line feed.
use Rattle.std.specs.Prelude.{ℕ, List, [], ◌∷◌, ◌++◌, map, codes}
use Rattle.std.specs.Fmt.{decimal}
use Rattle.journal_core.specs.declared.entry.Way.{Way}
use Rattle.journal_core.specs.declared.entry.Way.TheVariants.{Sealed, Void}
use Rattle.journal_core.specs.declared.entry.Event.{Event}
use Rattle.journal_core.specs.declared.entry.Event.TheVariants.{Granted, Exhausted, Settled}
use Rattle.journal_core.specs.declared.entry.Entry.{Entry}
use Rattle.journal_core.specs.History.{Terms}

-- `range DEVICE LO SIZE SEATS`
abbrev pub terms_text : Terms → List ℕ
terms_text terms =
    codes "range " ++ decimal terms.range.device ++ codes " " ++ decimal terms.range.lo ++ codes " "
    ++ decimal terms.range.size ++ codes " " ++ decimal terms.seats

abbrev pub way_text : Way → List ℕ
way_text Sealed = codes "sealed"
way_text Void = codes "void"

-- `issue NUMBER`, `issue none`, `sealed NUMBER` or `void NUMBER`
abbrev pub event_text : Event → List ℕ
event_text (Granted number) = codes "issue " ++ decimal number
event_text Exhausted = codes "issue none"
event_text (Settled number way) = way_text way ++ 32 ∷ decimal number

-- `SEAT`, a space, and the event
abbrev pub entry_text : Entry → List ℕ
entry_text e = decimal e.seat ++ codes " " ++ event_text e.event

-- lines, each followed by a line feed
abbrev pub ended_lines : List (List ℕ) → List ℕ
ended_lines [] = []
ended_lines (line ∷ lines) = line ++ 10 ∷ ended_lines lines

abbrev pub journal_lines : Terms → List Entry → List (List ℕ)
journal_lines terms history = terms_text terms ∷ map entry_text history

abbrev pub journal_text : Terms → List Entry → List ℕ
journal_text terms history = ended_lines (journal_lines terms history)
