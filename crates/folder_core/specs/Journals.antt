-- The names of journals in a folder.
use Rattle.std.specs.Prelude.{ℕ, List, ◌++◌, codes}
use Rattle.std.specs.Fmt.{decimal}

-- the base name of a journal's file: its device, a second since 1970, and a count, each in decimal digits
abbrev pub journal_file : ℕ → ℕ → ℕ → List ℕ
journal_file device second count = codes "device-" ++ decimal device ++ codes "-" ++ decimal second
    ++ codes "-" ++ decimal count ++ codes ".journal"
