-- The names of the FILEs of a run, from the command line and from the list that it asks for.
use Rattle.std.specs.Prelude.{◌≡◌, ℕ, List, ◌++◌, Option, Some, None, codes, is_some, map, IfSome}
use Rattle.clap.specs.Matches.{first_value, found_of, one_text}
use Rattle.clap.specs.declared.parser.matches.ArgMatches.{ArgMatches}
use Rattle.command_line.specs.Given.{files_given}
use Rattle.command_line.specs.Asked.{IsNaming}
use Rattle.command_line.specs.Names.{ArePieces, IsListed}
use Rattle.command_line.specs.declared.names.Naming.{Naming}
use Rattle.command_line.specs.declared.names.Naming.TheVariants.{KeepGoing, Quoted, Plain}
use Rattle.folder_core.specs.Quotes.{quoted}

-- what ends each name of a list: a byte 0 with `--null`, else a line feed
pub record IsSeparator (matches : ArgMatches) (separator : ℕ) : Type 0 where
  pub given : one_text (found_of matches) (codes "null") ≡ Some (codes "true") → separator ≡ 0
  pub other : one_text (found_of matches) (codes "null") ≡ Some (codes "false") → separator ≡ 10
  pub without : one_text (found_of matches) (codes "null") ≡ None → separator ≡ 10

-- The text of the list that is asked for, if one is: from `-` it is all that the input had.
pub record IsListText (matches : ArgMatches) (input text : Option (List ℕ)) (separator : ℕ) : Type 0 where
  pub asked : is_some text ≡ is_some (first_value (found_of matches) (codes "files-from"))
  pub separated : IfSome text (λ _. IsSeparator matches separator)
  pub whole : first_value (found_of matches) (codes "files-from") ≡ Some (codes "-")
      → IfSome input (λ bytes. text ≡ Some bytes)

-- what a list has: names; with `--keep-going` all that is between its separators
abbrev pub IsListedBy : Naming → ℕ → Option (List ℕ) → List (List ℕ) → Type 0
IsListedBy KeepGoing separator text listed = ArePieces separator text listed
IsListedBy Quoted separator text listed = IsListed separator text listed
IsListedBy Plain separator text listed = IsListed separator text listed

-- names as a run has them: as they were given, or as lines show them
abbrev pub named_by : Naming → List (List ℕ) → List (List ℕ)
named_by KeepGoing names = map quoted names
named_by Quoted names = map quoted names
named_by Plain names = names

-- The names of a run: those of the command line, then those of its list. `--quote` and `--keep-going` say how it has them.
pub record AreNames (matches : ArgMatches) (input : Option (List ℕ)) (names : List (List ℕ)) : Type 0 where
  pub naming : Naming
  pub asked : IsNaming matches naming
  pub text : Option (List ℕ)
  pub separator : ℕ
  pub read : IsListText matches input text separator
  pub listed : List (List ℕ)
  pub each : IsListedBy naming separator text listed
  pub all : names ≡ named_by naming (files_given matches ++ listed)
