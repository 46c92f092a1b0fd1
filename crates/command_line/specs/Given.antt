-- What was given on the command line: what a parse found under the name of an option.
use Rattle.std.specs.Prelude.{◌≡◌, ◌≢◌, ◌≤◌, ◌⊎◌, ℕ, Bool, List, [], Option, Some, None, codes, true, false, ◌||◌, is_some, option_map, unwrap_or}
use Rattle.std.specs.Bool.{⊤}
use Rattle.std.specs.Str.Parse.{IsNumeral, digits_value, without_leading_plus}
use Rattle.clap.specs.Matches.{first_value, found_of, matched_of, one_text, raw_values}
use Rattle.clap.specs.declared.parser.matches.ArgMatches.{ArgMatches}

-- the number that a text writes in base ten, perhaps after a plus
abbrev pub numeral_value : List ℕ → ℕ
numeral_value text = digits_value 10 (without_leading_plus text)

-- the number that was given, if any
abbrev pub number_given : ArgMatches → List ℕ → Option ℕ
number_given matches option = option_map numeral_value (one_text (found_of matches) option)

-- a text writes a number of this range, or none was given
abbrev pub IsGivenWithin : ℕ → ℕ → Option (List ℕ) → Type 0
IsGivenWithin least most None = ⊤
IsGivenWithin least most (Some text) =
    IsNumeral 10 (without_leading_plus text) × (least ≤ numeral_value text) × (numeral_value text ≤ most)

-- a flag is true if it was given, else false: a parse finds one of these two words, or nothing
pub record IsFlag (matches : ArgMatches) (flag : List ℕ) (value : Bool) : Type 0 where
  pub given : one_text (found_of matches) flag ≡ Some (codes "true") → value ≡ true
  pub other : one_text (found_of matches) flag ≡ Some (codes "false") → value ≡ false
  pub without : one_text (found_of matches) flag ≡ None → value ≡ false

-- The facts of good containers are asked for: by `--show`, or by an option that needs them, `--json` or `--against`.
pub record AreFactsAsked (matches : ArgMatches) (value : Bool) : Type 0 where
  pub show : Bool
  pub json : Bool
  pub shown : IsFlag matches (codes "show") show
  pub objects : IsFlag matches (codes "json") json
  pub any : value ≡ (show || (json || is_some (first_value (found_of matches) (codes "against"))))

-- the files that were given
abbrev pub files_given : ArgMatches → List (List ℕ)
files_given matches = unwrap_or (option_map raw_values (matched_of (found_of matches) (codes "FILE"))) []

-- an option for several files was given: a folder for the outputs, a list, or that existing outputs are kept
abbrev pub IsForMany : ArgMatches → Type 0
IsForMany matches = (first_value (found_of matches) (codes "into") ≢ None) ⊎ (first_value (found_of matches) (codes "files-from") ≢ None)
    ⊎ IsFlag matches (codes "skip-existing") true
