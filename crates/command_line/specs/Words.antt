-- The words of the command line, with the values that mean a number (`20G`, `max`, `auto`) written in digits.
use Rattle.std.specs.Prelude.{ℕ, ◌-◌, ◌*◌, ◌^◌, min, max, Bool, ◌&&◌, ◌||◌, List, [], ◌∷◌, ◌++◌, length, take, Option, Some, None}
use Rattle.std.specs.Prelude.{codes, bytes_eq, decimal, option_map, unwrap_or, slice_index, nat_eq, nat_lt, ◌==◌, if◌then◌else◌}
use Rattle.std.specs.List.{before_first, after_first, ends_with}
use Rattle.std.specs.Str.{all_ascii_digits}
use Rattle.std.specs.Str.Parse.{without_leading_plus}
use Rattle.command_line.specs.Given.{numeral_value}
use Rattle.command_line.specs.declared.words.Shorthand.{Shorthand}
use Rattle.command_line.specs.declared.words.Shorthand.TheVariants.{Limit, Processors, Nothing}

-- K, M, G and T denote powers of 1,024
abbrev pub unit_of : ℕ → Option ℕ
unit_of letter = if letter == 75 then Some (1024 ^ 1) else if letter == 77 then Some (1024 ^ 2)
    else if letter == 71 then Some (1024 ^ 3) else if letter == 84 then Some (1024 ^ 4) else None

-- a number of 64 bits in base ten, perhaps after a plus
abbrev pub is_numeral : List ℕ → Bool
is_numeral text = nat_lt 0 (length (without_leading_plus text))
    && (all_ascii_digits (without_leading_plus text) && nat_lt (numeral_value text) (2 ^ 64))

-- what a number with a letter after it denotes
unfoldable pub scaled : List ℕ → Option ℕ
scaled text = let digits = take (length text - 1) text in
    if is_numeral digits then option_map (λ unit. numeral_value digits * unit) (unit_of (slice_index text (length text - 1))) else None

-- the number that a value denotes: for a limit a number with a letter, or `max` for the greatest; for workers and lanes
-- `auto`, the number of processors, from 1 to 16. None if it is a plain number, or not understood
unfoldable pub stands_for : ℕ → Shorthand → List ℕ → Option ℕ
stands_for processors (Limit most) value = if bytes_eq value (codes "max") then Some most else scaled value
stands_for processors Processors value = if bytes_eq value (codes "auto") then Some (max 1 (min processors 16)) else None
stands_for processors Nothing value = None

-- which shorthand the option of this name has, if `most` is the greatest of --max-bytes
unfoldable pub shorthand_of : ℕ → List ℕ → Shorthand
shorthand_of most name = if bytes_eq name (codes "--max-bytes") then Limit most
    else if bytes_eq name (codes "--max-chunks") then Limit (2 ^ 32 - 1)
    else if bytes_eq name (codes "--workers") then Processors
    else if bytes_eq name (codes "--lanes") then Processors else Nothing

-- the number that a word denotes if it is an option, an equals sign and its value
unfoldable pub inline_number : ℕ → ℕ → List ℕ → Option ℕ
inline_number processors most word =
    stands_for processors (shorthand_of most (before_first (λ b. b == 61) word)) (after_first (λ b. b == 61) word)

-- a word after an option that has this shorthand: an option with its value, that option's value, or the word as it is
unfoldable pub word_read : ℕ → ℕ → Shorthand → List ℕ → List ℕ
word_read processors most before word =
    unwrap_or (option_map (λ n. before_first (λ b. b == 61) word ++ 61 ∷ decimal n) (inline_number processors most word))
    (unwrap_or (option_map decimal (stands_for processors before word)) word)

-- the words of a command, each after an option or not, up to `--`
unfoldable pub words_read : ℕ → ℕ → Shorthand → List (List ℕ) → List (List ℕ)
words_read processors most before [] = []
words_read processors most before (word ∷ words) = if bytes_eq word (codes "--") then word ∷ words
    else word_read processors most before word ∷ words_read processors most (shorthand_of most word) words

-- the greatest of --max-bytes: 1T for seal, else the longest plaintext of a container
unfoldable pub most_bytes : List ℕ → ℕ
most_bytes command = if bytes_eq command (codes "seal") then 2 ^ 40 else 2 ^ 52 - 2 ^ 20

-- the words of the command line, which begin with the program's name and the command
unfoldable pub written_out : ℕ → List (List ℕ) → List (List ℕ)
written_out processors (program ∷ command ∷ words) = program ∷ command ∷ words_read processors (most_bytes command) Nothing words
written_out processors (program ∷ []) = program ∷ []
written_out processors [] = []

-- a word that asks for the number of processors
abbrev pub asks : List ℕ → Bool
asks word = bytes_eq word (codes "auto") || ends_with nat_eq word (codes "=auto")
