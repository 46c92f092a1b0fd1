-- What was read of a text, character by character.
use Rattle.std.proofs.Common.{◌≡◌, ◌∙◌, arith, length, ℕ, List, [], ◌∷◌, ◌++◌, Option, None, Some, IsUtf8, ap, chars, encode_utf8_all, option_map, option_to_list, refl, sym, append_assoc, append-nil}
use Rattle.std.proofs.lemmas.Str.{IsUtf8-past_char, chars-nil, chars_past_char, encodes-append}
use Rattle.std.specs.Char.{encode_utf8}
use Rattle.std.specs.Option.{option_and_then}
use Rattle.folder_core.specs.Quotes.{ends, read_from, read_on, unquoted}
use Rattle.folder_core.specs.declared.quotes.Escape.{Escape}
use Rattle.folder_core.specs.declared.quotes.Escape.TheVariants.{Outside, Begun, Named, Digits}

-- the name that was read, and what the rest of the text says, are the name of the text
abbrev pub IsReadUpTo : List ℕ → List ℕ → Escape → List ℕ → Type 0
IsReadUpTo name rest escape text = IsUtf8 rest
    × (unquoted text ≡ option_map (λ more. name ++ encode_utf8_all more) (read_from (chars rest) escape))

pub begun : (text : List ℕ) → IsUtf8 text → IsReadUpTo [] text Outside text
unfolding unquoted
begun text utf8 = (utf8, refl)

-- a name grows by what was read
grown : (name read : List ℕ) (more : Option (List ℕ)) → option_map (λ cs. name ++ encode_utf8_all cs) (option_map (λ cs. read ++ cs) more)
    ≡ option_map (λ cs. (name ++ encode_utf8_all read) ++ encode_utf8_all cs) more
grown name read None = refl
grown name read (Some cs) = ap Some (ap (λ bs. name ++ bs) (encodes-append read cs) ∙ sym (append_assoc name (encode_utf8_all read) (encode_utf8_all cs)))

-- one character more
at_char : (name rest more text : List ℕ) (escape : Escape) (c : ℕ) (step : Option (Escape × Option ℕ)) → IsReadUpTo name rest escape text
    → rest ≡ encode_utf8 c ++ more → step ≡ read_on escape c
    → unquoted text ≡ option_map (λ cs. name ++ encode_utf8_all cs)
    (option_and_then (λ next. option_map (λ cs. option_to_list next.1 ++ cs) (read_from (chars more) next.0)) step)
at_char name rest more text escape c step held parts is =
    held.1 ∙ ap (λ cs. option_map (λ bs. name ++ encode_utf8_all bs) (read_from cs escape)) (chars_past_char rest more c held.0 parts)
    ∙ ap (λ one. option_map (λ cs. name ++ encode_utf8_all cs)
    (option_and_then (λ next. option_map (λ cs. option_to_list next.1 ++ cs) (read_from (chars more) next.0)) one)) (sym is)

pub one_more : (name longer rest more text : List ℕ) (escape next : Escape) (c : ℕ) (read : Option ℕ) → IsReadUpTo name rest escape text
    → rest ≡ encode_utf8 c ++ more → Some (next, read) ≡ read_on escape c → longer ≡ name ++ encode_utf8_all (option_to_list read)
    → IsReadUpTo longer more next text
one_more name longer rest more text escape next c read held parts is put = (
  IsUtf8-past_char rest more c held.0 parts,
  at_char name rest more text escape c (Some (next, read)) held parts is ∙ grown name (option_to_list read) (read_from (chars more) next)
      ∙ ap (λ bs. option_map (λ cs. bs ++ encode_utf8_all cs) (read_from (chars more) next)) (sym put),
)

-- no line shows this
pub stopped : (name rest more text : List ℕ) (escape : Escape) (c : ℕ) → IsReadUpTo name rest escape text
    → rest ≡ encode_utf8 c ++ more → None ≡ read_on escape c → unquoted text ≡ None
stopped name rest more text escape c held parts is = at_char name rest more text escape c None held parts is

-- what an end leaves is the name
left : (escape : Escape) (name : List ℕ) → option_map (λ more. name ++ encode_utf8_all more) (ends escape) ≡ option_map (λ _. name) (ends escape)
left Outside name = ap Some (append-nil name)
left Begun name = refl
left Named name = refl
left (Digits n) name = refl

-- the end
pub ended : (name rest text : List ℕ) (escape : Escape) → IsReadUpTo name rest escape text → length rest ≡ 0
    → unquoted text ≡ option_map (λ _. name) (ends escape)
ended name [] text escape held none =
    held.1 ∙ ap (λ cs. option_map (λ more. name ++ encode_utf8_all more) (read_from cs escape)) chars-nil ∙ left escape name
ended name (b ∷ bs) text escape held none = absurd (omega (arith, none))
