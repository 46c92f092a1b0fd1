-- The pieces of a list, one more at a time.
use Rattle.std.proofs.Common.{◌≡◌, ◌≢◌, ◌∙◌, ℕ, zero, suc, List, [], ◌∷◌, ◌++◌, length, refl, ap, sym, map, inl, inr, arith, append_assoc, append-nil}
use Rattle.std.specs.List.{All}
use Rattle.std.proofs.lemmas.List.{map-append}
use Rattle.std.proofs.lemmas.List.Elements.{All-append}
use Rattle.folder_core.specs.Quotes.{quoted}
use Rattle.command_line.specs.Names.{each_ended, ArePiecesOf}
use Rattle.command_line.proofs.Ended.{each_ended-more}

-- what was cut off the list, and what lines show of it
abbrev pub AreCutUpTo : ℕ → List ℕ → List ℕ → List (List ℕ) → List (List ℕ) → Type 0
AreCutUpTo separator list rest before shown = (pieces : List (List ℕ)) × All (λ piece. All (λ byte. byte ≢ separator) piece) pieces
    × (list ≡ each_ended separator pieces ++ rest) × (shown ≡ before ++ map quoted pieces)

one : (P : List ℕ → Type 0) (piece : List ℕ) → P piece → All P (piece ∷ [])
one P piece is zero d less = is
one P piece is (suc k) d less = absurd (omega (arith, less))

longer : (before shown all : List (List ℕ)) (pieces : List (List ℕ)) (piece : List ℕ) → shown ≡ before ++ map quoted pieces
    → all ≡ shown ++ quoted piece ∷ [] → all ≡ before ++ map quoted (pieces ++ piece ∷ [])
longer before shown all pieces piece is more =
    more ∙ ap (λ l. l ++ quoted piece ∷ []) is ∙ append_assoc before (map quoted pieces) (quoted piece ∷ [])
    ∙ ap (λ l. before ++ l) (sym (map-append quoted pieces (piece ∷ [])))

pub one-more : (separator : ℕ) (list rest more : List ℕ) (before shown all : List (List ℕ)) (piece : List ℕ) → AreCutUpTo separator list rest before shown
    → rest ≡ piece ++ separator ∷ more → All (λ byte. byte ≢ separator) piece → all ≡ shown ++ quoted piece ∷ []
    → AreCutUpTo separator list more before all
one-more separator list rest more before shown all piece (pieces, are, whole, is) cut apart grown = (
  pieces ++ piece ∷ [],
  All-append (λ p. All (λ byte. byte ≢ separator) p) pieces (piece ∷ []) are (one (λ p. All (λ byte. byte ≢ separator) p) piece apart),
  whole ∙ ap (λ l. each_ended separator pieces ++ l) cut ∙ ap (λ l. each_ended separator pieces ++ l) (sym (append_assoc piece (separator ∷ []) more))
      ∙ sym (append_assoc (each_ended separator pieces) (piece ++ separator ∷ []) more) ∙ ap (λ l. l ++ more) (sym (each_ended-more separator pieces piece)),
  longer before shown all pieces piece is grown,
)

-- nothing is left
pub all-cut : (separator : ℕ) (list rest : List ℕ) (before shown : List (List ℕ)) → AreCutUpTo separator list rest before shown → length rest ≡ 0
    → (pieces : List (List ℕ)) × ArePiecesOf separator list pieces × (shown ≡ before ++ map quoted pieces)
all-cut separator list [] before shown (pieces, are, whole, is) empty = (pieces, (are, inl (whole ∙ append-nil (each_ended separator pieces))), is)
all-cut separator list (b ∷ bs) before shown (pieces, are, whole, is) empty = absurd (omega (arith, empty))

-- the rest is the last piece
pub last-piece : (separator : ℕ) (list rest : List ℕ) (before shown all : List (List ℕ)) → AreCutUpTo separator list rest before shown → rest ≢ []
    → All (λ byte. byte ≢ separator) rest → all ≡ shown ++ quoted rest ∷ []
    → (pieces : List (List ℕ)) × ArePiecesOf separator list pieces × (all ≡ before ++ map quoted pieces)
last-piece separator list rest before shown all (pieces, are, whole, is) some apart grown = (
  pieces ++ rest ∷ [],
  (
    All-append (λ p. All (λ byte. byte ≢ separator) p) pieces (rest ∷ []) are (one (λ p. All (λ byte. byte ≢ separator) p) rest apart),
    inr (pieces, rest, some, refl, whole),
  ),
  longer before shown all pieces rest is grown,
)
