-- The pieces of a list that are no names, one more at a time.
use Rattle.std.proofs.Common.{◌≡◌, ◌≢◌, ◌∙◌, ◌+◌, ℕ, zero, suc, List, [], ◌∷◌, ◌++◌, None, Some, IsUtf8, length, inl, inr, append-nil, refl, ap, sym, arith, append_assoc, length-append, option_map, option_to_list}
use Rattle.std.specs.List.{All}
use Rattle.std.specs.Str.{is_utf8}
use Rattle.std.proofs.lemmas.Bool.{false_from_ne_true}
use Rattle.std.proofs.lemmas.Str.{IsUtf8-from_is_utf8, is_utf8-from_IsUtf8}
use Rattle.command_line.specs.Names.{each_ended, ArePiecesOf, fault_of_piece, bad_pieces}
use Rattle.command_line.specs.declared.lists.BadPiece.{BadPiece}
use Rattle.command_line.specs.declared.lists.PieceFault.{PieceFault}
use Rattle.command_line.specs.declared.lists.PieceFault.TheVariants.{NotText}
use Rattle.std.proofs.lemmas.List.Elements.{All-append}
use Rattle.command_line.proofs.Ended.{each_ended-more}

pub text : (piece : List ℕ) → (length piece ≡ 0 → ⊥) → IsUtf8 piece → fault_of_piece piece ≡ None
unfolding fault_of_piece
text [] some is = absurd (some refl)
text (b ∷ bs) some is = rw (is_utf8-from_IsUtf8 (b ∷ bs) is) refl

pub no-text : (piece : List ℕ) → (length piece ≡ 0 → ⊥) → (IsUtf8 piece → ⊥) → fault_of_piece piece ≡ Some NotText
unfolding fault_of_piece
no-text [] some none = absurd (some refl)
no-text (b ∷ bs) some none = rw (false_from_ne_true (is_utf8 (b ∷ bs)) (λ is. none (IsUtf8-from_is_utf8 (b ∷ bs) is))) refl

pub bad-more : (n : ℕ) (pieces : List (List ℕ)) (piece : List ℕ)
    → bad_pieces n (pieces ++ piece ∷ []) ≡ bad_pieces n pieces ++ bad_pieces (n + length pieces) (piece ∷ [])
bad-more n [] piece = let e : n + 0 ≡ n = omega arith in rw e refl
bad-more n (first ∷ pieces) piece =
    let e : n + 1 + length pieces ≡ n + suc (length pieces) = omega arith in
    let this = option_to_list (option_map (λ fault. (n, fault, first)) (fault_of_piece first)) in
    ap (λ l. this ++ l) (bad-more (n + 1) pieces piece)
    ∙ sym (append_assoc this (bad_pieces (n + 1) pieces) (bad_pieces (n + 1 + length pieces) (piece ∷ [])))
    ∙ ap (λ m. (this ++ bad_pieces (n + 1) pieces) ++ bad_pieces m (piece ∷ [])) e

-- a bad piece, as the contracts have it
abbrev pub Bad : Type 0
Bad = ℕ × PieceFault × List ℕ

abbrev pub seen : BadPiece → Bad
seen one = (one.number, one.fault, one.bytes.now)

-- what was cut off the list, the number of the next piece, and the bad ones so far
abbrev pub AreReadUpTo : ℕ → List ℕ → List ℕ → ℕ → List Bad → Type 0
AreReadUpTo separator list rest number bad = (pieces : List (List ℕ)) × All (λ piece. All (λ byte. byte ≢ separator) piece) pieces
    × (list ≡ each_ended separator pieces ++ rest) × (number ≡ 1 + length pieces) × (bad ≡ bad_pieces 1 pieces)

one : (P : List ℕ → Type 0) (piece : List ℕ) → P piece → All P (piece ∷ [])
one P piece is zero d less = is
one P piece is (suc k) d less = absurd (omega (arith, less))

grown : (pieces : List (List ℕ)) (piece : List ℕ) (number : ℕ) (bad all : List Bad) → number ≡ 1 + length pieces → bad ≡ bad_pieces 1 pieces
    → all ≡ bad ++ bad_pieces number (piece ∷ []) → all ≡ bad_pieces 1 (pieces ++ piece ∷ [])
grown pieces piece number bad all counted is more =
    more ∙ ap (λ l. l ++ bad_pieces number (piece ∷ [])) is ∙ ap (λ n. bad_pieces 1 pieces ++ bad_pieces n (piece ∷ [])) counted
    ∙ sym (bad-more 1 pieces piece)

-- one more piece was cut off
pub one-more : (separator : ℕ) (list rest more : List ℕ) (number next : ℕ) (bad all : List Bad) (piece : List ℕ)
    → AreReadUpTo separator list rest number bad → rest ≡ piece ++ separator ∷ more → All (λ byte. byte ≢ separator) piece
    → next ≡ number + 1 → all ≡ bad ++ bad_pieces number (piece ∷ []) → AreReadUpTo separator list more next all
one-more separator list rest more number next bad all piece (pieces, are, whole, counted, is) cut apart after grew = (
  pieces ++ piece ∷ [],
  All-append (λ p. All (λ byte. byte ≢ separator) p) pieces (piece ∷ []) are (one (λ p. All (λ byte. byte ≢ separator) p) piece apart),
  whole ∙ ap (λ l. each_ended separator pieces ++ l) cut ∙ ap (λ l. each_ended separator pieces ++ l) (sym (append_assoc piece (separator ∷ []) more))
      ∙ sym (append_assoc (each_ended separator pieces) (piece ++ separator ∷ []) more) ∙ ap (λ l. l ++ more) (sym (each_ended-more separator pieces piece)),
  omega (arith, counted, after, length-append pieces (piece ∷ [])),
  grown pieces piece number bad all counted is grew,
)

-- nothing is left
pub all-read : (separator : ℕ) (list rest : List ℕ) (number : ℕ) (bad : List Bad) → AreReadUpTo separator list rest number bad → length rest ≡ 0
    → (pieces : List (List ℕ)) × ArePiecesOf separator list pieces × (bad ≡ bad_pieces 1 pieces)
all-read separator list [] number bad (pieces, are, whole, counted, is) empty =
    (pieces, (are, inl (whole ∙ append-nil (each_ended separator pieces))), is)
all-read separator list (b ∷ bs) number bad (pieces, are, whole, counted, is) empty = absurd (omega (arith, empty))

-- the rest is the last piece
pub last-piece : (separator : ℕ) (list rest : List ℕ) (number : ℕ) (bad all : List Bad) → AreReadUpTo separator list rest number bad → rest ≢ []
    → All (λ byte. byte ≢ separator) rest → all ≡ bad ++ bad_pieces number (rest ∷ [])
    → (pieces : List (List ℕ)) × ArePiecesOf separator list pieces × (all ≡ bad_pieces 1 pieces)
last-piece separator list rest number bad all (pieces, are, whole, counted, is) some apart grew = (
  pieces ++ rest ∷ [],
  (
    All-append (λ p. All (λ byte. byte ≢ separator) p) pieces (rest ∷ []) are (one (λ p. All (λ byte. byte ≢ separator) p) rest apart),
    inr (pieces, rest, some, refl, whole),
  ),
  grown pieces rest number bad all counted is grew,
)
