-- What the slots that are left say of the pieces that are in their places.
use Rattle.std.proofs.Common.{◌≡◌, ℕ, ◌+◌, ◌<◌, ◌≤◌, List, [], ◌∷◌, ◌++◌, length, map, take, get_or, set, Option, None, inl, inr, sym, ap, arith, ◌∙◌, length-append, get_or-set_same, get_or-set_other, ext_get_or}
use Rattle.std.proofs.lemmas.List.{map-append, map-set, length-map, get_or-take, get_or_append_left, length-take-le}
use Rattle.std.proofs.lemmas.Bool.{cases_eq}
use Rattle.worker_core.specs.declared.slots.Expected.{Expected}
use Rattle.worker_core.specs.declared.piece.Piece.{Piece}
use Rattle.worker_core.specs.Rooms.{shown}
use Rattle.worker_core.specs.Slots.{expected_value}

-- of equal lists
whole : (values : List (Option (List ℕ))) (slots front : List Expected) (last : Expected) → slots ≡ front ++ last ∷ []
    → map expected_value slots ≡ take (length slots) values → map expected_value front ++ expected_value last ∷ [] ≡ take (length front + 1) values
whole values slots front last is each =
    sym (map-append expected_value front (last ∷ [])) ∙ sym (ap (map expected_value) is) ∙ each
    ∙ ap (λ n. take n values) (ap length is ∙ length-append front (last ∷ []))

-- without the last slot
pub slots-front : (values : List (Option (List ℕ))) (slots front : List Expected) (last : Expected) → slots ≡ front ++ last ∷ []
    → map expected_value slots ≡ take (length slots) values → length slots ≤ length values
    → map expected_value front ≡ take (length front) values
slots-front values slots front last is each few =
    let long : length slots ≡ length front + 1 = ap length is ∙ length-append front (last ∷ []) in
    let mapped = length-map front expected_value in
    ext_get_or None (map expected_value front) (take (length front) values)
    (mapped ∙ sym (length-take-le (length front) values (omega (arith, few, long))))
    (λ i below.
    let at : i < length (map expected_value front) = below in
    let e = ap (λ (l : List (Option (List ℕ))). get_or l i None) (whole values slots front last is each) in
    sym (get_or_append_left (map expected_value front) (expected_value last ∷ []) None i at) ∙ e
    ∙ get_or-take (length front + 1) values i None (omega (arith, mapped, at))
    ∙ sym (get_or-take (length front) values i None (omega (arith, mapped, at))))

-- one more piece in its place
pub placed-one : (values : List (Option (List ℕ))) (pieces : List Piece) (piece : Piece) (number k : ℕ)
    → number < length pieces → shown piece ≡ get_or values number None
    → (number < k → get_or (map shown pieces) k None ≡ get_or values k None)
    → number ≤ k → get_or (map shown (set pieces number piece)) k None ≡ get_or values k None
placed-one values pieces piece number k within is behind least =
    let mapped = length-map pieces shown in
    ap (λ (l : List (Option (List ℕ))). get_or l k None) (map-set shown pieces number piece)
    ∙ elim (cases_eq k number) [
      | inl same ↦ ap (λ n. get_or (set (map shown pieces) number (shown piece)) n None) same
          ∙ get_or-set_same (map shown pieces) number (shown piece) None (omega (arith, mapped, within)) ∙ is ∙ ap (λ n. get_or values n None) (sym same)
      | inr other ↦ get_or-set_other (map shown pieces) number k (shown piece) None other ∙ behind (omega (arith, least, other))
    ]

-- once no slot is left all pieces are in their places
pub placed-all : (values : List (Option (List ℕ))) (pieces : List Piece) → length values ≤ length pieces
    → ((k : ℕ) → k < length values → get_or (map shown pieces) k None ≡ get_or values k None)
    → take (length values) (map shown pieces) ≡ values
placed-all values pieces enough each =
    let mapped = length-map pieces shown in
    let long = length-take-le (length values) (map shown pieces) (omega (arith, mapped, enough)) in
    ext_get_or None (take (length values) (map shown pieces)) values long
    (λ i below. get_or-take (length values) (map shown pieces) i None (omega (arith, long, below)) ∙ each i (omega (arith, long, below)))
